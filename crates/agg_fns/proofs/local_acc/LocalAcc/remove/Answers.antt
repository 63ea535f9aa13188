use Rattle.std.proofs.Common.{subst, arith}
use Rattle.std.proofs.lemmas.Int.{ints}
use Rattle.agg_fns.specs.ComeAndGone.{StandsForBoth}
use Rattle.agg_fns.proofs.Locals.{rows_below, values_below, total_below, average_below}
use Rattle.agg_fns.proofs.local_acc.LocalAcc.remove.Goals as goal

pub overflow_sub-count : goal.overflow_sub-count
overflow_sub-count c =
    let held = c.requires in
    let room = rows_below held.0 held.1 held.2 held.5 c.in-RowCount.count (subst (λ acc. StandsForBoth held.0 acc held.1 held.2) c.in-RowCount.is held.3) in
    omega (arith, ints)

pub count_without-requires : goal.count_without-requires
count_without-requires c =
    let held = c.requires in
    let room = values_below held.0 held.1 held.2 held.5 c.in-ValueCount.count (subst (λ acc. StandsForBoth held.0 acc held.1 held.2) c.in-ValueCount.is held.3) in
    omega (arith, ints)

pub remove-requires : goal.remove-requires
remove-requires c =
    let held = c.requires in
    total_below held.0 held.1 held.2 held.5 c.in-Total.numbers (subst (λ acc. StandsForBoth held.0 acc held.1 held.2) c.in-Total.is held.3)

pub remove-requires-in-Average : goal.remove-requires-in-Average
remove-requires-in-Average c =
    let held = c.requires in
    average_below held.0 held.1 held.2 held.5 c.in-Average.numbers (subst (λ acc. StandsForBoth held.0 acc held.1 held.2) c.in-Average.is held.3)
