use Rattle.std.proofs.Common.{subst, arith}
use Rattle.std.proofs.lemmas.Int.{ints}
use Rattle.agg_fns.specs.ComeAndGone.{StandsForBoth}
use Rattle.agg_fns.proofs.Locals.{net_known_come, rows_above, values_above, total_above, average_above}
use Rattle.agg_fns.proofs.local_acc.LocalAcc.add.Goals as goal

pub overflow_add-count : goal.overflow_add-count
overflow_add-count c =
    let held = c.requires in
    let room = rows_above held.0 held.1 held.2 held.4 c.in-RowCount.count (subst (λ acc. StandsForBoth held.0 acc held.1 held.2) c.in-RowCount.is held.3) in
    omega (arith, ints)

pub count_with-requires : goal.count_with-requires
count_with-requires c =
    let held = c.requires in
    let room = values_above held.0 held.1 held.2 held.4 c.in-ValueCount.count (subst (λ acc. StandsForBoth held.0 acc held.1 held.2) c.in-ValueCount.is held.3) in
    omega (arith, ints)

pub add-requires : goal.add-requires
add-requires c =
    let held = c.requires in
    total_above held.0 held.1 held.2 held.4 c.in-Total.numbers (subst (λ acc. StandsForBoth held.0 acc held.1 held.2) c.in-Total.is held.3)

pub add-requires-in-Average : goal.add-requires-in-Average
add-requires-in-Average c =
    let held = c.requires in
    average_above held.0 held.1 held.2 held.4 c.in-Average.numbers (subst (λ acc. StandsForBoth held.0 acc held.1 held.2) c.in-Average.is held.3)

pub returns-in-ValueCount-clause-stands : goal.returns-in-ValueCount-clause-stands
returns-in-ValueCount-clause-stands c = λ call come gone stands.
    let at = subst (λ acc. StandsForBoth call acc come gone) c.in-ValueCount.is stands in
    let more = net_known_come come gone c.args.value.now in
    let made = c.count_with.ensures in
    (at.0, omega (arith, ints))
