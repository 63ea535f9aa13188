use Rattle.std.proofs.Common.{subst, arith}
use Rattle.agg_fns.specs.Standing.{StandsFor}
use Rattle.agg_fns.proofs.Stands.{row_counted, value_counted, total_counted, average_counted}
use Rattle.agg_fns.proofs.acc.Acc.remove.Goals as goal

pub overflow_sub-count : goal.overflow_sub-count
overflow_sub-count c =
    let held = c.requires.stands in
    row_counted held.0 held.1 c.in-RowCount.count held.2 c.args.value.now (subst (λ acc. StandsFor held.0 held.1 acc held.2) c.in-RowCount.is held.3) held.4

pub overflow_sub-count-in-ValueCount : goal.overflow_sub-count-in-ValueCount
overflow_sub-count-in-ValueCount c =
    let held = c.requires.stands in
    let counted = value_counted held.0 held.1 c.in-ValueCount.count held.2 c.args.value.now (subst (λ acc. StandsFor held.0 held.1 acc held.2) c.in-ValueCount.is held.3) held.4 in
    let known = c.known_count.ensures in
    omega arith

pub remove-requires-in-Total : goal.remove-requires-in-Total
remove-requires-in-Total c =
    let held = c.requires.stands in
    total_counted held.0 held.1 c.in-Total.numbers held.2 c.args.value.now (subst (λ acc. StandsFor held.0 held.1 acc held.2) c.in-Total.is held.3) held.4

pub remove-requires-in-Average : goal.remove-requires-in-Average
remove-requires-in-Average c =
    let held = c.requires.stands in
    average_counted held.0 held.1 c.in-Average.numbers held.2 c.args.value.now (subst (λ acc. StandsFor held.0 held.1 acc held.2) c.in-Average.is held.3) held.4
