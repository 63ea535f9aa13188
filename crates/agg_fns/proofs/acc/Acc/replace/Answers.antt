use Rattle.std.proofs.Common.{◌≤◌, true, false, cond, subst, arith}
use Rattle.ct_field.specs.Typed.{is_null}
use Rattle.agg_fns.specs.Standing.{StandsFor}
use Rattle.agg_fns.proofs.Stands.{value_counted, total_counted, average_counted}
use Rattle.agg_fns.proofs.Replaced.{value_room, total_room, average_room, distinct_room, least_room, greatest_room, distinct_there, least_there, greatest_there, count_replaced}
use Rattle.agg_fns.proofs.acc.Acc.replace.Goals as goal

pub overflow_sub-count : goal.overflow_sub-count
overflow_sub-count c =
    let held = c.requires.stands in
    let counted = value_counted held.0 held.1 c.in-ValueCount.count held.2 c.args.old.now (subst (λ acc. StandsFor held.0 held.1 acc held.2) c.in-ValueCount.is held.3) held.4 in
    let known = c.known_count.ensures in
    omega arith

pub overflow_add-count : goal.overflow_add-count
overflow_add-count c =
    let held = c.requires.stands in
    let room = value_room held.0 held.1 held.2 held.5 c.in-ValueCount.count (subst (λ acc. StandsFor held.0 held.1 acc held.2) c.in-ValueCount.is held.3) in
    let one : cond (is_null c.args.fresh.now) 0 1 ≤ 1 = elim (is_null c.args.fresh.now) as (λ b. cond b 0 1 ≤ 1) [ true ↦ omega arith | false ↦ omega arith ] in
    let known = c.known_count-in-ValueCount.ensures in
    omega arith

pub returns-in-ValueCount-clause-stands : goal.returns-in-ValueCount-clause-stands
returns-in-ValueCount-clause-stands c = λ call ty values stands some.
    let at = subst (λ acc. StandsFor call ty acc values) c.in-ValueCount.is stands in
    let counted = value_counted call ty c.in-ValueCount.count values c.args.old.now at some in
    let gone = c.known_count.ensures in
    (at.0, count_replaced values c.args.old.now c.args.fresh.now c.in-ValueCount.count c.known_count.result c.known_count-in-ValueCount.result some at.1 c.known_count.ensures c.known_count-in-ValueCount.ensures (omega arith))

pub replace-requires-clause-few : goal.replace-requires-clause-few
replace-requires-clause-few c =
    let held = c.requires.stands in
    distinct_room held.0 held.1 held.2 held.5 c.in-DistinctCount.distinct (subst (λ acc. StandsFor held.0 held.1 acc held.2) c.in-DistinctCount.is held.3)

pub replace-requires-clause-stands : goal.replace-requires-clause-stands
replace-requires-clause-stands c =
    let held = c.requires.stands in
    distinct_there held.0 held.1 held.2 c.args.old.now held.4 c.in-DistinctCount.distinct (subst (λ acc. StandsFor held.0 held.1 acc held.2) c.in-DistinctCount.is held.3)

pub replace-requires-in-Total-clause-held : goal.replace-requires-in-Total-clause-held
replace-requires-in-Total-clause-held c =
    let held = c.requires.stands in
    total_counted held.0 held.1 c.in-Total.numbers held.2 c.args.old.now (subst (λ acc. StandsFor held.0 held.1 acc held.2) c.in-Total.is held.3) held.4

pub replace-requires-in-Total-clause-room : goal.replace-requires-in-Total-clause-room
replace-requires-in-Total-clause-room c =
    let held = c.requires.stands in
    total_room held.0 held.1 held.2 held.5 c.in-Total.numbers (subst (λ acc. StandsFor held.0 held.1 acc held.2) c.in-Total.is held.3)

pub replace-requires-in-Average-clause-held : goal.replace-requires-in-Average-clause-held
replace-requires-in-Average-clause-held c =
    let held = c.requires.stands in
    average_counted held.0 held.1 c.in-Average.numbers held.2 c.args.old.now (subst (λ acc. StandsFor held.0 held.1 acc held.2) c.in-Average.is held.3) held.4

pub replace-requires-in-Average-clause-room : goal.replace-requires-in-Average-clause-room
replace-requires-in-Average-clause-room c =
    let held = c.requires.stands in
    average_room held.0 held.1 held.2 held.5 c.in-Average.numbers (subst (λ acc. StandsFor held.0 held.1 acc held.2) c.in-Average.is held.3)

pub keep_for-requires-clause-room : goal.keep_for-requires-clause-room
keep_for-requires-clause-room c =
    let held = c.requires.stands in
    least_room held.0 held.1 held.2 held.5 c.in-LeastOf.kept (subst (λ acc. StandsFor held.0 held.1 acc held.2) c.in-LeastOf.is held.3)

pub keep_for-requires-clause-stands : goal.keep_for-requires-clause-stands
keep_for-requires-clause-stands c =
    let held = c.requires.stands in
    least_there held.0 held.1 held.2 c.args.old.now held.4 c.in-LeastOf.kept (subst (λ acc. StandsFor held.0 held.1 acc held.2) c.in-LeastOf.is held.3)

pub keep_for-requires-in-GreatestOf-clause-room : goal.keep_for-requires-in-GreatestOf-clause-room
keep_for-requires-in-GreatestOf-clause-room c =
    let held = c.requires.stands in
    greatest_room held.0 held.1 held.2 held.5 c.in-GreatestOf.kept (subst (λ acc. StandsFor held.0 held.1 acc held.2) c.in-GreatestOf.is held.3)

pub keep_for-requires-in-GreatestOf-clause-stands : goal.keep_for-requires-in-GreatestOf-clause-stands
keep_for-requires-in-GreatestOf-clause-stands c =
    let held = c.requires.stands in
    greatest_there held.0 held.1 held.2 c.args.old.now held.4 c.in-GreatestOf.kept (subst (λ acc. StandsFor held.0 held.1 acc held.2) c.in-GreatestOf.is held.3)
