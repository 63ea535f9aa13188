use Rattle.std.proofs.Common.{sym, ap, subst, ◌∙◌, map, drop}
use Rattle.ct_value.specs.declared.ty.Ty.TheVariants.{BigInt}
use Rattle.rel_algebra.specs.declared.agg.AggCall.TheVariants.{CountAll}
use Rattle.rel_algebra.specs.Aggregates.{sum_of}
use Rattle.agg_fns.specs.Partial.{column_of}
use Rattle.agg_fns.specs.Reading.{all_blank}
use Rattle.phase_rules.specs.LocalGrouping.{parts_of_calls}
use Rattle.phase_rules.specs.Merging.{sums_of_calls}
use Rattle.op_merge.specs.Kept.{StandAll, calls}
use Rattle.op_merge.proofs.Counts.{not_nothing, as_the_rest}
use Rattle.op_merge.proofs.kept.Kept.is_blank.Goals as goal

pub returns-then-not-empty : goal.returns-then-not-empty
returns-then-not-empty c = λ l rows is.
    not_nothing (sum_of (column_of 0 rows)) c.is_blank-empty.result (c.is_blank-empty.ensures CountAll BigInt rows is.count) (all_blank (parts_of_calls l.aggs) (sums_of_calls l.aggs (map (λ row. drop 1 row) rows))) c.if-not-empty.true

pub returns : goal.returns
returns c = λ l rows is.
    let rest = map (λ row. drop 1 row) rows in
    as_the_rest (sum_of (column_of 0 rows)) c.is_blank-empty.result (c.is_blank-empty.ensures CountAll BigInt rows is.count) (all_blank (parts_of_calls l.aggs) (sums_of_calls l.aggs rest)) c.are_blank.result c.if-not-empty.false
    (c.are_blank.ensures l.columns rest (subst (λ ms. StandAll l.columns ms rest) (sym c.deref.ensures.value) is.stand) ∙ ap (λ aggs. all_blank (parts_of_calls aggs) (sums_of_calls aggs rest)) (ap calls c.deref.ensures.value ∙ is.calls_are))
