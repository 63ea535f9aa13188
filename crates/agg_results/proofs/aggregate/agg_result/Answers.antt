use Rattle.std.proofs.Common.{◌≡◌, ℤ, cond, Some, sym, ap, ◌∙◌}
use Rattle.std.specs.Prelude.{◌==◌}
use Rattle.ct_value.specs.Bag.{bag_of_counts}
use Rattle.ct_value.specs.Order.{row_cmp}
use Rattle.ct_value.specs.declared.ty.Ty.{Ty}
use Rattle.ct_value.specs.declared.value.Value.TheVariants.{Null}
use Rattle.rel_algebra.specs.Aggregates.{Values, agg_value, average, count_value, in_type, known, size, sum_of, sum_type, ty_or_bigint, type_in, values_of}
use Rattle.agg_results.proofs.Sizes.{rows-size, known-total, sum-parts}
use Rattle.agg_results.proofs.aggregate.agg_result.Goals as goal

pub returns-in-CountAll : goal.returns-in-CountAll
returns-in-CountAll c =
    let values : Values = values_of c.args.agg.now (bag_of_counts {R = row_cmp} c.args.members.now) in
    let ty : Ty = ty_or_bigint (type_in c.args.columns.now c.args.agg.now.arg) in
    c.count_value.ensures ∙ ap count_value (c.total_of.ensures.rows ∙ sym (rows-size c.args.agg.now c.args.members.now)) ∙ sym (ap (λ call. agg_value call ty values) c.in-CountAll.is)

pub returns-in-Count : goal.returns-in-Count
returns-in-Count c =
    let values : Values = values_of c.args.agg.now (bag_of_counts {R = row_cmp} c.args.members.now) in
    let ty : Ty = ty_or_bigint (type_in c.args.columns.now c.args.agg.now.arg) in
    c.count_value-in-Count.ensures ∙ ap count_value (c.total_of-in-Count.ensures.known ∙ sym (known-total c.args.agg.now (λ _. 1) c.args.members.now)) ∙ sym (ap (λ call. agg_value call ty values) c.in-Count.is)

pub returns-in-Sum : goal.returns-in-Sum
returns-in-Sum c =
    let values : Values = values_of c.args.agg.now (bag_of_counts {R = row_cmp} c.args.members.now) in
    let ty : Ty = ty_or_bigint (type_in c.args.columns.now c.args.agg.now.arg) in
    let sum : ℤ = sum_of (known values) in
    let number : c.total_of-in-Sum.result.known ≡ size (known values) = c.total_of-in-Sum.ensures.known ∙ sym (known-total c.args.agg.now (λ _. 1) c.args.members.now) in
    c.sum_value.ensures sum (sum-parts c.args.agg.now c.args.members.now _ _ c.total_of-in-Sum.ensures.below c.total_of-in-Sum.ensures.above)
    ∙ (λ i. cond (number i == 0) (Some Null) (in_type (sum_type (c.arg_type-ty.ensures i)) sum))
    ∙ sym (ap (λ call. agg_value call ty values) c.in-Sum.is)

pub returns-in-Avg : goal.returns-in-Avg
returns-in-Avg c =
    let values : Values = values_of c.args.agg.now (bag_of_counts {R = row_cmp} c.args.members.now) in
    let ty : Ty = ty_or_bigint (type_in c.args.columns.now c.args.agg.now.arg) in
    let sum : ℤ = sum_of (known values) in
    let number : c.total_of-in-Avg.result.known ≡ size (known values) = c.total_of-in-Avg.ensures.known ∙ sym (known-total c.args.agg.now (λ _. 1) c.args.members.now) in
    c.average_value.ensures sum (sum-parts c.args.agg.now c.args.members.now _ _ c.total_of-in-Avg.ensures.below c.total_of-in-Avg.ensures.above)
    ∙ (λ i. cond (number i == 0) (Some Null) (average (c.arg_type-ty.ensures i) sum (number i)))
    ∙ sym (ap (λ call. agg_value call ty values) c.in-Avg.is)
