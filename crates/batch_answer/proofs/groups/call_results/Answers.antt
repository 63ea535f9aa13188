use Rattle.std.proofs.Common.{◌≡◌, ◌+◌, List, ◌∷◌, drop, get_or, Some, Option, sym, ap, ◌∙◌}
use Rattle.ct_value.specs.Bag.{bag_of_counts}
use Rattle.ct_value.specs.Order.{row_cmp}
use Rattle.ct_value.specs.declared.value.Value.{Value}
use Rattle.std.proofs.lemmas.List.{at_drop_more}
use Rattle.rel_algebra.specs.GroupedCounts.{count_all}
use Rattle.rel_algebra.specs.declared.agg.Agg.{Agg}
use Rattle.rel_algebra.specs.Aggregates.{agg_result}
use Rattle.batch_answer.proofs.Lists.{collected, collected-start, collected-more, collected-out, collected-end, drop_end}
use Rattle.batch_answer.proofs.groups.call_results.Goals as goal

pub loop-agg-init : goal.loop-agg-init
loop-agg-init c =
    let f : Agg → Option Value = agg_result c.args.columns.now (bag_of_counts {R = row_cmp} c.args.members.now) in
    ap (λ xs. collected f xs c.in_ok-values.values) c.as_slice-agg-items.ensures ∙ collected-start f c.args.aggs.now c.in_ok-values.values c.in_ok-values.ensures

pub returns-in-None-clause-out : goal.returns-in-None-clause-out
returns-in-None-clause-out c = λ e.
    let f : Agg → Option Value = agg_result c.args.columns.now (bag_of_counts {R = row_cmp} c.args.members.now) in
    let items : List Agg = c.as_slice-agg-items.result.now in
    let x : Agg = get_or items c.loop-agg.agg-index count_all in
    let more : drop c.loop-agg.agg-index items ≡ x ∷ drop (c.loop-agg.agg-index + 1) items = at_drop_more (λ ys. ys) items c.loop-agg.agg-index count_all c.loop-agg-test.true in
    sym c.loop-agg.invariant ∙ ap (λ xs. collected f xs c.loop-agg.values) more
    ∙ collected-out f x (drop (c.loop-agg.agg-index + 1) items) c.loop-agg.values (sym c.in_ok-agg_result.ensures ∙ c.in-None.is)

pub loop-agg-preserved : goal.loop-agg-preserved
loop-agg-preserved c =
    let f : Agg → Option Value = agg_result c.args.columns.now (bag_of_counts {R = row_cmp} c.args.members.now) in
    let items : List Agg = c.as_slice-agg-items.result.now in
    let x : Agg = get_or items c.loop-agg.agg-index count_all in
    let more : drop c.loop-agg.agg-index items ≡ x ∷ drop (c.loop-agg.agg-index + 1) items = at_drop_more (λ ys. ys) items c.loop-agg.agg-index count_all c.loop-agg-test.true in
    sym (collected-more f x (drop (c.loop-agg.agg-index + 1) items) c.loop-agg.values c.push.new.self c.in-Some.value (sym c.in_ok-agg_result.ensures ∙ c.in-Some.is) c.in_ok-push-in-Some.ensures.ok)
    ∙ ap (λ xs. collected f xs c.loop-agg.values) (sym more) ∙ c.loop-agg.invariant

pub returns-clause-value : goal.returns-clause-value
returns-clause-value c =
    let f : Agg → Option Value = agg_result c.args.columns.now (bag_of_counts {R = row_cmp} c.args.members.now) in
    sym c.loop-agg.invariant
    ∙ collected-end f (drop c.loop-agg.agg-index c.as_slice-agg-items.result.now) c.loop-agg.values (drop_end c.as_slice-agg-items.result.now c.loop-agg.agg-index c.loop-agg-test.false)
    ∙ ap Some (sym c.from_values.ensures)
