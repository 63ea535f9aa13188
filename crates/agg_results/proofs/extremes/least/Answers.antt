use Rattle.std.proofs.Common.{◌≡◌, ◌+◌, ◌-◌, ◌<◌, ℕ, List, ◌∷◌, drop, length, sym, ap, arith, ◌∙◌}
use Rattle.ct_value.specs.Bag.{items, bag_of_counts}
use Rattle.ct_value.proofs.laws.Bags.{items-none}
use Rattle.ct_value.specs.Order.{value_cmp, row_cmp}
use Rattle.ct_value.specs.declared.row.Row.{Row}
use Rattle.rel_algebra.specs.Aggregates.{Values, known, values_of, first_value}
use Rattle.agg_results.specs.Extremes.{lesser}
use Rattle.agg_results.specs.Taken.{or_null}
use Rattle.agg_results.proofs.ExtremeItems.{first_item, first-value, first-more, known-none, counted_at, drop_more, drop_end}
use Rattle.agg_results.proofs.extremes.least.Goals as goal

pub rows-init : goal.rows-init
rows-init c = (
  sym (ap (λ (es : List (Row × ℕ)). first_item (items (known (values_of c.args.agg.now (bag_of_counts {R = row_cmp} es))))) (drop_end c.args.members.now (length c.args.members.now) (omega arith))
      ∙ ap (λ (values : Values). first_item (items values)) (known-none c.args.agg.now) ∙ ap first_item (items-none value_cmp)),
  omega arith,
)

pub rows-preserved : goal.rows-preserved
rows-preserved c =
    let x : Row × ℕ = c.index-members-place.result in
    let next : c.rows.place - 1 + 1 ≡ c.rows.place = omega (arith, c.rows-test.true) in
    let within : c.rows.place - 1 < length c.args.members.now = omega (arith, c.rows-test.true, c.rows.invariant.1) in
    let more : drop (c.rows.place - 1) c.args.members.now ≡ x ∷ drop c.rows.place c.args.members.now = drop_more c.args.members.now (c.rows.place - 1) x within c.index-members-place.is ∙ ap (λ k. x ∷ drop k c.args.members.now) next in (
      c.lesser-best.ensures ∙ (λ i. lesser (c.taken.ensures i) (c.rows.invariant.0 i))
          ∙ sym (first-more c.args.agg.now x.0 (drop c.rows.place c.args.members.now) x.1 (counted_at c.args.members.now (c.rows.place - 1) x within c.index-members-place.is c.requires))
          ∙ ap (λ (es : List (Row × ℕ)). first_item (items (known (values_of c.args.agg.now (bag_of_counts {R = row_cmp} es))))) (sym more),
      omega (arith, c.rows.invariant.1),
    )

pub returns : goal.returns
returns c =
    let zero_ : c.rows.place ≡ 0 = omega (arith, c.rows-test.false) in
    ap or_null c.rows.invariant.0
    ∙ first-value (items (known (values_of c.args.agg.now (bag_of_counts (drop c.rows.place c.args.members.now)))))
    ∙ ap (λ k. first_value (items (known (values_of c.args.agg.now (bag_of_counts (drop k c.args.members.now)))))) zero_
