use Rattle.std.proofs.Common.{◌≡◌, ◌+◌, ◌-◌, ◌<◌, ℕ, List, ◌∷◌, drop, length, sym, ap, arith, ◌∙◌}
use Rattle.std.specs.BTreeMap.{keys}
use Rattle.std.specs.Map.{keys_of}
use Rattle.ct_value.specs.Bag.{bag_of, bag_of_counts}
use Rattle.ct_value.specs.Order.{value_cmp, row_cmp}
use Rattle.ct_value.specs.declared.row.Row.{Row}
use Rattle.rel_algebra.specs.Aggregates.{Values, size, known, values_of}
use Rattle.rel_algebra.specs.Sums.{distinct}
use Rattle.agg_results.specs.Seen.{seen_too}
use Rattle.std.proofs.lemmas.Map.Entries.{length-keys_of}
use Rattle.agg_results.proofs.ExtremeItems.{counted_at, drop_more, drop_end}
use Rattle.agg_results.proofs.Different.{distinct-entry, distinct-start, size-bag_of}
use Rattle.agg_results.proofs.distinct_values.distinct_count.Goals as goal

pub rows-init : goal.rows-init
rows-init c = (
  ap (λ es. bag_of {R = value_cmp} (keys_of es)) c.new-seen.ensures.empty
      ∙ sym (ap (λ (es : List (Row × ℕ)). distinct (known (values_of c.args.agg.now (bag_of_counts {R = row_cmp} es)))) (drop_end c.args.members.now (length c.args.members.now) (omega arith)) ∙ distinct-start c.args.agg.now),
  omega arith,
)

pub rows-preserved : goal.rows-preserved
rows-preserved c =
    let x : Row × ℕ = c.index-members-place.result in
    let next : c.rows.place - 1 + 1 ≡ c.rows.place = omega (arith, c.rows-test.true) in
    let within : c.rows.place - 1 < length c.args.members.now = omega (arith, c.rows-test.true, c.rows.invariant.1) in
    let more : drop (c.rows.place - 1) c.args.members.now ≡ x ∷ drop c.rows.place c.args.members.now = drop_more c.args.members.now (c.rows.place - 1) x within c.index-members-place.is ∙ ap (λ k. x ∷ drop k c.args.members.now) next in (
      c.in_ok-see.ensures ∙ (λ i. seen_too (c.taken.ensures i) (c.rows.invariant.0 i))
          ∙ sym (distinct-entry c.args.agg.now x.0 (drop c.rows.place c.args.members.now) x.1 (counted_at c.args.members.now (c.rows.place - 1) x within c.index-members-place.is c.requires))
          ∙ ap (λ (es : List (Row × ℕ)). distinct (known (values_of c.args.agg.now (bag_of_counts {R = row_cmp} es)))) (sym more),
      omega (arith, c.rows.invariant.1),
    )

pub returns : goal.returns
returns c =
    let zero_ : c.rows.place ≡ 0 = omega (arith, c.rows-test.false) in
    c.len.ensures.len ∙ sym (length-keys_of c.rows.seen.entries) ∙ sym (size-bag_of (keys c.rows.seen)) ∙ ap (λ (b : Values). size b) c.rows.invariant.0
    ∙ ap (λ k. size (distinct (known (values_of c.args.agg.now (bag_of_counts {R = row_cmp} (drop k c.args.members.now)))))) zero_
