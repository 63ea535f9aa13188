use Rattle.std.proofs.Common.{◌≡◌, ℕ, List, ◌∷◌, sym, ap, ◌∙◌}
use Rattle.std.proofs.lemmas.Map.Iter.{rest_more, rest_all}
use Rattle.ct_value.specs.Bag.{bag_of_counts}
use Rattle.ct_value.specs.Order.{row_cmp}
use Rattle.ct_value.specs.declared.row.Row.{Row}
use Rattle.rel_algebra.specs.Sums.{together}
use Rattle.batch_answer.proofs.TalliedBags.{few-tally, added-start, added-turn, added-room, added-end}
use Rattle.batch_answer.proofs.tables.bag_of.Goals as goal

pub loop-row-init : goal.loop-row-init
loop-row-init c =
    let gives = c.into_iter-row-iterator.ensures.into_iter_gives.0 in (
      added-start c.args.rows c.new-made.result c.into_iter-row-iterator.result c.new-made.ensures (ap (λ (r : List (Row × ℕ)). bag_of_counts {R = row_cmp} r) gives ∙ c.into_counts-row-items.ensures.same),
      few-tally c.into_counts-row-items.result c.args.rows c.into_counts-row-items.ensures.counted c.into_counts-row-items.ensures.same,
    )

pub add_many-requires : goal.add_many-requires
add_many-requires c =
    let more = rest_more (λ (p : Row × ℕ). p) c.loop-row.row-iterator c.next.new.self c.next.result (c.in-Some.row, c.in-Some.count) c.in-Some.is c.next.ensures.steps in
    let before : together c.loop-row.made (bag_of_counts {R = row_cmp} ((c.in-Some.row, c.in-Some.count) ∷ c.next.new.self)) ≡ c.args.rows = ap (λ (r : List (Row × ℕ)). together c.loop-row.made (bag_of_counts {R = row_cmp} r)) (sym more) ∙ c.loop-row.invariant.0 in
    added-room c.args.rows c.loop-row.made c.in-Some.row c.in-Some.count c.next.new.self before c.loop-row.invariant.1

pub loop-row-preserved : goal.loop-row-preserved
loop-row-preserved c =
    let more = rest_more (λ (p : Row × ℕ). p) c.loop-row.row-iterator c.next.new.self c.next.result (c.in-Some.row, c.in-Some.count) c.in-Some.is c.next.ensures.steps in
    let before : together c.loop-row.made (bag_of_counts {R = row_cmp} ((c.in-Some.row, c.in-Some.count) ∷ c.next.new.self)) ≡ c.args.rows = ap (λ (r : List (Row × ℕ)). together c.loop-row.made (bag_of_counts {R = row_cmp} r)) (sym more) ∙ c.loop-row.invariant.0 in
    (added-turn c.args.rows c.loop-row.made c.in-Some.row c.in-Some.count c.next.new.self before c.add_many.new.self c.in_ok-add_many.ensures.ok, c.loop-row.invariant.1)

pub returns : goal.returns
returns c =
    added-end c.args.rows c.loop-row.made c.loop-row.row-iterator (rest_all (λ (p : Row × ℕ). p) c.loop-row.row-iterator c.next.new.self c.next.result c.in-None.is c.next.ensures.steps) c.loop-row.invariant.0
