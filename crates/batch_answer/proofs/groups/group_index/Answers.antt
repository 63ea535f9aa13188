use Rattle.std.proofs.Common.{ℕ, List, take, refl, sym, ap, subst, ◌∙◌}
use Rattle.std.proofs.lemmas.Map.Iter.{rest_more, rest_all}
use Rattle.ct_value.specs.Bag.{bag_of_counts}
use Rattle.ct_value.specs.Order.{row_cmp}
use Rattle.ct_value.specs.declared.row.Row.{Row}
use Rattle.batch_answer.specs.Tallies.{AreCounted}
use Rattle.batch_answer.proofs.Indexes.{Building, building-start, building-put, building-end}
use Rattle.batch_answer.proofs.groups.group_index.Goals as goal

pub loop-row-init : goal.loop-row-init
loop-row-init c =
    let gives = c.into_iter-row-iterator.ensures.into_iter_gives.0 in
    building-start (take c.args.keys) c.args.rows c.new-index.result c.into_iter-row-iterator.result c.new-index.ensures.empty c.new-index.ensures.ordered
    (subst (λ (r : List (Row × ℕ)). AreCounted r) (sym gives) c.into_counts-row-items.ensures.counted.counted)
    (ap (λ (r : List (Row × ℕ)). bag_of_counts {R = row_cmp} r) gives ∙ c.into_counts-row-items.ensures.same)

pub loop-row-preserved : goal.loop-row-preserved
loop-row-preserved c =
    let more = rest_more (λ (p : Row × ℕ). p) c.loop-row.row-iterator c.next.new.self c.next.result (c.in-Some.row, c.in-Some.count) c.in-Some.is c.next.ensures.steps in
    building-put (take c.args.keys) c.args.rows c.loop-row.index c.put_under.new.index c.in-Some.row c.in-Some.count c.next.new.self c.in_ok-key.key c.in-Some.row
    c.in_ok-key.ensures refl c.in_ok-put_under.ensures.ordered c.in_ok-put_under.ensures.filled c.in_ok-put_under.ensures.found
    (subst (λ (r : List (Row × ℕ)). Building (take c.args.keys) c.args.rows c.loop-row.index r) more c.loop-row.invariant)

pub returns : goal.returns
returns c =
    building-end (take c.args.keys) c.args.rows c.loop-row.index c.loop-row.row-iterator
    (rest_all (λ (p : Row × ℕ). p) c.loop-row.row-iterator c.next.new.self c.next.result c.in-None.is c.next.ensures.steps) c.loop-row.invariant
