use Rattle.std.proofs.Common.{◌≡◌}
use Rattle.std.specs.Vec.Iter.{into_iter_items}
use Rattle.rel_algebra.specs.View.{rel_view}
use Rattle.binding.specs.Queries as q
use Rattle.bind_nested.specs.PartViews.{parts_view}
use Rattle.bind_nested.proofs.matched.all_matched.Given as goal

abbrev pub invariant-loop-part : goal.invariant-loop-part
invariant-loop-part l = q.all_matched (parts_view (into_iter_items l.part-iterator)) (rel_view l.all) ≡ q.all_matched (parts_view l.fn.parts) (rel_view l.fn.input)
