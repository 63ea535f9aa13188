use Rattle.std.proofs.Common.{◌≡◌, ◌++◌}
use Rattle.std.specs.Vec.Iter.{into_iter_items}
use Rattle.binding.specs.Queries as q
use Rattle.bind_nodes.specs.Views.{bounds_view}
use Rattle.bind_nested.specs.Splits.{subqueries}
use Rattle.bind_nested.specs.PartViews.{parts_view}
use Rattle.bind_nested.proofs.split.split.Given as goal

abbrev pub invariant-loop-part : goal.invariant-loop-part
invariant-loop-part l =
    (bounds_view l.shares.owns ++ q.owns (parts_view (into_iter_items l.part-iterator)) ≡ q.owns (parts_view l.fn.parts))
    × (l.shares.links ++ q.links (parts_view (into_iter_items l.part-iterator)) ≡ q.links (parts_view l.fn.parts))
    × (bounds_view l.shares.rests ++ q.rests (parts_view (into_iter_items l.part-iterator)) ≡ q.rests (parts_view l.fn.parts))
    × (parts_view l.shares.subqueries ++ subqueries (parts_view (into_iter_items l.part-iterator)) ≡ subqueries (parts_view l.fn.parts))
