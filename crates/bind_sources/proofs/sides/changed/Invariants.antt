use Rattle.std.proofs.Common.{◌≡◌, ◌++◌}
use Rattle.std.specs.Vec.Iter.{into_iter_items}
use Rattle.bind_sources.specs.Columns.{columns}
use Rattle.bind_sources.proofs.sides.changed.Given as goal

abbrev pub invariant-loop-column : goal.invariant-loop-column
invariant-loop-column l = l.scope ++ columns l.kind l.left (into_iter_items l.column-iterator) ≡ columns l.kind l.width l.fn.both
