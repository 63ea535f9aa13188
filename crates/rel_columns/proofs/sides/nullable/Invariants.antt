use Rattle.std.proofs.Common.{◌≡◌, take, map}
use Rattle.std.specs.Prelude.{true}
use Rattle.rel_algebra.specs.Joins.{nullable_if}
use Rattle.rel_columns.proofs.sides.nullable.Given as goal

abbrev pub invariant-loop-column : goal.invariant-loop-column
invariant-loop-column l = l.made ≡ map (nullable_if true) (take l.column-index l.column-items)
