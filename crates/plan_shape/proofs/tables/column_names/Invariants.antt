use Rattle.std.proofs.Common.{◌≡◌, map, take}
use Rattle.plan_shape.specs.Tables.{column_name}
use Rattle.plan_shape.proofs.tables.column_names.Given as goal

abbrev pub invariant-loop-column : goal.invariant-loop-column
invariant-loop-column l = l.names ≡ map column_name (take l.column-index l.cols)
