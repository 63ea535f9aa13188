use Rattle.std.proofs.Common.{◌≡◌, ◌∷◌, map, take}
use Rattle.plan_shape.specs.Tables.{table_name}
use Rattle.plan_shape.proofs.tables.table_names.Given as goal

abbrev pub invariant-loop-table : goal.invariant-loop-table
invariant-loop-table l = l.names ≡ table_name l.sink ∷ map table_name (take l.table-index l.sources)
