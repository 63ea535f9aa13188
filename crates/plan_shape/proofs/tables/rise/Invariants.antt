use Rattle.std.proofs.Common.{◌≡◌, drop}
use Rattle.plan_shape.specs.Tables.{rise_from}
use Rattle.plan_shape.proofs.tables.rise.Given as goal

abbrev pub invariant-loop-column : goal.invariant-loop-column
invariant-loop-column l = rise_from l.low (drop l.column-index l.columns) ≡ rise_from 0 l.columns
