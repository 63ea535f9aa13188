use Rattle.std.proofs.Common.{◌≡◌, drop}
use Rattle.std.specs.List.{list_all}
use Rattle.plan_shape.specs.Tables.{is_declarable}
use Rattle.plan_shape.proofs.tables.are_declarable.Given as goal

abbrev pub invariant-loop-table : goal.invariant-loop-table
invariant-loop-table l = list_all is_declarable (drop l.table-index l.tables) ≡ list_all is_declarable l.tables
