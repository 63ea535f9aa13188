use Rattle.std.proofs.Common.{◌≡◌, ◌+◌}
use Rattle.std.specs.BTreeMap.{values}
use Rattle.std.specs.Map.{values_of}
use Rattle.ct_value.specs.Bag.{copies, occurs}
use Rattle.ct_value.specs.Order.{row_cmp}
use Rattle.ct_value.specs.declared.row.Row.{Row}
use Rattle.source_lines.proofs.keyed_rows.bag_of.Given as goal

abbrev pub invariant-loop-row : goal.invariant-loop-row
invariant-loop-row l = (row : Row) → copies l.bag row + occurs row_cmp row (values_of l.row-iterator) ≡ occurs row_cmp row (values l.fn.rows)
