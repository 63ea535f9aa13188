use Rattle.std.proofs.Common.{◌≡◌, ◌-◌, ◌≤◌, length, take}
use Rattle.ct_change.specs.KeyRows.{keyed_from}
use Rattle.ct_change.proofs.key_rows.key_row.Given as goal

abbrev pub invariant-cell : goal.invariant-cell
invariant-cell l = record {
  within : length l.values ≤ length l.cells;
  made : l.values ≡ keyed_from l.key 0 (take (length l.values) l.cells);
}

abbrev pub decreases-cell : goal.decreases-cell
decreases-cell l = length l.cells - length l.values
