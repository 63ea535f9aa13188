use Rattle.std.proofs.Common.{◌≡◌, length, take}
use Rattle.ct_change.proofs.KeyRow.{AreMarks}
use Rattle.ct_change.proofs.key_rows.among.Given as goal

abbrev pub invariant-loop-column : goal.invariant-loop-column
invariant-loop-column l = record {
  long : length l.among.items ≡ l.count;
  marks : AreMarks l.among.items l.count (take l.column-index l.key);
}
