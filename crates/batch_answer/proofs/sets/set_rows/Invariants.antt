use Rattle.std.proofs.Common.{◌≡◌}
use Rattle.ct_value.specs.Bag.{bag_of_counts}
use Rattle.rel_algebra.specs.Sets.{set_form, set_rows}
use Rattle.rel_algebra.specs.Sums.{together}
use Rattle.batch_answer.proofs.SetRows.{kept_counts}
use Rattle.batch_answer.proofs.sets.set_rows.Given as goal

abbrev pub invariant-loop-row : goal.invariant-loop-row
invariant-loop-row l = together l.made (bag_of_counts (kept_counts l.except l.all l.right l.row-iterator)) ≡ set_rows (set_form l.except l.all) l.fn.left l.right
