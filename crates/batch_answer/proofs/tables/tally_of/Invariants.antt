use Rattle.std.proofs.Common.{◌≡◌, length}
use Rattle.ct_value.specs.Bag.{bag_of_counts}
use Rattle.rel_algebra.specs.Sums.{together}
use Rattle.batch_answer.proofs.TalliedBags.{ArePositive}
use Rattle.batch_answer.proofs.tables.tally_of.Given as goal

abbrev pub invariant-runs : goal.invariant-runs
invariant-runs g l = (together l.tally (bag_of_counts l.left) ≡ l.rows) × ArePositive l.left

abbrev pub decreases-runs : goal.decreases-runs
decreases-runs g l = length l.left
