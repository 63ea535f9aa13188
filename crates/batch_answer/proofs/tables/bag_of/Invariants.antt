use Rattle.std.proofs.Common.{◌≡◌}
use Rattle.ct_value.specs.Bag.{bag_of_counts}
use Rattle.rel_algebra.specs.Sums.{together}
use Rattle.batch_answer.specs.Parts.{IsFew}
use Rattle.batch_answer.proofs.tables.bag_of.Given as goal

abbrev pub invariant-loop-row : goal.invariant-loop-row
invariant-loop-row l = (together l.made (bag_of_counts l.row-iterator) ≡ l.fn.rows) × IsFew l.fn.rows
