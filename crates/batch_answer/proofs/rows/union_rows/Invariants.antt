use Rattle.std.proofs.Common.{◌≡◌}
use Rattle.ct_value.specs.Bag.{bag_of_counts}
use Rattle.rel_algebra.specs.Sums.{together}
use Rattle.batch_answer.specs.Tallies.{AreCounted}
use Rattle.batch_answer.proofs.rows.union_rows.Given as goal

abbrev pub invariant-loop-row : goal.invariant-loop-row
invariant-loop-row l = (together l.all (bag_of_counts l.row-iterator) ≡ together l.fn.rows l.fn.others) × AreCounted l.row-iterator
