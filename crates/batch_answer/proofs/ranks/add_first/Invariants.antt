use Rattle.std.proofs.Common.{◌≡◌, drop}
use Rattle.ct_change.specs.Counts.{each_copy}
use Rattle.ct_value.specs.Bag.{bag_of_counts}
use Rattle.rel_algebra.specs.Ranks.{first_rows}
use Rattle.rel_algebra.specs.Sums.{together}
use Rattle.batch_answer.specs.Ranking.{tail}
use Rattle.batch_answer.proofs.ranks.add_first.Given as goal

abbrev pub invariant-loop-row : goal.invariant-loop-row
invariant-loop-row l = together l.first (tail l.bound l.ranked l.taken (each_copy (drop l.row-index l.row-items))) ≡ together l.initial.first (first_rows l.order l.bound l.ranked (bag_of_counts l.fn.members))
