use Rattle.std.proofs.Common.{◌≡◌, List}
use Rattle.ct_change.specs.Counts.{repeated}
use Rattle.ct_value.specs.declared.row.Row.{Row}
use Rattle.rel_algebra.specs.Sums.{together}
use Rattle.batch_answer.specs.Ranking.{tail}
use Rattle.batch_answer.proofs.ranks.add_copies.Given as goal

abbrev pub invariant-copies : goal.invariant-copies
invariant-copies l = (rest : List Row) → together l.first (tail l.bound l.ranked l.taken (repeated l.row l.left rest)) ≡ together l.initial.first (tail l.bound l.ranked l.before (repeated l.row l.count rest))

abbrev pub decreases-copies : goal.decreases-copies
decreases-copies l = l.left
