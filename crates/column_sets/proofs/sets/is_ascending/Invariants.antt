use Rattle.std.proofs.Common.{◌≤◌, ◌<◌, ℕ, get_or}
use Rattle.column_sets.proofs.sets.is_ascending.Given as goal

abbrev pub invariant-loop-place : goal.invariant-loop-place
invariant-loop-place l = (j k : ℕ) → j ≤ k → k < l.place → get_or l.cols j 0 ≤ get_or l.cols k 0
