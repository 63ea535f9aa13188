use Rattle.std.proofs.Common.{◌≡◌, ◌≤◌, min, length, drop}
use Rattle.std.specs.Cmp.Lexicographic.{slice_cmp}
use Rattle.ct_value.proofs.each.compare_each.Given as goal

-- what the parts from `i` on answer, the lists answer
abbrev pub invariant-loop-i : goal.invariant-loop-i
invariant-loop-i g l = (l.both ≡ min (length l.left) (length l.right)) × (l.i ≤ l.both) × (slice_cmp g.T.Ord.cmp (drop l.i l.left) (drop l.i l.right) ≡ slice_cmp g.T.Ord.cmp l.left l.right)
