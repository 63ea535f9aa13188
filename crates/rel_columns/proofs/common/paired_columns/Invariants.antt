use Rattle.rel_algebra.specs.Sets.{set_columns}
use Rattle.rel_columns.proofs.Gathered.{Gathered, sets_from}
use Rattle.rel_columns.proofs.common.paired_columns.Given as goal

abbrev pub invariant-loop-i : goal.invariant-loop-i
invariant-loop-i l = Gathered (set_columns l.kind l.left l.right) (sets_from l.kind l.left l.right l.i) l.made
