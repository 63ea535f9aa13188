use Rattle.std.proofs.Common.{◌≡◌, take}
use Rattle.rel_algebra.specs.Joins.{right_columns}
use Rattle.phys_plan.proofs.columns.right_columns.Given as goal

abbrev pub invariant-loop-pair : goal.invariant-loop-pair
invariant-loop-pair l = l.cols ≡ right_columns (take l.pair-index l.on)
