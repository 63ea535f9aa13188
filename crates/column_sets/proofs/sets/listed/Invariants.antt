use Rattle.std.proofs.Common.{◌≡◌, ◌++◌}
use Rattle.column_sets.proofs.sets.listed.Given as goal

abbrev pub invariant-loop-col : goal.invariant-loop-col
invariant-loop-col l = l.cols ++ l.col-iterator ≡ l.fn.set.keys
