use Rattle.std.proofs.Common.{◌≡◌, ◌++◌}
use Rattle.column_sets.proofs.families.listed.Given as goal

abbrev pub invariant-loop-set : goal.invariant-loop-set
invariant-loop-set l = l.sets ++ l.set-iterator ≡ l.fn.least.keys
