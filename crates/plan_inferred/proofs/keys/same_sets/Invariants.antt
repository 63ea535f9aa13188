use Rattle.std.proofs.Common.{◌≡◌, drop}
use Rattle.plan_inferred.specs.Same.{same_sets}
use Rattle.plan_inferred.proofs.keys.same_sets.Given as goal

abbrev pub invariant-loop-i : goal.invariant-loop-i
invariant-loop-i l = same_sets (drop l.i l.sets) (drop l.i l.others) ≡ same_sets l.sets l.others
