use Rattle.std.proofs.Common.{◌≡◌, drop}
use Rattle.plan_shape.specs.Shape.{same_aggs}
use Rattle.plan_shape.proofs.consumers.same_aggs.Given as goal

abbrev pub invariant-loop-i : goal.invariant-loop-i
invariant-loop-i l = same_aggs (drop l.i l.aggs) (drop l.i l.others) ≡ same_aggs l.aggs l.others
