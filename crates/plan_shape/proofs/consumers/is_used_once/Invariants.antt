use Rattle.std.proofs.Common.{◌≡◌, ◌+◌, ◌-◌, ◌^◌, drop}
use Rattle.std.specs.Prelude.{min}
use Rattle.plan_shape.specs.Shape.{uses}
use Rattle.plan_shape.proofs.consumers.is_used_once.Given as goal

abbrev pub invariant-loop-node : goal.invariant-loop-node
invariant-loop-node l = min (l.count + uses l.number (drop l.node-index l.nodes)) (2 ^ 64 - 1) ≡ min (uses l.number l.nodes) (2 ^ 64 - 1)
