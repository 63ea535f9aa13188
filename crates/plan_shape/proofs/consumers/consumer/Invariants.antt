use Rattle.std.proofs.Common.{◌≡◌, drop}
use Rattle.plan_shape.specs.Shape.{consumer}
use Rattle.plan_shape.proofs.consumers.consumer.Given as goal

abbrev pub invariant-loop-node : goal.invariant-loop-node
invariant-loop-node l = consumer l.number (drop l.node-index l.nodes) ≡ consumer l.number l.nodes
