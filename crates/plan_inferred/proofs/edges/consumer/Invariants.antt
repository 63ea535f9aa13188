use Rattle.std.proofs.Common.{◌≡◌, drop}
use Rattle.plan_inferred.specs.Rules.{consumer}
use Rattle.plan_inferred.proofs.edges.consumer.Given as goal

abbrev pub invariant-loop-node : goal.invariant-loop-node
invariant-loop-node l = consumer l.number (drop l.node-index l.nodes) ≡ consumer l.number l.nodes
