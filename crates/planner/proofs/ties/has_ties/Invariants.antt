use Rattle.std.proofs.Common.{◌≡◌, drop}
use Rattle.planner.specs.Refusals.{has_ties}
use Rattle.planner.proofs.ties.has_ties.Given as goal

abbrev pub invariant-loop-node : goal.invariant-loop-node
invariant-loop-node l = has_ties l.inferred (drop l.node-index l.nodes) ≡ has_ties l.inferred l.nodes
