use Rattle.std.proofs.Common.{◌≡◌, drop}
use Rattle.plan_check.specs.Types.{all_types, types_after}
use Rattle.plan_check.proofs.nodes.all_types.Given as goal

abbrev pub invariant-loop-node : goal.invariant-loop-node
invariant-loop-node l = types_after l.sources l.done (drop l.node-index l.node-items) ≡ all_types l.sources l.nodes
