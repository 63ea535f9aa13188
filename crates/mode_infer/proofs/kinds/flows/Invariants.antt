use Rattle.std.proofs.Common.{◌≡◌, drop, []}
use Rattle.phys_plan.specs.Reading.{wires}
use Rattle.mode_infer.specs.Kinds.{flows_after}
use Rattle.mode_infer.proofs.kinds.flows.Given as goal

abbrev pub invariant-loop-node : goal.invariant-loop-node
invariant-loop-node l = flows_after l.sources l.done (wires (drop l.node-index l.nodes)) ≡ flows_after l.sources [] (wires l.nodes)
