use Rattle.std.proofs.Common.{◌≡◌, ◌≤◌, length, drop}
use Rattle.phys_plan.specs.Reading.{wires}
use Rattle.mode_infer.specs.Updates.{updates_behind}
use Rattle.mode_infer.proofs.updates.updates_of.Given as goal

abbrev pub invariant-node : goal.invariant-node
invariant-node l = record {
  within : l.rest ≤ length l.nodes;
  filled : length l.updates.items ≡ length l.nodes;
  told : drop l.rest l.updates.items ≡ updates_behind l.sources l.sink l.flows l.keys l.rest (wires (drop l.rest l.nodes));
}

abbrev pub decreases-node : goal.decreases-node
decreases-node l = l.rest
