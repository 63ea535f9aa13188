use Rattle.std.proofs.Common.{◌≡◌, drop}
use Rattle.std.specs.List.{list_any}
use Rattle.planner.specs.Refusals.{ranks_rows}
use Rattle.planner.proofs.sizes.any_ranks.Given as goal

abbrev pub invariant-loop-node : goal.invariant-loop-node
invariant-loop-node l = list_any (λ node. ranks_rows node.op) (drop l.node-index l.nodes) ≡ list_any (λ node. ranks_rows node.op) l.nodes
