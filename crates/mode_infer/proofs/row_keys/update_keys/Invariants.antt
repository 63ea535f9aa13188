use Rattle.std.proofs.Common.{◌≡◌, drop, []}
use Rattle.phys_plan.specs.Reading.{wires}
use Rattle.phys_plan.specs.Columns.{columns_in}
use Rattle.mode_infer.specs.UpdateKeys.{update_keys_after}
use Rattle.mode_infer.proofs.row_keys.update_keys.Given as goal

abbrev pub invariant-loop-node : goal.invariant-loop-node
invariant-loop-node l = update_keys_after (columns_in l.columns) l.done (wires (drop l.node-index l.nodes)) ≡ update_keys_after (columns_in l.columns) [] (wires l.nodes)
