use Rattle.std.proofs.Common.{◌≡◌, drop, []}
use Rattle.phys_plan.specs.Reading.{wires}
use Rattle.phys_plan.specs.Columns.{columns_in}
use Rattle.upsert_keys.specs.Keys.{keys_after}
use Rattle.upsert_keys.proofs.infer.infer_keys.Given as goal

abbrev pub invariant-loop-node : goal.invariant-loop-node
invariant-loop-node l =
    keys_after (columns_in l.columns) l.sources l.edges l.done (wires (drop l.node-index l.nodes)) ≡ keys_after (columns_in l.columns) l.sources l.edges [] (wires l.nodes)
