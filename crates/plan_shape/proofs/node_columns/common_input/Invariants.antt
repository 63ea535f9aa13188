use Rattle.std.proofs.Common.{◌≡◌, drop, map}
use Rattle.plan_rules.specs.Columns.{common_of, common_with, numbered_columns}
use Rattle.plan_shape.proofs.node_columns.common_input.Given as goal

abbrev pub invariant-loop-i : goal.invariant-loop-i
invariant-loop-i l = common_with l.common (map (numbered_columns l.done) (drop l.i l.inputs)) ≡ common_of (map (numbered_columns l.done) l.inputs)
