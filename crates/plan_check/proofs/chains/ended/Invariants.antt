use Rattle.std.proofs.Common.{◌≡◌, ◌+◌, Some, drop, map}
use Rattle.plan_rules.specs.Columns.{numbered_columns}
use Rattle.plan_check.specs.Chains.{ended}
use Rattle.plan_check.proofs.chains.ended.Given as goal

abbrev pub invariant-loop-i : goal.invariant-loop-i
invariant-loop-i l = ended (Some l.chain) (drop l.i l.on) (map (numbered_columns l.done) (drop (l.i + 1) l.inputs)) ≡ ended (Some l.fn.chain) l.on (drop 1 (map (numbered_columns l.done) l.inputs))
