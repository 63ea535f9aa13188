use Rattle.std.proofs.Common.{◌≡◌, ◌++◌, true, take}
use Rattle.phase_rules.specs.Merging.{within_after}
use Rattle.op_merge.specs.Kept.{ForKept, IsKept}
use Rattle.op_merge.specs.Groups.{amounts_of}
use Rattle.op_merge.proofs.turn.merge_along.Given as goal

abbrev pub invariant-loop-change : goal.invariant-loop-change
invariant-loop-change l = ForKept l.fn.kept (λ g rows. IsKept g l.kept (rows ++ amounts_of l.keys (take l.change-index l.changes)) × (within_after g rows (amounts_of l.keys (take l.change-index l.changes)) ≡ true))
