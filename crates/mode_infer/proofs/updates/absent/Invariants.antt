use Rattle.std.proofs.Common.{◌-◌, ◌≤◌, length}
use Rattle.mode_infer.proofs.updates.absent.Given as goal

abbrev pub invariant-loop-updates : goal.invariant-loop-updates
invariant-loop-updates l = length l.updates.items ≤ l.count

abbrev pub decreases-loop-updates : goal.decreases-loop-updates
decreases-loop-updates l = l.count - length l.updates.items
