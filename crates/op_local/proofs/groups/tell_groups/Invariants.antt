use Rattle.std.proofs.Common.{◌≤◌, ◌+◌, length}
use Rattle.mini_batch.specs.Held.{held_in}
use Rattle.op_local.specs.Telling.{AreOnTheWay}
use Rattle.op_local.proofs.groups.tell_groups.Given as goal

abbrev pub invariant-groups : goal.invariant-groups
invariant-groups g l = record {
  way : AreOnTheWay l.aggs l.fn.bundle.entries l.left.entries l.sent;
  steps : l.steps + held_in l.left.entries ≤ l.fn.steps + held_in l.fn.bundle.entries;
}

abbrev pub decreases-groups : goal.decreases-groups
decreases-groups g l = length l.left.entries
