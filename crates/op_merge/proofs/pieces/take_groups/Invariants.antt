use Rattle.std.proofs.Common.{length}
use Rattle.op_merge.specs.Bundles.{AreOnTheWay}
use Rattle.op_merge.specs.Groups.{Amounts, AreMerged}
use Rattle.op_merge.proofs.pieces.take_groups.Given as goal

abbrev pub invariant-groups : goal.invariant-groups
invariant-groups g l = record {
  way : (of : Amounts) → AreMerged l.by l.fn.groups of → AreOnTheWay l.by (g.O.ChangeMode.mode l.output) of l.fn.bundle.entries l.groups l.left.entries l.sent;
}

abbrev pub decreases-groups : goal.decreases-groups
decreases-groups g l = length l.left.entries
