use Rattle.std.proofs.Common.{length}
use Rattle.op_group.specs.Bundles.{AreOnTheWay, ForAllFolded}
use Rattle.op_group.proofs.pieces.take_groups.Given as goal

abbrev pub invariant-groups : goal.invariant-groups
invariant-groups g l = record {
  way : ForAllFolded l.by (g.I.ChangeMode.mode l.input) (g.O.ChangeMode.mode l.output) (g.I.InMode.stands_for l.input l.fn.rows) l.fn.groups l.fn.bundle.entries
      (λ h stood held. AreOnTheWay l.by h stood held l.fn.bundle.entries (g.I.InMode.stands_for l.input l.rows) l.groups l.left.entries l.sent);
}

abbrev pub decreases-groups : goal.decreases-groups
decreases-groups g l = length l.left.entries
