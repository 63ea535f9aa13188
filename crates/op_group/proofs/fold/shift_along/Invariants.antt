use Rattle.ct_change.specs.Changelog.{fold_from}
use Rattle.ct_value.specs.declared.row.Row.{Row as Line}
use Rattle.op_group.specs.Folding.{ForShifted, HasShiftedAlong}
use Rattle.op_group.proofs.fold.shift_along.Given as goal

abbrev pub invariant-loop-change : goal.invariant-loop-change
invariant-loop-change g l = record {
  rows : (key : Line) → ForShifted (g.I.ChangeMode.mode l.input) (g.I.InMode.stands_for l.input l.fn.rows) l.fn.kept key l.fn.changes
      (λ h stood. g.I.InMode.stands_for l.input l.rows (fold_from (g.I.ChangeMode.mode l.input) stood l.yielded));
  kept : (key : Line) → ForShifted (g.I.ChangeMode.mode l.input) (g.I.InMode.stands_for l.input l.fn.rows) l.fn.kept key l.fn.changes
      (λ h stood. HasShiftedAlong h stood l.kept key l.yielded);
}
