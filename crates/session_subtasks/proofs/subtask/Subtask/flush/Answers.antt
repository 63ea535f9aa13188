use Rattle.std.proofs.Common.{true, sym, ◌∙◌}
use Rattle.session_subtasks.specs.Subtasks.{holds_some}
use Rattle.session_subtasks.proofs.laws.Outcomes.{on_ok, if_range}
use Rattle.session_subtasks.proofs.Subtasks.{run_as, something_held}
use Rattle.session_subtasks.proofs.subtask.Subtask.flush.Goals as goal

pub returns-clause-ok : goal.returns-clause-ok
returns-clause-ok b c = on_ok _ _ c.fold.result c.fold.ensures.ok (λ told g v j history bundle m.
    run_as b.O.Operator.rule b.O.Operator.broken b.O.Operator.stands_for b.O.PieceOperator.takes_pieces true (holds_some bundle) g v c.fold.new.self history bundle c.fold.new.to (something_held bundle c.args.self.now.held m.stands_as.held (sym c.is_empty.ensures ∙ c.if-is_empty.false)) (told g v j history bundle m))

pub returns-clause-range : goal.returns-clause-range
returns-clause-range b c = if_range _ _ c.fold.result c.fold.ensures.range (λ row told g v j history bundle m.
    (something_held bundle c.args.self.now.held m.stands_as.held (sym c.is_empty.ensures ∙ c.if-is_empty.false), told g v j history bundle m))
