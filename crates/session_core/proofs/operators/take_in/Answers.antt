use Rattle.std.proofs.Common.{Option, Some, refl, sym, subst}
use Rattle.session_subtasks.specs.declared.subtask.Subtask.{Subtask}
use Rattle.session_core.specs.Runs.{HasTakenIn, IsOutTakingIn, MayTakeIn}
use Rattle.session_subtasks.proofs.laws.Outcomes.{on_ok, if_range}
use Rattle.session_core.proofs.operators.take_in.Goals as goal

pub take-requires : goal.take-requires
take-requires b c = record { ready = subst (λ (s : Option (Subtask b.row.O.Denot)). MayTakeIn b.O.Operator.rule b.O.Operator.broken b.O.Operator.stands_for b.O.PieceOperator.takes_pieces s c.args.size c.args.port c.args.change) c.in-Some.is c.requires.ready }

pub returns-clause-ok : goal.returns-clause-ok
returns-clause-ok b c = on_ok _ _ c.take.result c.take.ensures.ok (λ told.
    subst (λ (s : Option (Subtask b.row.O.Denot)). HasTakenIn b.O.Operator.rule b.O.Operator.broken b.O.Operator.stands_for b.O.PieceOperator.takes_pieces s (Some c.take.new.self) c.args.size c.args.port c.args.change c.take.new.to) (sym c.in-Some.is) (c.take.new.self, refl, told))

pub returns-clause-range : goal.returns-clause-range
returns-clause-range b c = if_range _ _ c.take.result c.take.ensures.range (λ row told.
    subst (λ (s : Option (Subtask b.row.O.Denot)). IsOutTakingIn b.O.Operator.rule b.O.Operator.broken b.O.Operator.stands_for b.O.PieceOperator.takes_pieces s c.args.size c.args.port c.args.change row) (sym c.in-Some.is) told)
