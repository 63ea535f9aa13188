use Rattle.std.proofs.Common.{Option, Some, refl, sym, subst}
use Rattle.session_subtasks.specs.declared.subtask.Subtask.{Subtask}
use Rattle.session_core.specs.Runs.{HasFlushedIn, IsOutFlushingIn, MayFlushIn}
use Rattle.session_subtasks.proofs.laws.Outcomes.{on_ok, if_range}
use Rattle.session_core.proofs.operators.flush_in.Goals as goal

pub flush-requires : goal.flush-requires
flush-requires b c = record { ready = subst (λ (s : Option (Subtask b.row.O.Denot)). MayFlushIn b.O.Operator.rule b.O.Operator.broken b.O.Operator.stands_for b.O.PieceOperator.takes_pieces s) c.in-Some.is c.requires.ready }

pub returns-in-Some-clause-ok : goal.returns-in-Some-clause-ok
returns-in-Some-clause-ok b c = on_ok _ _ c.flush.result c.flush.ensures.ok (λ told.
    subst (λ (s : Option (Subtask b.row.O.Denot)). HasFlushedIn b.O.Operator.rule b.O.Operator.broken b.O.Operator.stands_for b.O.PieceOperator.takes_pieces s (Some c.flush.new.self) c.flush.new.to) (sym c.in-Some.is) (c.flush.new.self, refl, told))

pub returns-in-Some-clause-range : goal.returns-in-Some-clause-range
returns-in-Some-clause-range b c = if_range _ _ c.flush.result c.flush.ensures.range (λ row told.
    subst (λ (s : Option (Subtask b.row.O.Denot)). IsOutFlushingIn b.O.Operator.rule b.O.Operator.broken b.O.Operator.stands_for b.O.PieceOperator.takes_pieces s row) (sym c.in-Some.is) told)
