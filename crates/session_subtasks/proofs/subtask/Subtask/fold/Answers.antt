use Rattle.std.proofs.Common.{true, List, Err, sym, subst, ◌∙◌}
use Rattle.ct_change.specs.declared.change.Change.{Change}
use Rattle.op_rules.specs.Rules.{MayTakePiece}
use Rattle.session_subtasks.specs.Subtasks.{HasRun}
use Rattle.session_subtasks.proofs.laws.Outcomes.{range_of}
use Rattle.session_subtasks.proofs.Subtasks.{piece_emits, piece_may, piece_ok}
use Rattle.session_subtasks.proofs.subtask.Subtask.fold.Goals as goal

pub take_piece-requires-clause-whole : goal.take_piece-requires-clause-whole
take_piece-requires-clause-whole b c = let r = c.requires.ready in r.5.stands_as.runs.whole

pub take_piece-requires-clause-pieces : goal.take_piece-requires-clause-pieces
take_piece-requires-clause-pieces b c = let r = c.requires.ready in r.5.stands_as.runs.pieces r.5.size r.5.bundled

pub take_piece-requires-clause-may : goal.take_piece-requires-clause-may
take_piece-requires-clause-may b c =
    let r = c.requires.ready in
    let old = c.args.self.now in
    (r.3, r.4, r.5.stands_as.runs.stands_for, subst (MayTakePiece (b.O.Operator.rule old.operator) r.3 r.4) (sym c.swap.ensures.x_after) (piece_may b.O.Operator.rule b.O.Operator.broken b.O.Operator.stands_for b.O.PieceOperator.takes_pieces old r.0 r.1 r.2 r.3 r.4 r.5))

pub returns-in-Ok-clause-ok : goal.returns-in-Ok-clause-ok
returns-in-Ok-clause-ok b c = λ g v j history bundle m.
    let old = c.args.self.now in
    let may = subst (MayTakePiece (b.O.Operator.rule old.operator) history bundle) (sym c.swap.ensures.x_after) (piece_may b.O.Operator.rule b.O.Operator.broken b.O.Operator.stands_for b.O.PieceOperator.takes_pieces old g v j history bundle m) in
    let sent = c.in-Ok.ensures.sent history bundle m.stands_as.runs.stands_for may in
    let now = c.in-Ok.ensures.stands history bundle m.stands_as.runs.stands_for may in
    subst (HasRun b.O.Operator.rule b.O.Operator.broken b.O.Operator.stands_for b.O.PieceOperator.takes_pieces true g v _ history bundle) (sym c.put.ensures)
    (piece_ok b.O.Operator.rule b.O.Operator.broken b.O.Operator.stands_for b.O.PieceOperator.takes_pieces old g v j history bundle m _ c.in-Ok.sent c.take_piece.ensures.rule_stays c.in-Ok.ensures.stays_whole c.take_piece.ensures.pieces_stay (c.swap.ensures.y_after ∙ c.beside-piece.ensures) sent now)

pub returns-in-Err-clause-range : goal.returns-in-Err-clause-range
returns-in-Err-clause-range b c = range_of (List Change) (Unit {0}) _ _ c.in-Err.fault c.in-Err.ensures.range (λ row told g v j history bundle m.
    let old = c.args.self.now in
    let may = subst (MayTakePiece (b.O.Operator.rule old.operator) history bundle) (sym c.swap.ensures.x_after) (piece_may b.O.Operator.rule b.O.Operator.broken b.O.Operator.stands_for b.O.PieceOperator.takes_pieces old g v j history bundle m) in
    piece_emits b.O.Operator.rule b.O.Operator.broken b.O.Operator.stands_for b.O.PieceOperator.takes_pieces old g v j history bundle m (Err row) (told history bundle m.stands_as.runs.stands_for may))
