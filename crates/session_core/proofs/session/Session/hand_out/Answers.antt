use Rattle.std.proofs.Common.{◌≡◌, List, Option, Some, None, refl, sym, subst}
use Rattle.ct_change.specs.declared.change.Change.{Change}
use Rattle.stream_model.specs.Machine.{folded, hand_on}
use Rattle.session_core.specs.declared.traffic.Traffic.{Traffic}
use Rattle.session_core.specs.Stands.{KeepsAnswer, Pends, next_if}
use Rattle.session_core.proofs.Pending.{handed_is, handed_keeps, handed_may, stays}
use Rattle.session_subtasks.proofs.laws.Outcomes.{if_err, on_ok}
use Rattle.session_core.proofs.Steps.{stops_same}
use Rattle.session_core.proofs.session.Session.hand_out.Goals as goal

-- either nothing was due, or a list was
by_due : (sent : Option (List Change)) (P : Type 0) → (sent ≡ None → P) → ((changes : List Change) → sent ≡ Some changes → P) → P
by_due None P none some = none refl
by_due (Some changes) P none some = some changes refl

pub hand_emitted-requires : goal.hand_emitted-requires
hand_emitted-requires b c =
    let r = c.requires.ready in
    record {
      ready = λ changes is.
          let p = subst (λ (sent : Option (List Change)). Pends b.O.Operator.rule b.O.Operator.broken b.O.Operator.stands_for b.O.PieceOperator.takes_pieces b.S.SourceCheck.stands_for c.args.self.now c.args.node c.args.subtask sent r.0 r.1 r.2 r.3 r.4) is r.5 in
          (r.1, r.2, r.3, folded c.args.node c.args.subtask r.4, handed_may b.O.Operator.rule b.O.Operator.broken b.O.Operator.stands_for b.O.PieceOperator.takes_pieces b.S.SourceCheck.stands_for c.args.self.now c.args.node c.args.subtask r.0 r.1 r.2 r.3 r.4 changes p);
    }

pub returns-clause-ok : goal.returns-clause-ok
returns-clause-ok b c = on_ok _ _ c.hand_emitted.result c.hand_emitted.ensures.ok (λ told due g limit handed s pends.
    let session = c.args.self.now in
    let v = c.args.node in
    let j = c.args.subtask in
    let left = c.hand_emitted.new.emitted in
    let P : Option (List Change) → Type 0 = λ sent. Pends b.O.Operator.rule b.O.Operator.broken b.O.Operator.stands_for b.O.PieceOperator.takes_pieces b.S.SourceCheck.stands_for session v j sent due g limit handed s in
    by_due session.emitted _
    (λ none. subst (λ (t : Traffic). KeepsAnswer b.O.Operator.rule b.O.Operator.broken b.O.Operator.stands_for b.O.PieceOperator.takes_pieces b.S.SourceCheck.stands_for (next_if due g limit v j s) (record session { traffic = t; emitted = left }) g limit handed) (sym (c.hand_emitted.ensures.idle none).1)
    (stays b.O.Operator.rule b.O.Operator.broken b.O.Operator.stands_for b.O.PieceOperator.takes_pieces b.S.SourceCheck.stands_for session v j due g limit handed s left (subst P none pends)))
    (λ changes is.
    let p = subst P is pends in
    let may = handed_may b.O.Operator.rule b.O.Operator.broken b.O.Operator.stands_for b.O.PieceOperator.takes_pieces b.S.SourceCheck.stands_for session v j due g limit handed s changes p in
    handed_keeps b.O.Operator.rule b.O.Operator.broken b.O.Operator.stands_for b.O.PieceOperator.takes_pieces b.S.SourceCheck.stands_for session v j due g limit handed s changes p c.hand_emitted.new.self left (told changes is g limit handed (folded v j s) may)))

pub returns-clause-err : goal.returns-clause-err
returns-clause-err b c =
    let session = c.args.self.now in
    let v = c.args.node in
    let j = c.args.subtask in
    by_due session.emitted _
    (λ none. rw ((c.hand_emitted.ensures.idle none).0) tt)
    (λ changes is. if_err _ _ c.hand_emitted.result c.hand_emitted.ensures.err (λ fault told due g limit handed s pends.
    let p = subst (λ (sent : Option (List Change)). Pends b.O.Operator.rule b.O.Operator.broken b.O.Operator.stands_for b.O.PieceOperator.takes_pieces b.S.SourceCheck.stands_for session v j sent due g limit handed s) is pends in
    let may = handed_may b.O.Operator.rule b.O.Operator.broken b.O.Operator.stands_for b.O.PieceOperator.takes_pieces b.S.SourceCheck.stands_for session v j due g limit handed s changes p in
    let same = handed_is b.O.Operator.rule b.O.Operator.broken b.O.Operator.stands_for b.O.PieceOperator.takes_pieces b.S.SourceCheck.stands_for session v j due g limit handed s changes p in
    stops_same (next_if due g limit v j s) (hand_on g limit v j changes (folded v j s)) fault same (told changes is g limit handed (folded v j s) may)))
