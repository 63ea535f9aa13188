use Rattle.std.proofs.Common.{◌≡◌, List, ◌++◌, refl, sym, ap, subst, ◌∙◌, inl}
use Rattle.stream_model.specs.declared.events.PrintItem.{PrintItem}
use Rattle.stream_model.specs.Machine.{State}
use Rattle.session_core.specs.declared.wiring.Stage.{Stage}
use Rattle.session_core.specs.LaidOut.{IsStageThere, stage_of}
use Rattle.session_core.specs.Stands.{KeepsAlong}
use Rattle.stream_model.specs.Drain.{StopsAlong, stage_items}
use Rattle.session_subtasks.proofs.laws.Outcomes.{if_err_on, on_ok}
use Rattle.session_core.proofs.session.Session.run_stage.Goals as goal

pub deliver-requires : goal.deliver-requires
deliver-requires b c =
    let r = c.requires.ready in
    record { ready = (r.0, r.1, r.2, r.3, r.4, subst (IsStageThere r.0) c.in-Deliver.is r.5) }

pub flush-requires : goal.flush-requires
flush-requires b c = let r = c.requires.ready in record { ready = (r.0, r.1, r.2, r.3, r.4) }

pub returns-in-Deliver-clause-ok : goal.returns-in-Deliver-clause-ok
returns-in-Deliver-clause-ok b c = on_ok _ _ c.deliver.result c.deliver.ensures.ok (λ told g limit handed s keeps there.
    subst (λ (stage : Stage). KeepsAlong b.O.Operator.rule b.O.Operator.broken b.O.Operator.stands_for b.O.PieceOperator.takes_pieces b.S.SourceCheck.stands_for (stage_items s (stage_of stage)) c.deliver.new.self g limit handed s) (sym c.in-Deliver.is)
    (told g limit handed s keeps (subst (IsStageThere g) c.in-Deliver.is there)))

pub returns-in-Flush-clause-ok : goal.returns-in-Flush-clause-ok
returns-in-Flush-clause-ok b c = on_ok _ _ c.flush.result c.flush.ensures.ok (λ told g limit handed s keeps there.
    let m = told g limit handed s keeps in
    subst (λ (stage : Stage). KeepsAlong b.O.Operator.rule b.O.Operator.broken b.O.Operator.stands_for b.O.PieceOperator.takes_pieces b.S.SourceCheck.stands_for (stage_items s (stage_of stage)) c.flush.new.self g limit handed s) (sym c.in-Flush.is)
    (m.0, (m.0, m.1, refl), m.2))

pub returns-in-Flush-clause-err : goal.returns-in-Flush-clause-err
returns-in-Flush-clause-err b c = if_err_on _ _ _ c.flush.result c.flush.ensures.printed c.flush.ensures.err (λ fault same told g limit handed s keeps there.
    let printed = handed ++ c.flush.new.self.traffic.printed in
    let out : State.printed s ≡ printed = keeps.carries.printed ∙ ap (λ (l : List PrintItem). handed ++ l) (sym same) in
    subst (λ (stage : Stage). StopsAlong g limit s (stage_items s (stage_of stage)) fault printed) (sym c.in-Flush.is) (inl (told g limit handed s keeps, out)))
