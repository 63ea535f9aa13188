use Rattle.std.proofs.Common.{ap, subst, ◌∙◌}
use Rattle.stream_model.specs.declared.events.Event.{Event}
use Rattle.stream_model.specs.Machine.{step}
use Rattle.stream_model.specs.Runs.{happens, IsTyped}
use Rattle.session_subtasks.proofs.laws.Outcomes.{on_ok}
use Rattle.session_core.proofs.session.Session.apply.Goals as goal

pub returns-in-Move-clause-ok : goal.returns-in-Move-clause-ok
returns-in-Move-clause-ok b c = on_ok _ _ c.advance.result c.advance.ensures.ok (λ told g limit handed s keeps typed.
    let m = told g limit handed s keeps in
    (m.0, ap (step g limit s) c.in-Move.is ∙ m.1, m.2))

pub returns-in-Take-clause-ok : goal.returns-in-Take-clause-ok
returns-in-Take-clause-ok b c = on_ok _ _ c.take.result c.take.ensures.ok (λ told g limit handed s keeps typed.
    let m = told g limit handed s keeps (subst (λ (e : Event). IsTyped g (happens e)) c.in-Take.is typed) in
    (m.0, ap (step g limit s) c.in-Take.is ∙ m.1, m.2))

pub returns-in-Flush-clause-ok : goal.returns-in-Flush-clause-ok
returns-in-Flush-clause-ok b c = on_ok _ _ c.flush.result c.flush.ensures.ok (λ told g limit handed s keeps typed.
    let m = told g limit handed s keeps in
    (m.0, ap (step g limit s) c.in-Flush.is ∙ m.1, m.2))
