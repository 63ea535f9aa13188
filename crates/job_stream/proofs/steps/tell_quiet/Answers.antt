use Rattle.std.proofs.Common.{refl, ap, ◌∙◌}
use Rattle.plan_rules.specs.Doings.{network}
use Rattle.stream_model.specs.Runs.{quiet, told_quiet}
use Rattle.exec_core.proofs.laws.Standing.{stands_more}
use Rattle.job_stream.specs.Stops.{halt_of}
use Rattle.job_stream.proofs.Results.{err_weaker, ok_weaker}
use Rattle.job_stream.proofs.Stepped.{item_ahead, item_failed, item_wants}
use Rattle.job_stream.proofs.steps.tell_quiet.Goals as goal

pub hand_out-requires : goal.hand_out-requires
hand_out-requires g c =
    let r = c.requires.ready in
    let told = told_quiet (network r.0) r.2 in
    record { ready = (r.0, r.1, r.2.printed, told, r.3, stands_more c.in-Ok.next r.0 r.1 r.2.printed r.4.items quiet r.2 told r.4.is refl (c.in-Ok.ensures.ok r.0 r.1 r.2.printed r.4.items r.4.stands)) }

pub returns-in-Ok-clause-ok : goal.returns-in-Ok-clause-ok
returns-in-Ok-clause-ok g c = ok_weaker c.hand_out.result c.hand_out.ensures.ok (λ next out sources files plan limit p is same stands.
    let here = stands.stands in
    let told = told_quiet (network plan) p.state in
    item_ahead c.args.sheet.now plan limit quiet p told refl _ _ c.args.session next files stands (out plan limit p.state.printed told (stands_more c.in-Ok.next plan limit p.state.printed here.items quiet p.state told here.is refl (c.in-Ok.ensures.ok plan limit p.state.printed here.items here.stands))))

pub returns-in-Ok-clause-halts : goal.returns-in-Ok-clause-halts
returns-in-Ok-clause-halts g c = err_weaker c.hand_out.result c.hand_out.ensures.halts (λ halt out sources files plan limit p is same stands.
    let here = stands.stands in
    let told = told_quiet (network plan) p.state in
    item_failed c.args.sheet.now plan limit quiet p told refl _ _ halt (out plan limit p.state.printed told (stands_more c.in-Ok.next plan limit p.state.printed here.items quiet p.state told here.is refl (c.in-Ok.ensures.ok plan limit p.state.printed here.items here.stands))))

pub returns-in-Err-clause-halts : goal.returns-in-Err-clause-halts
returns-in-Err-clause-halts g c = λ sources files plan limit p is same stands.
    item_wants c.args.sheet.now plan limit quiet p _ c.halt_of.result (c.halt_of.ensures ∙ ap halt_of c.in-Err.ensures.cause)
