use Rattle.std.proofs.Common.{◌≡◌, Ok, subst}
use Rattle.plan_rules.specs.Doings.{network}
use Rattle.stream_model.specs.Drain.{StopsBy}
use Rattle.stream_model.specs.Machine.{State}
use Rattle.stream_model.specs.Runs.{happens, step_item}
use Rattle.exec_core.proofs.laws.Standing.{stands_more}
use Rattle.job_stream.proofs.Results.{err_weaker, ok_weaker}
use Rattle.job_stream.proofs.Stepped.{item_ahead, item_failed, item_stops}
use Rattle.job_stream.proofs.steps.go_step.Goals as goal

pub step-requires : goal.step-requires
step-requires g c = let r = c.requires.ready in record { ready = (r.0, r.1, r.2.printed, r.4.items, r.4.stands, c.requires.typed r.0) }

pub hand_out-requires : goal.hand_out-requires
hand_out-requires g c =
    let r = c.requires.ready in
    let plan = r.0 in
    let m = c.in-Ok.ensures.ok plan r.1 r.2.printed r.4.items r.4.stands (c.requires.typed plan) in
    let steps : step_item (network plan) r.1 r.2 (happens c.args.event) ≡ Ok m.0 = subst (λ (u : State). step_item (network plan) r.1 u (happens c.args.event) ≡ Ok m.0) r.4.is m.1 in
    record { ready = (plan, r.1, r.2.printed, m.0, r.3, stands_more c.in-Ok.next plan r.1 r.2.printed r.4.items (happens c.args.event) r.2 m.0 r.4.is steps m.2) }

pub returns-in-Ok-clause-ok : goal.returns-in-Ok-clause-ok
returns-in-Ok-clause-ok g c = ok_weaker c.hand_out.result c.hand_out.ensures.ok (λ next out sources files plan limit p is same stands.
    let item = happens c.args.event in
    let here = stands.stands in
    let m = c.in-Ok.ensures.ok plan limit p.state.printed here.items here.stands (c.requires.typed plan) in
    let steps : step_item (network plan) limit p.state item ≡ Ok m.0 = subst (λ (u : State). step_item (network plan) limit u item ≡ Ok m.0) here.is m.1 in
    item_ahead c.args.sheet.now plan limit item p m.0 steps _ _ c.args.session next files stands (out plan limit p.state.printed m.0 (stands_more c.in-Ok.next plan limit p.state.printed here.items item p.state m.0 here.is steps m.2)))

pub returns-in-Ok-clause-halts : goal.returns-in-Ok-clause-halts
returns-in-Ok-clause-halts g c = err_weaker c.hand_out.result c.hand_out.ensures.halts (λ halt out sources files plan limit p is same stands.
    let item = happens c.args.event in
    let here = stands.stands in
    let m = c.in-Ok.ensures.ok plan limit p.state.printed here.items here.stands (c.requires.typed plan) in
    let steps : step_item (network plan) limit p.state item ≡ Ok m.0 = subst (λ (u : State). step_item (network plan) limit u item ≡ Ok m.0) here.is m.1 in
    item_failed c.args.sheet.now plan limit item p m.0 steps _ _ halt (out plan limit p.state.printed m.0 (stands_more c.in-Ok.next plan limit p.state.printed here.items item p.state m.0 here.is steps m.2)))

pub returns-in-Err-clause-halts : goal.returns-in-Err-clause-halts
returns-in-Err-clause-halts g c = λ sources files plan limit p is same stands.
    let item = happens c.args.event in
    let here = stands.stands in
    let stops = c.in-Err.ensures.err plan limit p.state.printed here.items here.stands (c.requires.typed plan) in
    let stopped : StopsBy (step_item (network plan) limit p.state item) c.in-Err.stopped.cause = subst (λ (u : State). StopsBy (step_item (network plan) limit u item) c.in-Err.stopped.cause) here.is stops in
    rw c.halt_of.ensures (item_stops c.args.sheet.now plan limit item p _ c.in-Err.stopped.cause stopped)
