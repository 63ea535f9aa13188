use Rattle.std.proofs.Common.{◌≡◌, ◌+◌, ◌∷◌, drop, sym, ap, subst, ◌∙◌}
use Rattle.plan_rules.specs.Doings.{network}
use Rattle.stream_model.specs.declared.events.Event.TheVariants.{Flush}
use Rattle.stream_model.specs.Drain.{stages}
use Rattle.stream_model.specs.Machine.{State}
use Rattle.stream_model.specs.Runs.{happens}
use Rattle.stream_model.specs.Looks.{in_flight}
use Rattle.session_core.specs.declared.wiring.Stage.{Stage}
use Rattle.session_core.specs.LaidOut.{stage_of}
use Rattle.job_stream.specs.Parts.{item_run, moves_run, stage_run}
use Rattle.job_stream.proofs.Going.{ahead_same, halts_same}
use Rattle.job_stream.proofs.Results.{err_weaker, ok_weaker}
use Rattle.job_stream.proofs.Stages.{stage_flushes, stage_is_held, stage_moves}
use Rattle.job_stream.proofs.drains.deliver.Goals as goal

pub unreachable-requires : goal.unreachable-requires
unreachable-requires g c = stage_is_held c.args.sheet.now c.args.session c.args.number c.requires.ready c.stage.result c.in-Deliver.lane c.in-Deliver.is c.stage.ensures.next c.in_flight.result c.in-None.is c.in_flight.ensures.value

pub returns-in-Some-clause-ok : goal.returns-in-Some-clause-ok
returns-in-Some-clause-ok g c = ok_weaker c.move_all.result c.move_all.ensures.ok (λ next moved sources files plan limit p is same stands.
    let lane = c.in-Deliver.lane in
    let here = stands.stands in
    let first = subst (λ (x : Stage). drop c.args.number (stages (network plan)) ≡ stage_of x ∷ drop (c.args.number + 1) (stages (network plan))) c.in-Deliver.is (c.stage.ensures.next plan limit p.state.printed here.items here.stands) in
    let told = c.in_flight.ensures.value plan limit p.state.printed here.items here.stands in
    let flight = sym c.in-Some.is ∙ told ∙ ap (λ (s : State). in_flight (network plan) s lane.edge lane.from lane.to) here.is in
    let by = c.args.sheet.now.by_table in
    ahead_same c.args.sheet.now plan limit (moves_run lane.edge lane.from lane.to c.in-Some.held by plan limit p) (stage_run c.args.number by plan limit p) _ p next files _ _ (stage_moves by plan limit p c.args.number lane c.in-Some.held _ first flight) (moved sources files plan limit p is same stands))

pub returns-in-Some-clause-halts : goal.returns-in-Some-clause-halts
returns-in-Some-clause-halts g c = err_weaker c.move_all.result c.move_all.ensures.halts (λ halt moved sources files plan limit p is same stands.
    let lane = c.in-Deliver.lane in
    let here = stands.stands in
    let first = subst (λ (x : Stage). drop c.args.number (stages (network plan)) ≡ stage_of x ∷ drop (c.args.number + 1) (stages (network plan))) c.in-Deliver.is (c.stage.ensures.next plan limit p.state.printed here.items here.stands) in
    let told = c.in_flight.ensures.value plan limit p.state.printed here.items here.stands in
    let flight = sym c.in-Some.is ∙ told ∙ ap (λ (s : State). in_flight (network plan) s lane.edge lane.from lane.to) here.is in
    let by = c.args.sheet.now.by_table in
    halts_same c.args.sheet.now (moves_run lane.edge lane.from lane.to c.in-Some.held by plan limit p) (stage_run c.args.number by plan limit p) p _ _ halt (stage_moves by plan limit p c.args.number lane c.in-Some.held _ first flight) (moved sources files plan limit p is same stands))

pub returns-in-Flush-clause-ok : goal.returns-in-Flush-clause-ok
returns-in-Flush-clause-ok g c = ok_weaker c.go_step.result c.go_step.ensures.ok (λ next flushed sources files plan limit p is same stands.
    let here = stands.stands in
    let first = subst (λ (x : Stage). drop c.args.number (stages (network plan)) ≡ stage_of x ∷ drop (c.args.number + 1) (stages (network plan))) c.in-Flush.is (c.stage.ensures.next plan limit p.state.printed here.items here.stands) in
    let by = c.args.sheet.now.by_table in
    let item = happens (Flush c.in-Flush.node c.in-Flush.subtask) in
    ahead_same c.args.sheet.now plan limit (item_run item by plan limit p) (stage_run c.args.number by plan limit p) _ p next files _ _ (stage_flushes by plan limit p c.args.number c.in-Flush.node c.in-Flush.subtask _ first) (flushed sources files plan limit p is same stands))

pub returns-in-Flush-clause-halts : goal.returns-in-Flush-clause-halts
returns-in-Flush-clause-halts g c = err_weaker c.go_step.result c.go_step.ensures.halts (λ halt flushed sources files plan limit p is same stands.
    let here = stands.stands in
    let first = subst (λ (x : Stage). drop c.args.number (stages (network plan)) ≡ stage_of x ∷ drop (c.args.number + 1) (stages (network plan))) c.in-Flush.is (c.stage.ensures.next plan limit p.state.printed here.items here.stands) in
    let by = c.args.sheet.now.by_table in
    let item = happens (Flush c.in-Flush.node c.in-Flush.subtask) in
    halts_same c.args.sheet.now (item_run item by plan limit p) (stage_run c.args.number by plan limit p) p _ _ halt (stage_flushes by plan limit p c.args.number c.in-Flush.node c.in-Flush.subtask _ first) (flushed sources files plan limit p is same stands))
