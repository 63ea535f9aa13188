use Rattle.std.proofs.Common.{◌≡◌, ◌+◌, [], List, ◌++◌, drop, length, sym, ap, subst, ◌∙◌, arith}
use Rattle.std.proofs.lemmas.Result.{err_from_is_err_and}
use Rattle.std.proofs.lemmas.List.{append_assoc, append-nil, length-map}
use Rattle.stream_model.specs.Machine.{State}
use Rattle.stream_model.specs.Runs.{Item, after}
use Rattle.stream_model.specs.Drain.{Leads, StopsAlong, Stage, drain_stages, stage_items, stages}
use Rattle.session_core.specs.LaidOut.{stage_of}
use Rattle.session_core.proofs.Runs.{leads-append, after_leads, stops_behind, stops_before, drop_all}
use Rattle.session_core.proofs.session.Session.run_stages.Goals as goal

pub stage-stage-requires : goal.stage-stage-requires
stage-stage-requires b c =
    let r = c.requires.ready in
    let m = c.loop-done.invariant r.0 r.1 r.2 r.3 r.4 in
    let stages = c.loop-done.self.wiring.stages.items in
    omega (arith, c.loop-done-test.true, c.stage_count-count.ensures r.0 r.1 r.4.laid, ap length m.3.laid.stages_are, length-map stages stage_of)

pub run_stage-requires : goal.run_stage-requires
run_stage-requires b c =
    let r = c.requires.ready in
    let m = c.loop-done.invariant r.0 r.1 r.2 r.3 r.4 in
    record { ready = (r.0, r.1, r.2, m.0, m.3, c.stage-stage.ensures.there r.0 r.1 m.3.laid) }

pub returns-in_err-run_stage-clause-err : goal.returns-in_err-run_stage-clause-err
returns-in_err-run_stage-clause-err b c = let p = err_from_is_err_and c.from_residual.result c.from_residual.ensures.1 in rw (p.1, p.2) (λ g limit handed s keeps.
    let m = c.loop-done.invariant g limit handed s keeps in
    let done = c.loop-done.done in
    let stage = stage_of c.stage-stage.result in
    let fault = c.in_err-run_stage.field-0.0 in
    let printed = handed ++ c.run_stage.new.self.traffic.printed in
    let next = c.stage-stage.ensures.next g limit m.3.laid in
    let stop = c.in_err-run_stage.ensures.err g limit handed m.0 m.3 (c.stage-stage.ensures.there g limit m.3.laid) in
    let rest = drain_stages g limit (after g limit m.0 (stage_items m.0 stage)) (drop (done + 1) (stages g)) in
    subst (λ (l : List Item). StopsAlong g limit s l fault printed) (sym (m.4 ∙ ap (λ (l : List Stage). m.1 ++ drain_stages g limit m.0 l) next))
    (stops_behind g limit s m.1 m.0 (stage_items m.0 stage ++ rest) fault printed m.2 (stops_before g limit m.0 (stage_items m.0 stage) rest fault printed stop)))

pub loop-done-preserved : goal.loop-done-preserved
loop-done-preserved b c = λ g limit handed s keeps.
    let m = c.loop-done.invariant g limit handed s keeps in
    let done = c.loop-done.done in
    let stage = stage_of c.stage-stage.result in
    let next = c.stage-stage.ensures.next g limit m.3.laid in
    let n = c.in_ok-run_stage.ensures.ok g limit handed m.0 m.3 (c.stage-stage.ensures.there g limit m.3.laid) in (
      n.0,
      m.1 ++ stage_items m.0 stage,
      leads-append g limit s m.1 m.0 (stage_items m.0 stage) n.0 m.2 n.1,
      n.2,
      m.4 ∙ (ap (λ (l : List Stage). m.1 ++ drain_stages g limit m.0 l) next
          ∙ (ap (λ (u : State). m.1 ++ (stage_items m.0 stage ++ drain_stages g limit u (drop (done + 1) (stages g)))) (after_leads g limit m.0 (stage_items m.0 stage) n.0 n.1)
          ∙ sym (append_assoc m.1 (stage_items m.0 stage) (drain_stages g limit n.0 (drop (done + 1) (stages g)))))),
    )

pub returns-clause-ok : goal.returns-clause-ok
returns-clause-ok b c = λ g limit handed s keeps.
    let m = c.loop-done.invariant g limit handed s keeps in
    let none : drop c.loop-done.done (stages g) ≡ [] = drop_all (stages g) c.loop-done.done (omega (arith, c.loop-done-test.false, c.stage_count-count.ensures g limit keeps.laid)) in
    (m.0, subst (λ (l : List Item). Leads g limit s l m.0) (sym (m.4 ∙ (ap (λ (l : List Stage). m.1 ++ drain_stages g limit m.0 l) none ∙ append-nil m.1))) m.2, m.3)
