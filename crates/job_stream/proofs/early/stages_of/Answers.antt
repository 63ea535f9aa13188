use Rattle.std.proofs.Common.{◌≡◌, ◌+◌, length, sym, ap, subst, ◌∙◌, arith}
use Rattle.plan_rules.specs.Doings.{network}
use Rattle.stream_model.specs.Drain.{stages}
use Rattle.session_core.specs.LaidOut.{stage_of}
use Rattle.ct_io.specs.InMemory.{GrowingState}
use Rattle.job_stream.proofs.EarlyRuns.{AreBegunTo, begun_all, begun_next, begun_none}
use Rattle.job_stream.proofs.early.stages_of.Goals as goal

pub stages-init : goal.stages-init
stages-init c = λ plan limit handed items stands. subst (λ kept. AreBegunTo c.new-seen.result kept 0 plan) (sym c.in_ok-kept.ensures.items) (begun_none plan c.new-seen.result)

pub stages-preserved : goal.stages-preserved
stages-preserved c = λ plan limit handed items stands.
    let g = network plan in
    let number = c.stages.number in
    let next = c.stage.ensures.next plan limit handed items stands in
    let taker = c.taker.ensures plan limit handed items stands in
    subst (λ kept. AreBegunTo c.is_first.new.seen kept (number + 1) plan) (sym c.in_ok-push.ensures.items)
    (begun_next plan c.stages.seen c.is_first.new.seen c.stages.kept.items number (stage_of c.stage.result) _ _ stands.stands_for.keeps.laid.wired next (c.stages.invariant plan limit handed items stands) (ap (λ (s : GrowingState). s.bytes) c.new.ensures)
    (λ early v j is. c.in_ok-early.ensures.first early v j (taker ∙ is)) c.in_ok-early.ensures.stays (λ v j is. c.in_ok-early.ensures.seen v j (taker ∙ is)))

pub returns : goal.returns
returns c = λ plan limit handed items stands.
    let count = c.stage_count-count.ensures plan limit handed items stands in
    let all : c.stages.number ≡ length (stages (network plan)) = omega (arith, count, c.stages-test.false, c.stages.auto.number-end) in
    begun_all plan c.stages.seen c.stages.kept.items c.stages.number all (c.stages.invariant plan limit handed items stands)
