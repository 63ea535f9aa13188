use Rattle.std.proofs.Common.{◌≡◌, ◌+◌, ◌<◌, [], length, refl, ◌∙◌, arith}
use Rattle.std.proofs.lemmas.Result.{err_from_is_err_and}
use Rattle.plan_rules.specs.Doings.{network}
use Rattle.stream_model.specs.Drain.{stages}
use Rattle.stream_model.specs.Machine.{State}
use Rattle.source_lines.specs.Run.{At}
use Rattle.job_stream.specs.Parts.{stage_run, stages_run}
use Rattle.job_stream.proofs.Chains.{goes_next, halts_next, goes_start}
use Rattle.job_stream.proofs.Unfold.{no_stages, stages_unfold}
use Rattle.job_stream.proofs.drains.deliver_all.Goals as goal

pub deliver-requires : goal.deliver-requires
deliver-requires g c =
    let r = c.requires.ready in
    let at : At State = record { state = r.2; files = [] } in
    let here = c.stages.invariant r.0.sources [] r.0 r.1 at r.3 refl (record { stands = r.4; files_are = refl }) in
    let count = c.stage_count-count.ensures r.0 r.1 r.2.printed r.4.items r.4.stands in
    let below : c.stages.number < length (stages (network r.0)) = omega (arith, count, c.stages-test.true) in
    record { ready = (r.0, r.1, here.place.state, r.3, below, here.stands.stands) }

pub returns-in_err-drained-clause-halts : goal.returns-in_err-drained-clause-halts
returns-in_err-drained-clause-halts g c = let p = err_from_is_err_and c.from_residual.result c.from_residual.ensures.1 in rw (p.1, p.2) (λ sources files.
    let number = c.stages.number in
    halts_next c.args.sheet.now sources c.args.session files (stages_run 0) (stages_run number) c.stages.drained files _ _ (c.stages.invariant sources files) (stage_run number) (stages_run (number + 1)) _ c.in_err-drained.field-0.0
    (stages_unfold number (number + 1) refl) (c.in_err-drained.ensures.halts sources files))

pub stages-preserved : goal.stages-preserved
stages-preserved g c = λ sources files.
    let number = c.stages.number in
    goes_next c.args.sheet.now sources c.args.session files (stages_run 0) (stages_run number) c.stages.drained files _ _ (c.stages.invariant sources files) (stage_run number) (stages_run (number + 1)) c.in_ok-drained.drained files _
    (stages_unfold number (number + 1) refl) (c.in_ok-drained.ensures.ok sources files)

pub returns-clause-ok : goal.returns-clause-ok
returns-clause-ok g c = λ sources files plan limit p is same stands.
    let here = stands.stands in
    let count = c.stage_count-count.ensures plan limit p.state.printed here.items here.stands in
    let past : c.stages.number ≡ length (stages (network plan)) = omega (arith, count, c.stages-test.false, c.stages.auto.number-end) in
    let a = c.stages.invariant sources files plan limit p is same stands in
    record { place = a.place; goes = a.goes ∙ no_stages c.stages.number c.args.sheet.now.by_table plan limit a.place past; stands = a.stands; more = a.more; printed = a.printed; written = a.written; later = a.later }

pub stages-init : goal.stages-init
stages-init g c = λ sources files. goes_start c.args.sheet.now sources c.args.session files (stages_run 0) (stages_run 0) _ (λ by_table plan limit p. refl)
