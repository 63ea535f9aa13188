use Rattle.std.proofs.Common.{refl, []}
use Rattle.std.proofs.lemmas.Result.{err_from_is_err_and}
use Rattle.stream_model.specs.Runs.{quiet}
use Rattle.job_stream.specs.Parts.{drain_run, item_run, stages_run}
use Rattle.job_stream.proofs.Chains.{goes_last, goes_next, goes_start, halts_last, halts_next}
use Rattle.job_stream.proofs.Results.{err_weaker, ok_weaker}
use Rattle.job_stream.proofs.Unfold.{drain_unfolds}
use Rattle.stream_model.specs.Machine.{State}
use Rattle.source_lines.specs.Run.{At}
use Rattle.job_stream.proofs.drains.drain.Goals as goal

pub returns-in_err-drained-clause-halts : goal.returns-in_err-drained-clause-halts
returns-in_err-drained-clause-halts g c = let p = err_from_is_err_and c.from_residual.result c.from_residual.ensures.1 in rw (p.1, p.2) (λ sources files.
    let start = goes_start c.args.sheet.now sources c.args.session files drain_run drain_run _ (λ by_table plan limit p. refl) in
    halts_next c.args.sheet.now sources c.args.session files drain_run drain_run c.args.session files _ _ start (stages_run 0) (item_run quiet) _ c.in_err-drained.field-0.0 drain_unfolds (c.in_err-drained.ensures.halts sources files))

pub returns-clause-ok : goal.returns-clause-ok
returns-clause-ok g c = ok_weaker c.tell_quiet.result c.tell_quiet.ensures.ok (λ next told sources files.
    let start = goes_start c.args.sheet.now sources c.args.session files drain_run drain_run _ (λ by_table plan limit p. refl) in
    let staged = goes_next c.args.sheet.now sources c.args.session files drain_run drain_run c.args.session files _ _ start (stages_run 0) (item_run quiet) c.in_ok-drained.drained files _ drain_unfolds (c.in_ok-drained.ensures.ok sources files) in
    goes_last c.args.sheet.now sources c.args.session files drain_run (item_run quiet) c.in_ok-drained.drained files _ _ staged next files _ (told sources files))

pub returns-clause-halts : goal.returns-clause-halts
returns-clause-halts g c = err_weaker c.tell_quiet.result c.tell_quiet.ensures.halts (λ halt told sources files.
    let start = goes_start c.args.sheet.now sources c.args.session files drain_run drain_run _ (λ by_table plan limit p. refl) in
    let staged = goes_next c.args.sheet.now sources c.args.session files drain_run drain_run c.args.session files _ _ start (stages_run 0) (item_run quiet) c.in_ok-drained.drained files _ drain_unfolds (c.in_ok-drained.ensures.ok sources files) in
    halts_last c.args.sheet.now sources c.args.session files drain_run (item_run quiet) c.in_ok-drained.drained files _ _ staged _ halt (told sources files))

pub tell_quiet-requires : goal.tell_quiet-requires
tell_quiet-requires g c =
    let r = c.requires.ready in
    let at : At State = record { state = r.2; files = [] } in
    let here = c.in_ok-drained.ensures.ok r.0.sources [] r.0 r.1 at r.3 refl (record { stands = r.4; files_are = refl }) in
    record { ready = (r.0, r.1, here.place.state, r.3, here.stands.stands) }
