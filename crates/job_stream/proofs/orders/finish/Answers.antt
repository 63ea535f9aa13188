use Rattle.std.proofs.Common.{refl, None}
use Rattle.std.proofs.lemmas.Result.{err_from_is_err_and}
use Rattle.job_stream.specs.Parts.{drain_run, end_run, rest_run}
use Rattle.job_stream.proofs.Chains.{goes_last, goes_next, goes_start, halts_last, halts_next}
use Rattle.job_stream.proofs.Results.{err_weaker, ok_weaker}
use Rattle.job_stream.proofs.Unfold.{end_unfolds}
use Rattle.stream_model.specs.Machine.{State}
use Rattle.source_lines.specs.Run.{At}
use Rattle.job_stream.proofs.orders.finish.Goals as goal

pub returns-in_err-taken-clause-halts : goal.returns-in_err-taken-clause-halts
returns-in_err-taken-clause-halts g c = let p = err_from_is_err_and c.from_residual.result c.from_residual.ensures.1 in rw (p.1, p.2) (
    let sheet = c.args.sheet.now in
    let sources = c.args.sources.now in
    let files = c.args.files.now.items in
    let start = goes_start sheet sources c.args.session files end_run end_run _ (λ by_table plan limit p. refl) in
    halts_next sheet sources c.args.session files end_run end_run c.args.session files _ _ start rest_run drain_run _ c.in_err-taken.field-0.0 end_unfolds (c.in_err-taken.ensures.halts sheet _))

pub returns-clause-ok : goal.returns-clause-ok
returns-clause-ok g c = ok_weaker c.drain.result c.drain.ensures.ok (λ next drained.
    let sheet = c.args.sheet.now in
    let sources = c.args.sources.now in
    let files = c.args.files.now.items in
    let start = goes_start sheet sources c.args.session files end_run end_run _ (λ by_table plan limit p. refl) in
    let taken = goes_next sheet sources c.args.session files end_run end_run c.args.session files _ _ start rest_run drain_run c.in_ok-taken.taken c.take_rest.new.files.items _ end_unfolds (c.in_ok-taken.ensures.ok sheet _) in
    goes_last sheet sources c.args.session files end_run drain_run c.in_ok-taken.taken c.take_rest.new.files.items _ _ taken next c.take_rest.new.files.items _ (drained sources c.take_rest.new.files.items))

pub returns-clause-halts : goal.returns-clause-halts
returns-clause-halts g c = err_weaker c.drain.result c.drain.ensures.halts (λ halt drained.
    let sheet = c.args.sheet.now in
    let sources = c.args.sources.now in
    let files = c.args.files.now.items in
    let start = goes_start sheet sources c.args.session files end_run end_run _ (λ by_table plan limit p. refl) in
    let taken = goes_next sheet sources c.args.session files end_run end_run c.args.session files _ _ start rest_run drain_run c.in_ok-taken.taken c.take_rest.new.files.items _ end_unfolds (c.in_ok-taken.ensures.ok sheet _) in
    halts_last sheet sources c.args.session files end_run drain_run c.in_ok-taken.taken c.take_rest.new.files.items _ _ taken _ halt (drained sources c.take_rest.new.files.items))

pub drain-requires : goal.drain-requires
drain-requires g c =
    let r = c.requires.ready in
    let at : At State = record { state = r.2; files = c.args.files.now.items } in
    let here = c.in_ok-taken.ensures.ok c.args.sheet.now (record { written = None; faults = 0 }) r.0 r.1 at r.3 r.4 (record { stands = r.5; files_are = refl }) in
    record { ready = (r.0, r.1, here.place.state, r.3, here.stands.stands) }
