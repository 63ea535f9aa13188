use Rattle.std.proofs.Common.{refl}
use Rattle.std.proofs.lemmas.Result.{err_from_is_err_and}
use Rattle.job_stream.specs.Parts.{end_run, opened_run, orders_run}
use Rattle.job_stream.proofs.Chains.{goes_last, goes_next, goes_start, halts_last, halts_next}
use Rattle.job_stream.proofs.Results.{err_weaker, ok_weaker}
use Rattle.job_stream.proofs.Unfold.{opened_unfolds}
use Rattle.stream_model.specs.Machine.{State}
use Rattle.source_lines.specs.Run.{At}
use Rattle.job_stream.proofs.orders.go_over.Goals as goal

pub returns-in_err-followed-clause-halts : goal.returns-in_err-followed-clause-halts
returns-in_err-followed-clause-halts g c = let p = err_from_is_err_and c.from_residual.result c.from_residual.ensures.1 in rw (p.1, p.2) (
    let sheet = c.args.sheet.now in
    let sources = c.args.sources.now in
    let files = c.args.files.now.items in
    let orders = c.args.orders.now in
    let start = goes_start sheet sources c.args.session files (opened_run orders) (opened_run orders) _ (λ by_table plan limit p. refl) in
    halts_next sheet sources c.args.session files (opened_run orders) (opened_run orders) c.args.session files _ _ start (orders_run orders) end_run _ c.in_err-followed.field-0.0 (opened_unfolds orders) c.in_err-followed.ensures.halts)

pub returns-clause-ok : goal.returns-clause-ok
returns-clause-ok g c = ok_weaker c.finish.result c.finish.ensures.ok (λ next finished.
    let sheet = c.args.sheet.now in
    let sources = c.args.sources.now in
    let files = c.args.files.now.items in
    let orders = c.args.orders.now in
    let start = goes_start sheet sources c.args.session files (opened_run orders) (opened_run orders) _ (λ by_table plan limit p. refl) in
    let followed = goes_next sheet sources c.args.session files (opened_run orders) (opened_run orders) c.args.session files _ _ start (orders_run orders) end_run c.in_ok-followed.followed c.follow.new.files.items _ (opened_unfolds orders) c.in_ok-followed.ensures.ok in
    goes_last sheet sources c.args.session files (opened_run orders) end_run c.in_ok-followed.followed c.follow.new.files.items _ _ followed next c.finish.new.files.items _ finished)

pub returns-clause-halts : goal.returns-clause-halts
returns-clause-halts g c = err_weaker c.finish.result c.finish.ensures.halts (λ halt finished.
    let sheet = c.args.sheet.now in
    let sources = c.args.sources.now in
    let files = c.args.files.now.items in
    let orders = c.args.orders.now in
    let start = goes_start sheet sources c.args.session files (opened_run orders) (opened_run orders) _ (λ by_table plan limit p. refl) in
    let followed = goes_next sheet sources c.args.session files (opened_run orders) (opened_run orders) c.args.session files _ _ start (orders_run orders) end_run c.in_ok-followed.followed c.follow.new.files.items _ (opened_unfolds orders) c.in_ok-followed.ensures.ok in
    halts_last sheet sources c.args.session files (opened_run orders) end_run c.in_ok-followed.followed c.follow.new.files.items _ _ followed _ halt finished)

pub finish-requires : goal.finish-requires
finish-requires g c =
    let r = c.requires.ready in
    let at : At State = record { state = r.2; files = c.args.files.now.items } in
    let here = c.in_ok-followed.ensures.ok r.0 r.1 at r.3 r.4 (record { stands = r.5; files_are = refl }) in
    record { ready = (r.0, r.1, here.place.state, r.3, r.4, here.stands.stands) }
