use Rattle.std.proofs.Common.{refl}
use Rattle.stream_model.specs.Machine.{State}
use Rattle.source_lines.specs.Run.{At}
use Rattle.job_stream.proofs.Results.{some_weaker}
use Rattle.job_stream.proofs.EarlyEnds.{finished_behind}
use Rattle.job_stream.proofs.EarlyRuns.{early_begins}
use Rattle.job_stream.proofs.early.run_early.Goals as goal

pub take_rest-requires : goal.take_rest-requires
take_rest-requires g c =
    let r = c.requires.ready in
    let p : At State = record { state = r.2; files = c.args.files.now.items } in
    let begins = c.in-Ok.ensures r.0 r.1 r.2.printed r.5.items r.5.stands in
    record { ready = (r.0, r.1, p, early_begins c.args.sheet.now c.args.sources.now r.0 r.1 p c.args.session _ c.in-Ok.stages.items c.args.files.now.items r.3 r.4 (record { stands = r.5; files_are = refl }) begins refl refl) }

pub finish-requires : goal.finish-requires
finish-requires g c =
    let r = c.requires.ready in
    let p : At State = record { state = r.2; files = c.args.files.now.items } in
    let begins = c.in-Ok.ensures r.0 r.1 r.2.printed r.5.items r.5.stands in
    let here = early_begins c.args.sheet.now c.args.sources.now r.0 r.1 p c.args.session _ c.in-Ok.stages.items c.args.files.now.items r.3 r.4 (record { stands = r.5; files_are = refl }) begins refl refl in
    let t = c.in_ok-taken.ensures r.0 r.1 p here in
    record { ready = (c.args.sources.now, _, r.0, r.1, t.place, t.early) }

pub returns : goal.returns
returns g c = some_weaker c.finish.result c.finish.ensures (λ later finished plan limit p is same stands.
    let begins = c.in-Ok.ensures plan limit p.state.printed stands.stands.items stands.stands.stands in
    let here = early_begins c.args.sheet.now c.args.sources.now plan limit p c.args.session _ c.in-Ok.stages.items c.args.files.now.items is same stands begins refl refl in
    let t = c.in_ok-taken.ensures plan limit p here in
    finished_behind c.args.sheet.now c.args.sources.now plan limit p _ later _ _ t (finished c.args.sources.now _ plan limit t.place t.early))
