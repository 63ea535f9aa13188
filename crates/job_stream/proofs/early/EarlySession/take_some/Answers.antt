use Rattle.std.proofs.Common.{None, refl}
use Rattle.stream_model.specs.Machine.{State}
use Rattle.source_lines.specs.Run.{At}
use Rattle.job_stream.specs.Writing.{Told}
use Rattle.job_stream.proofs.EarlyRuns.{early_taken}
use Rattle.job_stream.proofs.early.EarlySession.take_some.Goals as goal

pub returns-in-Ok : goal.returns-in-Ok
returns-in-Ok g c = λ sheet plan limit p here.
    let there : At State = record p { state = here.state } in
    let at : Told = record { written = None; faults = 0 } in
    early_taken sheet c.args.sources.now plan limit p c.args.self c.args.files.now.items here c.args.place c.args.count c.in-Ok.session _ _ at at
    (c.in-Ok.ensures.ok sheet at plan limit there here.sheet_is here.sources_are here.stands) refl refl
