use Rattle.std.proofs.Common.{◌∙◌, [], ap}
use Rattle.plan_rules.specs.Doings.{network}
use Rattle.stream_model.specs.Machine.{State}
use Rattle.source_lines.specs.Run.{At, whole_run}
use Rattle.source_lines.specs.Supply.{is_by_table}
use Rattle.job_stream.proofs.EarlyEnds.{whole_end}
use Rattle.job_stream.proofs.Ends.{ends_halted, ends_well}
use Rattle.job_stream.proofs.Going.{halts_same}
use Rattle.job_stream.specs.Parts.{end_run}
use Rattle.job_stream.specs.Writing.{told}
use Rattle.job_stream.proofs.streaming.write_early.Goals as goal

pub returns-in-Ok : goal.returns-in-Ok
returns-in-Ok g c = λ all plan limit p files is finished here by within.
    let sheet = c.args.sheet.now in
    let whole = whole_end sheet plan limit p all here by within in
    let well = c.in-Ok.ensures.ok plan limit p files is finished in
    ends_well plan.sink sheet (is_by_table all) is by (whole_run (network plan) limit plan.sources all []) p (ap (λ (q : At State). q.state.printed) here) (told g.K.Sink.written g.K.Sink.faults c.args.out.now) (told g.K.Sink.written g.K.Sink.faults c.write.new.out) _
    (record { place = well.place; goes = whole ∙ well.goes; more = well.more; printed = well.printed; written = well.written })

pub returns-in-Err : goal.returns-in-Err
returns-in-Err g c = λ all plan limit p files is finished here by within.
    let sheet = c.args.sheet.now in
    let whole = whole_end sheet plan limit p all here by within in
    ends_halted plan.sink sheet (is_by_table all) is by (whole_run (network plan) limit plan.sources all []) p (ap (λ (q : At State). q.state.printed) here) _ _ c.in-Err.halt
    (halts_same sheet (end_run sheet.by_table plan limit p) (whole_run (network plan) limit plan.sources all []) p _ _ c.in-Err.halt whole (c.in-Err.ensures.halts plan limit p files is finished))
