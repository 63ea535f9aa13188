use Rattle.std.proofs.Common.{[], sym, refl, ap, ◌∙◌}
use Rattle.plan_check.specs.Checked.{plan_in}
use Rattle.plan_rules.specs.Doings.{network}
use Rattle.stream_model.specs.Machine.{opened}
use Rattle.exec_core.specs.Goes.{StandsIn}
use Rattle.job_stream.proofs.Ends.{ends_halted, ends_wanting, ends_well, whole_opened}
use Rattle.source_lines.specs.Supply.{is_by_table}
use Rattle.source_lines.specs.Run.{whole_run}
use Rattle.job_stream.specs.Early.{opening}
use Rattle.job_stream.specs.Parts.{opened_run}
use Rattle.job_stream.specs.Writing.{told}
use Rattle.job_stream.proofs.Going.{halts_same}
use Rattle.job_stream.proofs.streaming.run_by_order.Goals as goal

pub returns-in_default : goal.returns-in_default
returns-in_default g c = ends_wanting _ _ _

pub go_over-requires : goal.go_over-requires
go_over-requires g c =
    let plan = plan_in c.args.checked.now in
    record { ready = (plan, c.args.sent_limit, opened (network plan), c.requires.sheet, sym c.requires.sources, record { items = []; stands = c.in-Ok-open_job.ensures.ok; is = refl }) }

pub returns : goal.returns
returns g c = ends_wanting _ _ _

pub returns-in-Ok-go_over : goal.returns-in-Ok-go_over
returns-in-Ok-go_over g c =
    let plan = plan_in c.args.checked.now in
    let limit = c.args.sent_limit in
    let sheet = c.args.sheet.now in
    let orders = c.args.orders.now in
    let all = c.args.files.now in
    let n = network plan in
    let p = opening n all in
    let stands : StandsIn c.in-Ok-open_job.session plan limit [] (opened n) = record { items = []; stands = c.in-Ok-open_job.ensures.ok; is = refl } in
    let ahead = c.in-Ok-go_over.ensures.ok plan limit p c.requires.sheet (sym c.requires.sources) (record { stands = stands; files_are = c.in-Ok.ensures }) in
    let whole = whole_opened n limit plan.sources all orders c.in-Ok-open_job.ensures.within ∙ ap (λ b. opened_run orders b plan limit p) (sym c.requires.by_table) in
    ends_well plan.sink sheet (is_by_table all) c.requires.sheet c.requires.by_table (whole_run n limit plan.sources all orders) p refl (told g.K.Sink.written g.K.Sink.faults c.args.out.now) (told g.K.Sink.written g.K.Sink.faults c.go_over.new.out) _
    (record { place = ahead.place; goes = whole ∙ ahead.goes; more = ahead.more; printed = ahead.printed; written = ahead.written })

pub returns-in-Ok-open_job : goal.returns-in-Ok-open_job
returns-in-Ok-open_job g c =
    let plan = plan_in c.args.checked.now in
    let limit = c.args.sent_limit in
    let sheet = c.args.sheet.now in
    let orders = c.args.orders.now in
    let all = c.args.files.now in
    let n = network plan in
    let p = opening n all in
    let stands : StandsIn c.in-Ok-open_job.session plan limit [] (opened n) = record { items = []; stands = c.in-Ok-open_job.ensures.ok; is = refl } in
    let halted = c.in-Err.ensures.halts plan limit p c.requires.sheet (sym c.requires.sources) (record { stands = stands; files_are = c.in-Ok.ensures }) in
    let whole = whole_opened n limit plan.sources all orders c.in-Ok-open_job.ensures.within ∙ ap (λ b. opened_run orders b plan limit p) (sym c.requires.by_table) in
    ends_halted plan.sink sheet (is_by_table all) c.requires.sheet c.requires.by_table (whole_run n limit plan.sources all orders) p refl _ _ c.in-Err.halt
    (halts_same sheet (opened_run orders sheet.by_table plan limit p) (whole_run n limit plan.sources all orders) p _ _ c.in-Err.halt whole halted)
