use Rattle.std.proofs.Common.{[], refl, sym}
use Rattle.plan_check.specs.Checked.{plan_in}
use Rattle.plan_rules.specs.Doings.{network}
use Rattle.stream_model.specs.Machine.{opened}
use Rattle.exec_core.specs.Goes.{StandsIn}
use Rattle.job_stream.specs.Early.{opening}
use Rattle.job_stream.proofs.Results.{some_weaker}
use Rattle.job_stream.proofs.streaming.try_early.Goals as goal

pub run_early-requires : goal.run_early-requires
run_early-requires g c =
    let plan = plan_in c.args.checked.now in
    record { ready = (plan, c.args.sent_limit, opened (network plan), c.requires.sheet, sym c.requires.sources, record { items = []; stands = c.in-Ok-open_job.ensures.ok; is = refl }) }

pub returns-in-Ok-open_job-clause-finished : goal.returns-in-Ok-open_job-clause-finished
returns-in-Ok-open_job-clause-finished g c = some_weaker c.run_early.result c.run_early.ensures (λ early finished.
    let plan = plan_in c.args.checked.now in
    let limit = c.args.sent_limit in
    let n = network plan in
    let stands : StandsIn c.in-Ok-open_job.session plan limit [] (opened n) = record { items = []; stands = c.in-Ok-open_job.ensures.ok; is = refl } in
    (_, finished plan limit (opening n c.args.files.now) c.requires.sheet (sym c.requires.sources) (record { stands = stands; files_are = c.in-Ok.ensures })))
