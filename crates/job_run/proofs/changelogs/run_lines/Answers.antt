use Rattle.plan_check.specs.Checked.{plan_in}
use Rattle.job_run.proofs.Printable.{run_printable}
use Rattle.job_run.proofs.changelogs.run_lines.Goals as goal
use Rattle.run_laws.proofs.laws.Stops.{runs_stop_at_rows, stops_have_types}

pub returns-clause-printable : goal.returns-clause-printable
returns-clause-printable g c = run_printable runs_stop_at_rows stops_have_types (plan_in c.args.checked.now) c.requires.ruled c.args.files c.args.orders.now _ _ c.stream.ensures.cause
