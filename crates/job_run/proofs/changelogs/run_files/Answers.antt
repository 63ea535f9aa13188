use Rattle.std.proofs.Common.{sym}
use Rattle.std.proofs.lemmas.Result.{err_from_is_err_and}
use Rattle.job_ending.proofs.laws.Runs.{runs_halted, runs_there}
use Rattle.job_stream.specs.Stream.{streamed}
use Rattle.plan_check.specs.Checked.{plan_in}
use Rattle.job_run.proofs.changelogs.run_files.Goals as goal

pub returns-in_err-orders-clause-runs : goal.returns-in_err-orders-clause-runs
returns-in_err-orders-clause-runs g c =
    let p = err_from_is_err_and c.from_residual.result c.from_residual.ensures.1 in
    rw (p.1, p.2, sym c.is_by_table.ensures) (runs_halted _ _ _ _ _ _ (c.in_err-orders.ensures.halts (λ h. streamed (plan_in c.args.checked.now) c.args.files)))

pub returns-clause-runs : goal.returns-clause-runs
returns-clause-runs g c = rw (sym c.is_by_table.ensures) (runs_there _ _ _ _ _ _ _ _ (λ h is. c.in_ok-orders.ensures.ok h is (streamed (plan_in c.args.checked.now) c.args.files)) c.run_lines.ensures.runs)
