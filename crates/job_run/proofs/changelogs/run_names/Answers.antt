use Rattle.std.proofs.Common.{sym, ◌∙◌}
use Rattle.std.proofs.lemmas.Result.{err_from_is_err_and}
use Rattle.job_ending.proofs.laws.Runs.{runs_halted, runs_moved, rose_earlier}
use Rattle.command_line.specs.Requests.{input_view}
use Rattle.job_run.specs.Outcome.{run_script}
use Rattle.job_run.proofs.changelogs.run_names.Goals as goal

pub returns-in_err-script-clause-runs : goal.returns-in_err-script-clause-runs
returns-in_err-script-clause-runs g c =
    let p = err_from_is_err_and c.from_residual.result c.from_residual.ensures.1 in
    rw (p.1, p.2) (runs_halted _ _ _ _ _ _ (c.in_err-script.ensures.halts (λ h. run_script h (input_view c.args.names.now.input) c.args.order.now)))

pub returns-clause-runs : goal.returns-clause-runs
returns-clause-runs g c =
    runs_moved _ _ _ _ _ _ _ _ _ _ c.in_ok-script.ensures.same
    (λ h is. c.in_ok-script.ensures.ok h (sym c.in_ok-script.ensures.same ∙ is) (run_script h (input_view c.args.names.now.input) c.args.order.now))
    (rose_earlier _ _ _ c.in_ok-script.ensures.later) c.run_script.ensures.runs
