use Rattle.std.proofs.lemmas.Result.{err_from_is_err_and}
use Rattle.job_ending.proofs.laws.Runs.{runs_halted, runs_there}
use Rattle.job_run.specs.Outcome.{explain_script}
use Rattle.job_run.proofs.explains.explain_name.Goals as goal

pub returns-in_err-script-clause-runs : goal.returns-in_err-script-clause-runs
returns-in_err-script-clause-runs g c =
    let p = err_from_is_err_and c.from_residual.result c.from_residual.ensures.1 in
    rw (p.1, p.2) (runs_halted _ _ _ _ _ _ (c.in_err-script.ensures.halts (λ h. explain_script)))

pub returns-clause-runs : goal.returns-clause-runs
returns-clause-runs g c = runs_there _ _ _ _ _ _ _ _ (λ h is. c.in_ok-script.ensures.ok h is explain_script) c.explain_script.ensures.runs
