use Rattle.std.proofs.lemmas.Result.{err_from_is_err_and}
use Rattle.job_batch.specs.Batch.{with_changes}
use Rattle.job_ending.proofs.laws.Runs.{runs_halted, runs_there}
use Rattle.job_judgement.specs.Views.{accepted_view}
use Rattle.job_run.proofs.batches.answer_script.Goals as goal

pub returns-in_err-files-clause-runs : goal.returns-in_err-files-clause-runs
returns-in_err-files-clause-runs g c =
    let p = err_from_is_err_and c.from_residual.result c.from_residual.ensures.1 in
    rw (p.1, p.2) (runs_halted _ _ _ _ _ _ (c.in_err-files.ensures.halts (λ h. with_changes (accepted_view c.args.script.now) c.args.first)))

pub returns-clause-runs : goal.returns-clause-runs
returns-clause-runs g c = runs_there _ _ _ _ _ _ _ _ (λ h is. c.in_ok-files.ensures.ok h is (with_changes (accepted_view c.args.script.now) c.args.first)) c.batch.ensures.runs
