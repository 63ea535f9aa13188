use Rattle.std.proofs.lemmas.Result.{err_from_is_err_and}
use Rattle.job_ending.proofs.laws.Runs.{halted_there}
use Rattle.job_run.proofs.sums.load_lines.Goals as goal

pub returns-in_err-line-clause-runs : goal.returns-in_err-line-clause-runs
returns-in_err-line-clause-runs g c =
    let p = err_from_is_err_and c.from_residual.result c.from_residual.ensures.1 in
    rw (p.1, p.2) (halted_there _ _ _ _ c.in_err-line.ensures.halts)
