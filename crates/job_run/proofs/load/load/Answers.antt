use Rattle.std.proofs.Common.{Err, ap}
use Rattle.job_run.proofs.Loads.{load_failed}
use Rattle.job_run.proofs.load.load.Goals as goal

pub returns-in-Err-Failed-clause-halts : goal.returns-in-Err-Failed-clause-halts
returns-in-Err-Failed-clause-halts g c = load_failed _ _ _ _ _ _ c.in-Err-Failed.ensures.same (c.in-Err-Failed.ensures.failed (ap Err c.in-Err-Failed.field-0-is))
