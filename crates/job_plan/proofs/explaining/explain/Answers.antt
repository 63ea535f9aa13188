use Rattle.job_ending.proofs.laws.Runs.{memory_there}
use Rattle.job_plan.proofs.explaining.explain.Goals as goal

pub returns-in_default : goal.returns-in_default
returns-in_default g c = memory_there _ _ _
