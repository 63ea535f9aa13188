use Rattle.std.proofs.Common.{refl}
use Rattle.job_run.proofs.RunningSums.{no_sums}
use Rattle.job_run.proofs.running_sums.Sums.new.Goals as goal

pub returns : goal.returns
returns c = no_sums _ c.new.ensures c.new-2.ensures c.begun.ensures refl refl refl
