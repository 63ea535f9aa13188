use Rattle.job_text.specs.Lines.{records_of}
use Rattle.job_run.proofs.Summed.{halted_more}
use Rattle.job_run.proofs.running_sums.taken.Goals as goal

pub returns-in-Halted : goal.returns-in-Halted
returns-in-Halted c = λ records takes. halted_more c.in-Halted.halt records (records_of c.args.part) (rw c.in-Halted.is at takes)
