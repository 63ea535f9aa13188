use Rattle.job_run.specs.Outcome.{summed}
use Rattle.job_run.proofs.KeptRuns.{halt_kept}
use Rattle.job_run.proofs.sums.summed_by.Goals as goal

pub returns-in-Err-clause-halts : goal.returns-in-Err-clause-halts
returns-in-Err-clause-halts c = rw (c.in-Err.is, c.in_memory.ensures) (λ there kept. halt_kept c.in-Err.halt there c.args.sink.bytes kept (summed c.args.lines))
