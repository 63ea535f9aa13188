use Rattle.job_run.proofs.KeptRuns.{halt_kept, memory_printable, well_kept}
use Rattle.job_run.proofs.kept.kept_by.Goals as goal

pub returns-in-Ok-clause-ok : goal.returns-in-Ok-clause-ok
returns-in-Ok-clause-ok c = rw (c.in-Ok.is, c.into_bytes.ensures) (λ there kept next. well_kept there c.args.kept.bytes kept next)

pub returns-in-Err-clause-halts : goal.returns-in-Err-clause-halts
returns-in-Err-clause-halts c = rw (c.in-Err.is, c.in_memory.ensures) (λ there kept next. halt_kept c.in-Err.halt there c.args.kept.bytes kept next)

pub returns-in-Err-clause-printable : goal.returns-in-Err-clause-printable
returns-in-Err-clause-printable c = rw (c.in-Err.is, c.in_memory.ensures) (λ printable. memory_printable c.in-Err.halt printable)
