use Rattle.job_run.proofs.laws.EndsWell.{ends_well}
use Rattle.job_run.specs.Outcome.{outcome}
use Rattle.job.proofs.Endings.{completes_told, done_before, ends_told, range_before}
use Rattle.job.proofs.run_job.Goals as goal

pub returns-clause-headline : goal.returns-clause-headline
returns-clause-headline g c = λ done. c.run-ending.ensures.headline (done_before _ _ c.report.ensures.same done)

pub returns-clause-complete : goal.returns-clause-complete
returns-clause-complete g c = completes_told _ (outcome c.args.words.now) _ _ _ _ c.report.ensures.same c.run-ending.ensures.runs.cause

pub returns-clause-range : goal.returns-clause-range
returns-clause-range g c = λ h is none node subtask row columns out.
    c.run-ending.ensures.range h is none node subtask row columns (range_before _ _ node subtask row columns c.report.ensures.same out)

pub returns-clause-ends_well : goal.returns-clause-ends_well
returns-clause-ends_well g c = λ no_read no_write h is may.
    ends_told _ _ (ends_well c.args.words.now h may) (completes_told _ (outcome c.args.words.now) _ _ _ _ c.report.ensures.same c.run-ending.ensures.runs.cause no_read no_write h is)
