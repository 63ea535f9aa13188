use Rattle.job_judgement.specs.Judgement.{Accepted, judgement}
use Rattle.job_batch.specs.Batch.{after_lines}
use Rattle.source_lines.specs.Feeds.{feed_taken}
use Rattle.job_run.specs.Loads.{sums_script}
use Rattle.job_run.proofs.Loads.{judged_before}
use Rattle.job_run.proofs.Printable.{printable_halt}
use Rattle.job_run.proofs.running_sums.begun.Goals as goal

pub returns-in-Err : goal.returns-in-Err
returns-in-Err c =
    (printable_halt c.in-Err.halt (judgement sums_script) c.in-Err.ensures.halts, (λ more. judged_before (λ (script : Accepted). after_lines script (feed_taken script.inserted.sources more)) (judgement sums_script) c.in-Err.halt c.in-Err.ensures.halts))
