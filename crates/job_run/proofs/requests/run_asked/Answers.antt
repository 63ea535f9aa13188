use Rattle.std.proofs.Common.{refl}
use Rattle.job_ending.proofs.laws.Runs.{runs_moved, runs_there, memory_runs}
use Rattle.job_run.proofs.Asked.{of_batch, of_explain, of_load, of_run}
use Rattle.job_run.proofs.requests.run_asked.Goals as goal

pub returns-in-Ok-Run-clause-runs : goal.returns-in-Ok-Run-clause-runs
returns-in-Ok-Run-clause-runs g c =
    rw c.ending_of.ensures (runs_moved _ _ _ _ _ _ _ _ _ _ refl (λ h is. of_run c.args.words.now c.in-Ok-Run.field-0 c.in-Ok-Run.ensures.ok c.in-Ok-Run.names c.in-Ok-Run.order c.in-Ok-Run.field-0-is h) (λ rose. rose) c.run_names.ensures.runs)

pub returns-in-Ok-Batch-clause-runs : goal.returns-in-Ok-Batch-clause-runs
returns-in-Ok-Batch-clause-runs g c =
    rw c.ending_of-in-Ok-Batch.ensures (runs_moved _ _ _ _ _ _ _ _ _ _ refl (λ h is. of_batch c.args.words.now c.in-Ok-Batch.field-0 c.in-Ok-Batch.ensures.ok c.in-Ok-Batch.names c.in-Ok-Batch.first c.in-Ok-Batch.field-0-is h) (λ rose. rose) c.batch_names.ensures.runs)

pub returns-in-Ok-Explain-clause-runs : goal.returns-in-Ok-Explain-clause-runs
returns-in-Ok-Explain-clause-runs g c =
    rw c.ending_of-in-Ok-Explain.ensures (runs_moved _ _ _ _ _ _ _ _ _ _ refl (λ h is. of_explain c.args.words.now c.in-Ok-Explain.field-0 c.in-Ok-Explain.ensures.ok c.in-Ok-Explain.name c.in-Ok-Explain.field-0-is h) (λ rose. rose) c.explain_name.ensures.runs)

pub returns-in-Ok-Load-clause-runs : goal.returns-in-Ok-Load-clause-runs
returns-in-Ok-Load-clause-runs g c =
    rw c.ending_of-in-Ok-Load.ensures (runs_there _ _ _ _ _ _ _ _ (λ h is. of_load c.args.words.now c.in-Ok-Load.field-0 c.in-Ok-Load.ensures.ok c.in-Ok-Load.seed c.in-Ok-Load.lines c.in-Ok-Load.field-0-is h) c.load_lines.ensures.runs)

pub returns-in-Err-Memory-clause-runs : goal.returns-in-Err-Memory-clause-runs
returns-in-Err-Memory-clause-runs g c = memory_runs _ _ _ _ _
