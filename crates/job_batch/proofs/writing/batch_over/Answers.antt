use Rattle.std.proofs.lemmas.Result.{err_from_is_err_and}
use Rattle.job_judgement.specs.Views.{accepted_view}
use Rattle.job_ending.proofs.laws.Runs.{halted_there, there_moved}
use Rattle.job_batch.specs.Batch.{over_tables, with_rows}
use Rattle.job_batch.proofs.writing.batch_over.Goals as goal

pub returns-in_err-rows-clause-runs : goal.returns-in_err-rows-clause-runs
returns-in_err-rows-clause-runs g c =
    let p = err_from_is_err_and c.from_residual.result c.from_residual.ensures.1 in
    rw (p.1, p.2) (halted_there _ _ _ _ c.in_err-rows.ensures.halts)

pub returns-in_err-rows-clause-printable : goal.returns-in_err-rows-clause-printable
returns-in_err-rows-clause-printable g c =
    let p = err_from_is_err_and c.from_residual.result c.from_residual.ensures.1 in
    rw (p.1, p.2) c.in_err-rows.ensures.printable

pub returns-clause-runs : goal.returns-clause-runs
returns-clause-runs g c = there_moved (over_tables (accepted_view c.args.script.now) (with_rows c.args.script.now.inserted.sources c.args.tables.now)) c.in_ok-rows.ensures.ok c.write_rows.ensures.runs
