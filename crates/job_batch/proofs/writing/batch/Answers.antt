use Rattle.std.proofs.lemmas.Result.{err_from_is_err_and}
use Rattle.job_ending.proofs.laws.Runs.{halted_there, there_moved}
use Rattle.job_judgement.specs.Views.{accepted_view}
use Rattle.job_batch.specs.Batch.{with_changes}
use Rattle.job_batch.proofs.Taken.{same_over, taken_fit}
use Rattle.job_batch.proofs.writing.batch.Goals as goal
use Rattle.source_lines.proofs.laws.Theorems.{taken_rows_fit}

pub returns-in_err-tables-clause-runs : goal.returns-in_err-tables-clause-runs
returns-in_err-tables-clause-runs g c =
    let p = err_from_is_err_and c.from_residual.result c.from_residual.ensures.1 in
    rw (p.1, p.2) (halted_there _ _ _ _ c.in_err-tables.ensures.halts)

pub returns-in_err-tables-clause-printable : goal.returns-in_err-tables-clause-printable
returns-in_err-tables-clause-printable g c =
    let p = err_from_is_err_and c.from_residual.result c.from_residual.ensures.1 in
    rw (p.1, p.2) c.in_err-tables.ensures.printable

pub batch_over-requires-clause-fit : goal.batch_over-requires-clause-fit
batch_over-requires-clause-fit g c = taken_fit taken_rows_fit c.args.script.now.inserted.sources c.args.first c.args.files c.in_ok-tables.tables c.in_ok-tables.ensures.ok

pub returns-clause-runs : goal.returns-clause-runs
returns-clause-runs g c = there_moved (with_changes (accepted_view c.args.script.now) c.args.first c.args.files) (same_over (accepted_view c.args.script.now) c.args.first c.args.files c.in_ok-tables.tables c.in_ok-tables.ensures.ok) c.batch_over.ensures.runs
