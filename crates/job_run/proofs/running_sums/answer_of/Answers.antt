use Rattle.std.proofs.Common.{◌∙◌, ap, subst, sym}
use Rattle.ct_io.specs.InMemory.{GrowingState}
use Rattle.job_text.specs.Lines.{records_of}
use Rattle.job_ending.specs.Runs.{IsBefore}
use Rattle.job_judgement.specs.Views.{accepted_view}
use Rattle.job_batch.specs.Batch.{over_tables, with_rows}
use Rattle.job_run.specs.Outcome.{behind}
use Rattle.job_run.proofs.KeptRuns.{if_halted, if_well}
use Rattle.job_run.proofs.Summed.{rows_fit, sums_over_rows, there_kept}
use Rattle.job_run.proofs.running_sums.answer_of.Goals as goal

pub batch_over-ran-requires-clause-fit : goal.batch_over-ran-requires-clause-fit
batch_over-ran-requires-clause-fit c =
    let r = c.requires.stands in
    let sources = c.args.script.now.inserted.sources in
    let told = c.in-Ok.ensures sources (records_of r.0) r.1 in
    rows_fit sources r.0 told.0 c.in-Ok.tables told.1 told.2

pub returns-clause-ok : goal.returns-clause-ok
returns-clause-ok c = if_well c.kept_by.result c.kept_by.ensures.ok (λ sums holds. λ bytes stands next.
    let script = accepted_view c.args.script.now in
    let told = c.in-Ok.ensures script.inserted.sources (records_of bytes) stands in
    ap (behind next) (sums_over_rows script c.requires.accepted (records_of bytes) told.0 c.in-Ok.tables told.1 told.2)
    ∙ holds (over_tables script (with_rows script.inserted.sources c.in-Ok.tables)) (there_kept _ _ _ _ _ (ap (λ (k : GrowingState). k.bytes) c.new-kept.ensures) c.batch_over-ran.ensures.runs) next)

pub returns-clause-halts : goal.returns-clause-halts
returns-clause-halts c = if_halted c.kept_by.result c.kept_by.ensures.halts (λ halt holds. λ bytes stands next.
    let script = accepted_view c.args.script.now in
    let told = c.in-Ok.ensures script.inserted.sources (records_of bytes) stands in
    subst (IsBefore halt) (sym (ap (behind next) (sums_over_rows script c.requires.accepted (records_of bytes) told.0 c.in-Ok.tables told.1 told.2)))
    (holds (over_tables script (with_rows script.inserted.sources c.in-Ok.tables)) (there_kept _ _ _ _ _ (ap (λ (k : GrowingState). k.bytes) c.new-kept.ensures) c.batch_over-ran.ensures.runs) next))
