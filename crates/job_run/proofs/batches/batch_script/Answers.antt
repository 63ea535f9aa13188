use Rattle.std.proofs.Common.{ap, refl}
use Rattle.std.proofs.lemmas.Result.{err_from_is_err_and}
use Rattle.command_line.specs.Requests.{input_view}
use Rattle.job_batch.specs.Batch.{with_changes}
use Rattle.job_ending.proofs.laws.Runs.{runs_halted, runs_moved}
use Rattle.job_judgement.specs.Views.{accepted_view}
use Rattle.job_run.specs.Outcome.{after_judgement, over_input}
use Rattle.job_run.proofs.Loads.{judged_halt}
use Rattle.job_run.proofs.Printable.{printable_halt}
use Rattle.job_run.proofs.batches.batch_script.Goals as goal

pub returns-in_err-planned-clause-runs : goal.returns-in_err-planned-clause-runs
returns-in_err-planned-clause-runs g c =
    let p = err_from_is_err_and c.from_residual.result c.from_residual.ensures.1 in
    rw (p.1, p.2) (runs_halted _ _ _ _ _ _ (judged_halt _ _ (λ h plan. over_input h (input_view c.args.input.now) (accepted_view c.args.script.now).inserted.sources (with_changes (accepted_view c.args.script.now) c.args.first)) _ _ c.in_err-planned.ensures.halts))

pub returns-in_err-planned-clause-printable : goal.returns-in_err-planned-clause-printable
returns-in_err-planned-clause-printable g c =
    let p = err_from_is_err_and c.from_residual.result c.from_residual.ensures.1 in
    rw (p.1, p.2) (printable_halt _ _ c.in_err-planned.ensures.halts)

pub returns-clause-runs : goal.returns-clause-runs
returns-clause-runs g c =
    runs_moved _ _ _ _ _ _ _ _ _ _ refl
    (λ h is. ap (after_judgement (λ plan. over_input h (input_view c.args.input.now) (accepted_view c.args.script.now).inserted.sources (with_changes (accepted_view c.args.script.now) c.args.first))) c.in_ok-planned.ensures.ok) (λ rose. rose) c.answer_script.ensures.runs
