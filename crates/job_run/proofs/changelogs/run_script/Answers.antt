use Rattle.std.proofs.Common.{ap, refl}
use Rattle.std.proofs.lemmas.Result.{err_from_is_err_and}
use Rattle.job_ending.proofs.laws.Runs.{runs_halted, runs_moved}
use Rattle.command_line.specs.Requests.{input_view}
use Rattle.job_run.specs.Outcome.{after_judgement, run_plan}
use Rattle.job_run.proofs.Loads.{judged_halt}
use Rattle.job_run.proofs.Printable.{printable_halt}
use Rattle.job_run.proofs.changelogs.run_script.Goals as goal

pub returns-in_err-checked-clause-runs : goal.returns-in_err-checked-clause-runs
returns-in_err-checked-clause-runs g c =
    let p = err_from_is_err_and c.from_residual.result c.from_residual.ensures.1 in
    rw (p.1, p.2) (runs_halted _ _ _ _ _ _ (judged_halt _ _ (λ h. run_plan h (input_view c.args.input.now) c.args.order.now) _ _ c.in_err-checked.ensures.halts))

pub returns-in_err-checked-clause-printable : goal.returns-in_err-checked-clause-printable
returns-in_err-checked-clause-printable g c =
    let p = err_from_is_err_and c.from_residual.result c.from_residual.ensures.1 in
    rw (p.1, p.2) (printable_halt _ _ c.in_err-checked.ensures.halts)

pub run_plan-requires : goal.run_plan-requires
run_plan-requires g c = record { ruled = c.in_ok-checked.ensures.ruled }

pub returns-clause-runs : goal.returns-clause-runs
returns-clause-runs g c =
    runs_moved _ _ _ _ _ _ _ _ _ _ refl
    (λ h is. ap (after_judgement (run_plan h (input_view c.args.input.now) c.args.order.now)) c.in_ok-checked.ensures.ok)
    (λ rose. rose) c.run_plan.ensures.runs
