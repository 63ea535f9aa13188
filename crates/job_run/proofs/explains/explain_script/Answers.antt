use Rattle.std.proofs.Common.{ap, sym, ◌∙◌, refl}
use Rattle.std.proofs.lemmas.Result.{err_from_is_err_and}
use Rattle.job_ending.proofs.laws.Runs.{halted_there, there_moved}
use Rattle.job_plan.specs.Shown.{shown}
use Rattle.job_judgement.specs.Views.{accepted_view}
use Rattle.job_run.specs.Outcome.{after_judgement, explain_script}
use Rattle.job_run.proofs.Loads.{judged_before}
use Rattle.job_run.proofs.Printable.{done_printable, printable_halt}
use Rattle.job_run.proofs.explains.explain_script.Goals as goal

pub returns-in_err-checked-clause-runs : goal.returns-in_err-checked-clause-runs
returns-in_err-checked-clause-runs g c =
    let p = err_from_is_err_and c.from_residual.result c.from_residual.ensures.1 in
    rw (p.1, p.2) (halted_there _ _ _ _ (judged_before shown _ _ c.in_err-checked.ensures.halts))

pub returns-in_err-checked-clause-printable : goal.returns-in_err-checked-clause-printable
returns-in_err-checked-clause-printable g c =
    let p = err_from_is_err_and c.from_residual.result c.from_residual.ensures.1 in
    rw (p.1, p.2) (printable_halt _ _ c.in_err-checked.ensures.halts)

pub returns-clause-runs : goal.returns-clause-runs
returns-clause-runs g c =
    there_moved (explain_script (accepted_view c.args.script.now))
    (ap (after_judgement shown) c.in_ok-checked.ensures.ok ∙ ap shown (sym c.plan.ensures.same)) c.explain.ensures

pub returns-clause-printable : goal.returns-clause-printable
returns-clause-printable g c = done_printable (shown c.plan.result.now) _ _ refl c.explain.ensures.cause
