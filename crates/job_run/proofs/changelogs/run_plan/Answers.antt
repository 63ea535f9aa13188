use Rattle.std.proofs.Common.{ap, refl, sym, ◌∙◌}
use Rattle.std.proofs.lemmas.Result.{err_from_is_err_and}
use Rattle.command_line.specs.Requests.{input_view}
use Rattle.phys_plan.specs.declared.plan.Plan.{Plan}
use Rattle.plan_check.specs.Checked.{plan_in}
use Rattle.job_ending.proofs.laws.Runs.{runs_halted, runs_moved, rose_earlier}
use Rattle.job_run.specs.Outcome.{over_input, run_files}
use Rattle.job_run.proofs.changelogs.run_plan.Goals as goal

pub returns-in_err-files-clause-runs : goal.returns-in_err-files-clause-runs
returns-in_err-files-clause-runs g c =
    let p = err_from_is_err_and c.from_residual.result c.from_residual.ensures.1 in
    rw (p.1, p.2) (runs_moved _ _ _ _ _ _ _ _ _ _ refl
    (λ h is. ap (λ (plan : Plan). over_input h (input_view c.args.input.now) plan.sources (run_files h c.args.order.now (plan_in c.args.checked.now))) (sym c.plan.ensures.same)) (λ rose. rose)
    (runs_halted _ _ _ _ _ _ (c.in_err-files.ensures.halts (λ h. run_files h c.args.order.now (plan_in c.args.checked.now)))))

pub returns-clause-runs : goal.returns-clause-runs
returns-clause-runs g c =
    runs_moved _ _ _ _ _ _ _ _ _ _ c.in_ok-files.ensures.same
    (λ h is.
    ap (λ (plan : Plan). over_input h (input_view c.args.input.now) plan.sources (run_files h c.args.order.now (plan_in c.args.checked.now))) (sym c.plan.ensures.same)
    ∙ c.in_ok-files.ensures.ok h (sym c.in_ok-files.ensures.same ∙ is) (run_files h c.args.order.now (plan_in c.args.checked.now)))
    (rose_earlier _ _ _ c.in_ok-files.ensures.later) c.run_files.ensures.runs
