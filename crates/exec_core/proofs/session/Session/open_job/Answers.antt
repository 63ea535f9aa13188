use Rattle.std.proofs.Common.{◌≡◌, ◌≤◌, [], sym, ap, subst, ◌∙◌}
use Rattle.std.proofs.lemmas.Result.{err_from_is_err_and}
use Rattle.phys_plan.specs.declared.plan.Plan.{Plan}
use Rattle.phys_plan.specs.Reading.{numbered}
use Rattle.plan_check.specs.Checked.{plan_in}
use Rattle.plan_rules.specs.Columns.{columns_at}
use Rattle.plan_rules.specs.Doings.{doing_in, network}
use Rattle.stream_model.specs.Machine.{opened}
use Rattle.session_open.specs.Opening.{IsTooMany}
use Rattle.exec_core.specs.Stands.{Job, RunsBy}
use Rattle.exec_core.proofs.laws.Theorems.{kept_plans_open}
use Rattle.exec_core.proofs.session.Session.open_job.Goals as goal

pub open_job-requires-clause-may : goal.open_job-requires-clause-may
open_job-requires-clause-may c = (kept_plans_open (plan_in c.args.checked.now) c.plan-plan.result.now c.requires c.plan-plan.ensures.same c.inferred.result.now c.inferred.ensures).may

pub open_job-requires-clause-ready : goal.open_job-requires-clause-ready
open_job-requires-clause-ready c =
    let plan = c.plan-plan.result.now in (
      columns_at plan.sources plan.nodes,
      λ v. doing_in plan v (numbered plan.nodes v),
      (kept_plans_open (plan_in c.args.checked.now) plan c.requires c.plan-plan.ensures.same c.inferred.result.now c.inferred.ensures).openable,
    )

pub returns-in_err-job-clause-err : goal.returns-in_err-job-clause-err
returns-in_err-job-clause-err c = let p = err_from_is_err_and c.from_residual.result c.from_residual.ensures.1 in rw (p.1, p.2) (
    let plan = c.plan-plan.result.now in
    let opening = (kept_plans_open (plan_in c.args.checked.now) plan c.requires c.plan-plan.ensures.same c.inferred.result.now c.inferred.ensures).openable in
    subst (λ (q : Plan). IsTooMany c.args.sent_limit (opened (network q)).sends c.in_err-job.field-0.0) c.plan-plan.ensures.same
    (c.in_err-job.ensures.err (columns_at plan.sources plan.nodes) (λ v. doing_in plan v (numbered plan.nodes v)) opening))

pub returns-in-Ok-clause-ok : goal.returns-in-Ok-clause-ok
returns-in-Ok-clause-ok c =
    let plan = c.plan-plan.result.now in
    let opening = (kept_plans_open (plan_in c.args.checked.now) plan c.requires c.plan-plan.ensures.same c.inferred.result.now c.inferred.ensures).openable in
    let opens = c.in_ok-job.ensures.ok (columns_at plan.sources plan.nodes) (λ v. doing_in plan v (numbered plan.nodes v)) opening in
    record {
      ruled = c.requires;
      stands_for = subst (λ (job : Job). RunsBy job (plan_in c.args.checked.now) c.args.sent_limit [] []) (sym c.in-Ok.ensures.ok) (subst (λ (q : Plan). RunsBy c.in_ok-job.job q c.args.sent_limit [] []) c.plan-plan.ensures.same opens);
    }

pub returns-in-Ok-clause-within : goal.returns-in-Ok-clause-within
returns-in-Ok-clause-within c =
    let plan = c.plan-plan.result.now in
    let opening = (kept_plans_open (plan_in c.args.checked.now) plan c.requires c.plan-plan.ensures.same c.inferred.result.now c.inferred.ensures).openable in
    subst (λ (q : Plan). (opened (network q)).sends ≤ c.args.sent_limit) c.plan-plan.ensures.same
    (c.in_ok-job.ensures.ok (columns_at plan.sources plan.nodes) (λ v. doing_in plan v (numbered plan.nodes v)) opening).keeps.carries.within
