use Rattle.std.proofs.Common.{◌≡◌, ap, subst, IfOk, IfErr}
use Rattle.ct_catalog.specs.declared.settings.Materialize.{Materialize}
use Rattle.ct_catalog.specs.declared.settings.Settings.{Settings}
use Rattle.planner.specs.Planned as p
use Rattle.job_judgement.specs.Views.{accepted_view}
use Rattle.job_plan.specs.Planned.{laid}
use Rattle.plan_check.specs.Checked.{plan_in}
use Rattle.job_plan.proofs.Made.{answers, faults, laid_well, ruled}
use Rattle.job_plan.proofs.planning.made.Goals as goal
use Rattle.job_judgement.proofs.laws.Theorems.{accepted_is_bound}
use Rattle.job_plan.proofs.laws.PlannedInserts.{inserts_have_laid_plans}
use Rattle.planner.proofs.laws.Theorems.{planned_plans_are_ruled}

pub plan-requires : goal.plan-requires
plan-requires c =
    let script = accepted_view c.args.script.now in
    (script.inserted.query.rel, laid_well script (accepted_is_bound script c.requires.judged) inserts_have_laid_plans c.in_ok-laid.laid c.in_ok-laid.ensures)

pub returns-clause-planned : goal.returns-clause-planned
returns-clause-planned c =
    let script = accepted_view c.args.script.now in
    let same = ap (λ (s : Settings). s.materialize) c.settings.ensures in
    subst (λ (m : Materialize). IfOk c.plan.result (λ checked. p.made (laid script) m ≡ p.Planned (plan_in checked))) same
    (answers script c.in_ok-laid.laid c.in_ok-laid.ensures c.settings.result.now.materialize c.plan.result c.plan.ensures.planned)

pub returns-clause-ruled : goal.returns-clause-ruled
returns-clause-ruled c =
    let script = accepted_view c.args.script.now in
    ruled planned_plans_are_ruled script c.in_ok-laid.laid (laid_well script (accepted_is_bound script c.requires.judged) inserts_have_laid_plans c.in_ok-laid.laid c.in_ok-laid.ensures)
    c.settings.result.now.materialize c.plan.result c.plan.ensures.planned

pub returns-clause-fault : goal.returns-clause-fault
returns-clause-fault c =
    let script = accepted_view c.args.script.now in
    let same = ap (λ (s : Settings). s.materialize) c.settings.ensures in
    subst (λ (m : Materialize). IfErr c.plan.result (λ fault. p.Says (p.made (laid script) m) fault)) same
    (faults script c.in_ok-laid.laid c.in_ok-laid.ensures c.settings.result.now.materialize c.plan.result c.plan.ensures.refused)
