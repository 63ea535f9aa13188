use Rattle.std.proofs.Common.{rules, ◌≡◌, ap, sym, subst, ◌∙◌}
use Rattle.phys_plan.specs.declared.plan.Plan.{Plan}
use Rattle.plan_check.specs.Sound.{IsSound}
use Rattle.plan_rules.specs.Erased.{erased}
use Rattle.laid_plans.specs.Inferred.{with_inferred}
use Rattle.planner.specs.Planned.{Planned, Says, made, made_by, sink_top}
use Rattle.plan_laying.specs.Topped.{topped_plan}
use Rattle.planner.specs.Tops.{top_of}
use Rattle.planner.proofs.Made.{laid_so, made_is_sound}
use Rattle.planner.proofs.planning.plan.Goals as goal
use Rattle.laid_plans.proofs.laws.Theorems.{inferred_plans_are_sound}
use Rattle.plan_shape.proofs.laws.Theorems.{shaped_plans_have_shape}
use Rattle.laid_plans.proofs.laws.Erased.{laid_plans_are_erased}
use Rattle.laid_plans.proofs.laws.LaidPlans.{laid_plans_have_shape}

pub finished-requires-clause-sound : goal.finished-requires-clause-sound
finished-requires-clause-sound c =
    let laid = c.args.laid in
    let shown = ap (λ key. with_inferred (topped_plan (top_of key) laid)) c.in_ok-key.ensures.shown in
    subst (λ (p : Plan). IsSound p) (sym shown)
    (made_is_sound laid c.requires.0 c.requires.1 c.args.setting laid_plans_have_shape inferred_plans_are_sound shaped_plans_have_shape c.in_ok-key.ensures.accepted)

pub returns-clause-planned : goal.returns-clause-planned
returns-clause-planned c =
    let laid = c.args.laid in
    let plan = c.in_ok-finished.ensures ∙ ap (λ key. with_inferred (topped_plan (top_of key) laid)) c.in_ok-key.ensures.shown in
    ap (λ code. made_by laid code (sink_top laid c.args.setting)) c.in_ok-key.ensures.accepted ∙ ap Planned (sym plan)

pub returns-clause-erased : goal.returns-clause-erased
returns-clause-erased c = λ rel is.
    let laid = c.args.laid in
    ap erased (c.in_ok-finished.ensures ∙ ap (λ key. with_inferred (topped_plan (top_of key) laid)) c.in_ok-key.ensures.shown)
    ∙ laid_plans_are_erased (topped_plan (sink_top laid c.args.setting) laid) rel (laid_so laid rel is c.args.setting)

pub returns-in_err-test_size-clause-refused : goal.returns-in_err-test_size-clause-refused
returns-in_err-test_size-clause-refused c =
    let says : Says (made c.args.laid c.args.setting) c.in_err-test_size.field-0.0 = c.in_err-test_size.ensures c.args.setting in
    search rules
