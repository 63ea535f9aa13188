use Rattle.std.proofs.Common.{sym, ap, ◌∙◌, subst}
use Rattle.phys_plan.specs.declared.plan.Plan.{Plan}
use Rattle.plan_check.specs.Sound.{IsSound, inferred_of}
use Rattle.laid_plans.proofs.laws.Inferences.{inferred_same}
use Rattle.planner.proofs.planning.checked.Goals as goal

pub new-requires-clause-sound : goal.new-requires-clause-sound
new-requires-clause-sound c = subst (λ (p : Plan). IsSound p) (sym c.in_ok-plan.ensures) c.requires.sound

pub new-requires-clause-known : goal.new-requires-clause-known
new-requires-clause-known c =
    let laid = c.args.laid in
    c.requires.known ∙ sym (inferred_same (inferred_of laid).keys (inferred_of laid).modes laid) ∙ ap inferred_of (sym c.in_ok-plan.ensures)
