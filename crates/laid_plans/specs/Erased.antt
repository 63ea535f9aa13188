-- The algebra of the plan that is laid of a tree is the tree.
use Rattle.std.specs.Prelude.{◌≡◌}
use Rattle.rel_algebra.specs.Rel.{Rel}
use Rattle.phys_plan.specs.declared.plan.Plan.{Plan}
use Rattle.plan_rules.specs.Answers.{Answers}
use Rattle.plan_rules.specs.Erased.{erased}
use Rattle.sound_plans.specs.Sound.{IsRuled}
use Rattle.laid_plans.specs.Inferred.{with_inferred}
use Rattle.laid_plans.specs.Shapes.{IsLaidOut}

-- whatever is inferred of it
abbrev pub LaidPlansAreErased : Type 0
LaidPlansAreErased = (plan : Plan) (rel : Rel) → IsLaidOut plan rel → erased (with_inferred plan) ≡ rel

-- so with what is inferred of it, where it is sound, it answers what the tree does
abbrev pub InferredPlansAnswer : Type 0
InferredPlansAnswer = (plan : Plan) (rel : Rel) → IsLaidOut plan rel → IsRuled (with_inferred plan) → Answers (with_inferred plan) rel
