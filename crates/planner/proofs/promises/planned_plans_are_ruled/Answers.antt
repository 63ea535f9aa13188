use Rattle.planner.proofs.Made.{planned_is_ruled}
use Rattle.planner.proofs.promises.planned_plans_are_ruled.Goals as goal
use Rattle.laid_plans.proofs.laws.Theorems.{inferred_plans_are_sound}
use Rattle.plan_shape.proofs.laws.Theorems.{shaped_plans_have_shape}
use Rattle.laid_plans.proofs.laws.LaidPlans.{laid_plans_have_shape}

pub returns : goal.returns
returns c = planned_is_ruled laid_plans_have_shape inferred_plans_are_sound shaped_plans_have_shape
