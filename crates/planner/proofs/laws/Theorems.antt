-- The theorems of this crate, put together of its lemmas.
use Rattle.planner.proofs.Made.{laid_so, planned_is_ruled}
use Rattle.planner.specs.Planned.{PlannedPlansAreRuled, ToppedPlansAreLaidOut}
use Rattle.laid_plans.proofs.laws.Theorems.{inferred_plans_are_sound}
use Rattle.plan_shape.proofs.laws.Theorems.{shaped_plans_have_shape}
use Rattle.laid_plans.proofs.laws.LaidPlans.{laid_plans_have_shape}

-- A plan of a tree, with what stands before its sink, is laid out.
pub topped_plans_are_laid_out : ToppedPlansAreLaidOut
topped_plans_are_laid_out = λ laid rel setting is. laid_so laid rel is setting

-- What is planned of a plan as it is laid is sound, and its operators have rules.
pub planned_plans_are_ruled : PlannedPlansAreRuled
planned_plans_are_ruled = planned_is_ruled laid_plans_have_shape inferred_plans_are_sound shaped_plans_have_shape
