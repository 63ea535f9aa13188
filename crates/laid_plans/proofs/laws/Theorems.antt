-- The theorems of this crate, put together of its lemmas.
use Rattle.laid_plans.proofs.laws.Erased as erased
use Rattle.laid_plans.proofs.laws.Plans as plans
use Rattle.laid_plans.specs.Erased.{InferredPlansAnswer}
use Rattle.laid_plans.specs.Inferred.{InferredPlansAreSound}
use Rattle.plan_shape.proofs.laws.Theorems.{shaped_plans_have_shape}
use Rattle.sound_plans.proofs.laws.Theorems.{sound_plans_answer}

-- A plan of the right shape, types and exchanges, whose operators have rules, is sound with what is inferred of it, where what comes to its
-- sink suits the table.
pub inferred_plans_are_sound : InferredPlansAreSound
inferred_plans_are_sound = plans.inferred_plans_are_sound shaped_plans_have_shape

-- A plan that is laid of a tree answers what the tree does, where it is sound with what is inferred of it.
pub inferred_plans_answer : InferredPlansAnswer
inferred_plans_answer = erased.inferred_plans_answer sound_plans_answer
