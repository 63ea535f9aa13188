-- The theorems of this crate, put together of its lemmas.
use Rattle.plan_shape.proofs.Shaped.{has_the_shape}
use Rattle.plan_shape.specs.Shaped.{ShapedPlansHaveShape}

-- A plan whose nodes meet the rule Shape has the shape that the composition theorem asks.
pub shaped_plans_have_shape : ShapedPlansHaveShape
shaped_plans_have_shape = has_the_shape
