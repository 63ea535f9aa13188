-- Plans of which each node meets the rule Shape are of the shape that the composition theorem asks.
use Rattle.std.specs.Prelude.{◌≡◌, ℕ, ◌≤◌, max, true, length}
use Rattle.phys_plan.specs.declared.plan.Plan.{Plan}
use Rattle.plan_rules.specs.Plans.{HasShape}
use Rattle.plan_shape.specs.Shape.{has_shape}

-- each node meets the rule, and the plan what counts at node 1
abbrev pub MeetsShape : Plan → Type 0
MeetsShape plan = (v : ℕ) → 1 ≤ v → v ≤ max 1 (length plan.nodes) → has_shape plan v ≡ true

abbrev pub ShapedPlansHaveShape : Type 0
ShapedPlansHaveShape = (plan : Plan) → MeetsShape plan → HasShape plan
