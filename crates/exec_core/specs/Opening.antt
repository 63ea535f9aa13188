-- That a job of a sound plan can be opened.
use Rattle.std.specs.Prelude.{◌≡◌, ◌+◌, List, length}
use Rattle.ct_value.specs.declared.ty.ColTy.{ColTy}
use Rattle.phys_plan.specs.declared.plan.Plan.{Plan}
use Rattle.phys_plan.specs.Reading.{numbered}
use Rattle.plan_rules.specs.Columns.{columns_at, AreColumns}
use Rattle.plan_rules.specs.Doings.{doing_in}
use Rattle.session_open.specs.Opening.{IsOpenable, MayOpen}
use Rattle.session_open.specs.Running.{IsBuiltPlan}
use Rattle.sound_plans.specs.Sound.{IsRuled}

-- it may be opened, as its own network
pub record CanOpen (plan : Plan) (columns : List (List ColTy)) : Type 0 where
  pub may : MayOpen plan columns
  pub openable : IsOpenable IsBuiltPlan plan columns (columns_at plan.sources plan.nodes) (λ v. doing_in plan v (numbered plan.nodes v))

-- so may every sound plan whose operators have rules, with the columns that its nodes send
abbrev pub PlansOpen : Type 0
PlansOpen = (plan : Plan) (columns : List (List ColTy)) → IsRuled plan → AreColumns columns (columns_at plan.sources plan.nodes) → length columns ≡ length plan.nodes + 1 → CanOpen plan columns
