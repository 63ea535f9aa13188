-- What a refusal of a plan says, and what its check knows of the plan.
use Rattle.std.specs.Prelude.{◌≡◌}
use Rattle.phys_plan.specs.declared.plan.Plan.{Plan}
use Rattle.phys_plan.specs.declared.plan.Rule.{Rule}
use Rattle.phys_plan.specs.declared.plan.Rule.TheVariants as rule
use Rattle.plan_check.specs.Sound.{IsFirstBroken, inferred_of}
use Rattle.plan_check.specs.Types.{all_types}
use Rattle.plan_check.specs.declared.known.Known.{Known}
use Rattle.plan_check.specs.declared.check.PlanFault.{PlanFault}
use Rattle.plan_check.specs.declared.check.PlanFault.TheVariants.{Broken, Memory}

-- the first rule that a node breaks, and the first node that breaks it
abbrev pub IsFault : Plan → PlanFault → Type 0
IsFault plan (Broken r v) = IsFirstBroken plan r v
IsFault plan Memory = Unit {0}

-- what is known of a plan suffices for a rule
abbrev pub Suffices : Rule → Plan → Known → Type 0
Suffices rule.Shape plan known = Unit {0}
Suffices rule.Types plan known = known.types ≡ all_types plan.sources plan.nodes
Suffices _ plan known = known.inferred ≡ inferred_of plan
