-- What a checked plan shows.
use Rattle.phys_plan.specs.declared.plan.Plan.{Plan}
use Rattle.plan_check.specs.declared.checked.CheckedPlan.{CheckedPlan}

abbrev pub plan_in : CheckedPlan → Plan
plan_in checked = checked.plan
