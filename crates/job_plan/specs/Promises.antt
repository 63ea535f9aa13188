-- What is known of the plan of a script.
use Rattle.std.specs.Prelude.{◌≡◌, Ok}
use Rattle.phys_plan.specs.declared.plan.Plan.{Plan}
use Rattle.sound_plans.specs.Sound.{IsRuled}
use Rattle.laid_plans.specs.Inferred.{with_inferred}
use Rattle.laid_plans.specs.Shapes.{IsLaidOut}
use Rattle.planner.specs.Planned.{IsLaidPlan}
use Rattle.job_judgement.specs.Judged.{IsJudged}
use Rattle.job_judgement.specs.Judgement.{Accepted}
use Rattle.job_plan.specs.Planned.{laid, planned, topped}

-- it is the plan that is laid of the tree to which the script's query is bound, with what stands before its sink and with what is inferred of
-- it so; that is sound, and its operators have rules
pub record IsScriptPlan (script : Accepted) (plan : Plan) : Type 0 where
  pub laid_well : IsLaidPlan (laid script) script.inserted.query.rel
  pub laid_out : IsLaidOut (topped script) script.inserted.query.rel
  pub is : plan ≡ with_inferred (topped script)
  pub ruled : IsRuled plan

abbrev pub ScriptsArePlanned : Type 0
ScriptsArePlanned = (script : Accepted) → IsJudged script → (plan : Plan) → planned script ≡ Ok plan → IsScriptPlan script plan
