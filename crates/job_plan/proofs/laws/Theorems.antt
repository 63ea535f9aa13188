-- The theorems of this crate, put together of its lemmas.
use Rattle.job_plan.proofs.Made.{are_planned}
use Rattle.job_plan.specs.Promises.{ScriptsArePlanned}
use Rattle.job_judgement.proofs.laws.Theorems.{accepted_is_bound}
use Rattle.job_plan.proofs.laws.PlannedInserts.{inserts_have_laid_plans}
use Rattle.planner.proofs.laws.Theorems.{planned_plans_are_ruled, topped_plans_are_laid_out}

-- The plan of a script is the one that is laid of its tree, with what stands before its sink and with what is inferred of it so; it is sound,
-- and its operators have rules.
pub scripts_are_planned : ScriptsArePlanned
scripts_are_planned = are_planned accepted_is_bound inserts_have_laid_plans planned_plans_are_ruled topped_plans_are_laid_out
