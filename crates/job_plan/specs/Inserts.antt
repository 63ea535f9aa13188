-- The plan that is laid of a script's INSERT.
use Rattle.std.specs.Prelude.{◌≡◌, ℕ, ◌≤◌, ◌<◌, List, Ok}
use Rattle.sql_syntax.specs.Tree.{Query, Text}
use Rattle.ct_catalog.specs.declared.settings.Settings.{Settings}
use Rattle.binding.specs.Inserts.{Inserted, insert_bound}
use Rattle.judge.specs.Judgement.{Asked, asked_of}
use Rattle.phys_plan.specs.declared.plan.Plan.{Plan}
use Rattle.plan_rules.specs.Pieces.{bare}
use Rattle.laid_plans.specs.Shapes.{IsLaidWith}
use Rattle.planner.specs.Planned.{IsLaidPlan}
use Rattle.job_plan.specs.Planned.{mini_batch_of}

-- a text asks for some tables, an INSERT over them is bound, and this is the plan that is laid of its query over its sources into its
-- table, in as many subtasks as the text sets and in its mini-batches, with groups in as many phases
pub record IsPlanOfInsert (text : List ℕ) (name : Text) (query : Query) (bound : Inserted) (plan : Plan) : Type 0 where
  pub asked : Asked
  pub is_asked : asked_of text ≡ Ok asked
  pub is_bound : insert_bound asked.catalogue.tables name query ≡ Ok bound
  pub laid_out : IsLaidWith asked.catalogue.settings.two_phase bare plan bound.query.rel
  pub sources : plan.sources ≡ bound.sources
  pub sink : plan.sink ≡ bound.sink
  pub parallelism : plan.parallelism ≡ asked.catalogue.settings.parallelism
  pub mini_batch : plan.mini_batch ≡ mini_batch_of asked.catalogue.settings

-- it meets all that the planner asks of a plan as it is laid
abbrev pub InsertsHaveLaidPlans : Type 0
InsertsHaveLaidPlans = (text : List ℕ) (name : Text) (query : Query) (bound : Inserted) (plan : Plan) → IsPlanOfInsert text name query bound plan → IsLaidPlan plan bound.query.rel

-- there are one subtask to sixteen, and at most a million changes in a bundle
abbrev pub AreFew : Settings → Type 0
AreFew settings = (0 < settings.parallelism) × (settings.parallelism ≤ 16) × (settings.batch_size ≤ 1000000)

-- so a script sets them
abbrev pub SettingsAreFew : Type 0
SettingsAreFew = (text : List ℕ) (asked : Asked) → asked_of text ≡ Ok asked → AreFew asked.catalogue.settings
