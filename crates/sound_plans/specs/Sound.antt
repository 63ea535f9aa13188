-- Sound plans whose operators have rules, and what is known of them.
use Rattle.std.specs.Prelude.{◌≡◌, ℕ, ◌+◌, ◌<◌, ◌≤◌, true, List, length, None, Some}
use Rattle.ct_value.specs.declared.ty.ColTy.{ColTy}
use Rattle.ct_change.specs.Changelog.{Rows}
use Rattle.rel_algebra.specs.Answer.{answer}
use Rattle.phys_plan.specs.declared.node.Node.{Node}
use Rattle.phys_plan.specs.declared.plan.Plan.{Plan}
use Rattle.stream_model.specs.Machine.{opened}
use Rattle.stream_model.specs.Network.{task, IsAnswer, IsWired, MeetsFacts}
use Rattle.stream_model.specs.Runs.{Item, after, AreTyped}
use Rattle.stream_model.specs.Theorem.{PrintsAnswer}
use Rattle.plan_rules.specs.Plans.{scan_of}
use Rattle.phys_plan.specs.Reading.{numbered}
use Rattle.ct_catalog.specs.Columns.{table_mode}
use Rattle.plan_rules.specs.Columns.{node_columns, columns_at, AreColumns}
use Rattle.plan_rules.specs.Answers.{tables_with}
use Rattle.plan_rules.specs.Behaviours.{behaviour, has_rule, Suits, TakesBy}
use Rattle.plan_rules.specs.Doings.{around_of, network}
use Rattle.plan_rules.specs.Erased.{erased_at}
use Rattle.plan_check.specs.Sound.{IsSound, inferred_of}

pub record IsRuled (plan : Plan) : Type 0 where
  pub sound : IsSound plan
  pub rules : (v : ℕ) (node : Node) → numbered plan.nodes v ≡ Some node → has_rule node.op ≡ true

-- its network is wired, each node has columns and meets its facts, and each port takes what its edge carries
abbrev pub SoundPlansAreWired : Type 0
SoundPlansAreWired = (plan : Plan) → IsRuled plan → IsWired (network plan)

abbrev pub SoundPlansMeetFacts : Type 0
SoundPlansMeetFacts = (plan : Plan) → IsRuled plan → MeetsFacts (network plan)

abbrev pub SoundNodesHaveColumns : Type 0
SoundNodesHaveColumns = (plan : Plan) → IsRuled plan → (v : ℕ) → 0 < v → v ≤ length plan.nodes → (columns : List ColTy) × (node_columns plan.sources plan.nodes v ≡ Some columns)

-- what is inferred of it tells of each node, by its number, the columns that its network's node sends
abbrev pub SoundPlansKeepColumns : Type 0
SoundPlansKeepColumns = (plan : Plan) → IsRuled plan → AreColumns (inferred_of plan).columns (columns_at plan.sources plan.nodes) × (length (inferred_of plan).columns ≡ length plan.nodes + 1)

abbrev pub SoundPortsTake : Type 0
SoundPortsTake = (plan : Plan) → IsRuled plan → (v : ℕ) (node : Node) → numbered plan.nodes v ≡ Some node → scan_of node.op ≡ None
    → TakesBy (behaviour node.op (around_of plan v node.inputs)) (task (network plan) v)

-- what its operators ask of what is around them holds
abbrev pub SoundPlansSuit : Type 0
SoundPlansSuit = (plan : Plan) → IsRuled plan → (v : ℕ) (node : Node) → numbered plan.nodes v ≡ Some node → Suits node.op (around_of plan v node.inputs)

-- each node answers as its tree does, over whatever rows the tables have
abbrev pub SoundPlansAnswer : Type 0
SoundPlansAnswer = (plan : Plan) → IsRuled plan → (rows : ℕ → Rows) (v : ℕ) (result : Rows) → IsAnswer (network plan) rows v result → answer (tables_with plan.sources rows) (erased_at plan v) ≡ Some result

-- so of what a run printed each prefix is a changelog as it is written in the sink's mode, and at a quiet moment it folds to the sink's batch answer
abbrev pub SoundPlansPrint : Type 0
SoundPlansPrint = (plan : Plan) → IsRuled plan → (limit : ℕ) (items : List Item) → AreTyped (network plan) items
    → PrintsAnswer (network plan) (table_mode plan.sink) (after (network plan) limit (opened (network plan)) items)
