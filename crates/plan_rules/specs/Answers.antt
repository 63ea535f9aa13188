-- What a plan answers.
use Rattle.std.specs.Prelude.{◌≡◌, ℕ, suc, true, List, [], ◌∷◌, length, Some}
use Rattle.ct_catalog.specs.Columns.{column_types}
use Rattle.ct_catalog.specs.declared.table.TableDef.{TableDef}
use Rattle.ct_change.specs.Changelog.{Rows}
use Rattle.phys_plan.specs.Reading.{numbered}
use Rattle.phys_plan.specs.declared.node.Node.{Node}
use Rattle.phys_plan.specs.declared.plan.Plan.{Plan}
use Rattle.rel_algebra.specs.Answer.{Table, answer}
use Rattle.rel_algebra.specs.Rel.{Rel}
use Rattle.stream_model.specs.Network.{IsAnswer}
use Rattle.plan_rules.specs.Behaviours.{has_rule}
use Rattle.plan_rules.specs.Doings.{network}
use Rattle.plan_rules.specs.Erased.{erased, erased_at}
use Rattle.plan_rules.specs.Pieces.{Top, plan_of_tree}
use Rattle.plan_rules.specs.Phases.{Bundles}
use Rattle.plan_rules.specs.Plans.{HasShape}
use Rattle.plan_rules.specs.Roles.{role, takes}

-- the tables with these rows, by their numbers from 0
abbrev pub tables_with : List TableDef → (ℕ → Rows) → List Table
tables_with [] rows = []
tables_with (source ∷ sources) rows = record { columns = column_types source; rows = rows 0 } ∷ tables_with sources (λ table. rows (suc table))

-- a plan of the right shape, whose nodes take their inputs, and scan or have rules
pub record HasRoles (plan : Plan) : Type 0 where
  pub shape : HasShape plan
  pub takes : (v : ℕ) (node : Node) → numbered plan.nodes v ≡ Some node → takes (role node.op) (length node.inputs) ≡ true
  pub rules : (v : ℕ) (node : Node) → numbered plan.nodes v ≡ Some node → has_rule node.op ≡ true

-- each of its nodes answers as the node's tree does, over whatever rows its tables have
abbrev pub PlansAnswerAsErased : Type 0
PlansAnswerAsErased = (plan : Plan) → HasRoles plan → (rows : ℕ → Rows) (v : ℕ) (result : Rows) → IsAnswer (network plan) rows v result
    → answer (tables_with plan.sources rows) (erased_at plan v) ≡ Some result

-- the batch answer of the plan's sink is the tree's, over whatever rows its tables have
abbrev pub Answers : Plan → Rel → Type 0
Answers plan rel = (rows : ℕ → Rows) (result : Rows) → IsAnswer (network plan) rows (network plan).count result → answer (tables_with plan.sources rows) rel ≡ Some result

-- the tree of the plan of a tree is that tree, whatever stands before the sink
abbrev pub TreesAreErased : Type 0
TreesAreErased = (sources : List TableDef) (sink : TableDef) (parallelism : ℕ) (b : Bundles) (top : Top) (rel : Rel) → erased (plan_of_tree sources sink parallelism b top rel) ≡ rel
