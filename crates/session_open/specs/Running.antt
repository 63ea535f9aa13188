-- For which networks the operators of a plan are made.
use Rattle.std.specs.Prelude.{◌≡◌, ℕ, ◌<◌, Bool, true, false, List, [], length, Option, Some, None}
use Rattle.ct_value.specs.declared.ty.ColTy.{ColTy}
use Rattle.op_rules.specs.History.{Arrival}
use Rattle.op_rules.specs.Rules.{Rule}
use Rattle.phys_plan.specs.declared.node.Node.{Node}
use Rattle.phys_plan.specs.declared.plan.Plan.{Plan}
use Rattle.stream_model.specs.Network.{Network, task}
use Rattle.plan_rules.specs.Plans.{scan_of}
use Rattle.phys_plan.specs.Reading.{numbered, first_input}
use Rattle.plan_rules.specs.Columns.{columns_at, AreColumns}
use Rattle.plan_rules.specs.Behaviours.{Behaviour, behaviour, Suits, TakesBy}
use Rattle.plan_rules.specs.Doings.{around_of, network, other_inputs}

-- the number of the second input; 0, which no node has, where there is none
abbrev pub second_input : List ℕ → ℕ
second_input inputs = first_input (other_inputs inputs)

-- what is known of a node: its modes suit its operator, it has ports unless it scans, and each takes what its edge carries, by the
-- operator's rule
pub record IsBuiltNode (plan : Plan) (v : ℕ) (node : Node) : Type 0 where
  pub suits : Suits node.op (around_of plan v node.inputs)
  pub scans : (source : ℕ) → scan_of node.op ≡ Some source → node.inputs ≡ []
  pub ports : scan_of node.op ≡ None → 0 < length node.inputs
  pub takes : scan_of node.op ≡ None → TakesBy (behaviour node.op (around_of plan v node.inputs)) (task (network plan) v)

-- the network of a plan, with the columns that each node sends, all of whose operators are built
pub record IsBuiltPlan (plan : Plan) (columns : List (List ColTy)) (g : Network) : Type 0 where
  pub network_is : g ≡ network plan
  pub columns_are : AreColumns columns (columns_at plan.sources plan.nodes)
  pub nodes : (v : ℕ) (node : Node) → numbered plan.nodes v ≡ Some node → IsBuiltNode plan v node

module _ {O : Type 0} (rule_is : O → Rule) (is_broken : O → Bool) (stands : O → List Arrival → Type 0) (takes_pieces : O → Bool) where
  -- an operator that runs by a rule and took nothing
  pub record IsNew (made : O) (rule : Rule) : Type 0 where
    pub rule_is_so : rule_is made ≡ rule
    pub whole : is_broken made ≡ false
    pub stands_so : stands made []

  -- it takes pieces, where its node keeps bundles
  abbrev pub TakesBundles : Option ℕ → O → Type 0
  TakesBundles None made = Unit {0}
  TakesBundles (Some size) made = takes_pieces made ≡ true

  -- one that runs by a node's rule, where the node has one, and takes pieces, where the node keeps bundles
  abbrev pub IsOperatorBy : Option Behaviour → Option ℕ → Option O → Type 0
  IsOperatorBy None bundle None = Unit {0}
  IsOperatorBy None bundle (Some made) = ⊥
  IsOperatorBy (Some b) bundle None = ⊥
  IsOperatorBy (Some b) bundle (Some made) = IsNew made b.rule × TakesBundles bundle made
