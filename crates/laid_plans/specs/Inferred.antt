-- A plan with what is inferred of it, and when that is sound.
use Rattle.std.specs.Prelude.{◌≡◌, ℕ, Bool, true, List, Some}
use Rattle.phys_plan.specs.declared.edge.Edge.{Edge}
use Rattle.phys_plan.specs.declared.node.Node.{Node}
use Rattle.phys_plan.specs.declared.plan.Plan.{Plan}
use Rattle.phys_plan.specs.declared.plan.Rule.TheVariants as rule
use Rattle.upsert_keys.specs.Keys.{keyed}
use Rattle.mode_infer.specs.Modes.{moded}
use Rattle.phys_plan.specs.Reading.{numbered, first_input}
use Rattle.plan_check.specs.Sound.{inferred_of, IsSound, Meets}
use Rattle.plan_rules.specs.Behaviours.{has_rule}
use Rattle.plan_rules.specs.Plans.{kinds_in}
use Rattle.plan_shape.specs.Shape.{op_in, suits_input}

-- what an operator asks of its first input, over these edges
abbrev pub suits_kinds : Plan → List Edge → Node → Bool
suits_kinds plan edges node = suits_input plan.sources node.op (op_in (numbered plan.nodes (first_input node.inputs))) (kinds_in (numbered edges (first_input node.inputs)))

-- its nodes say the keys that are inferred of them, and its edges carry the kinds, and tell updates in the way, that are inferred
abbrev pub with_inferred : Plan → Plan
with_inferred plan = record {
  sources = plan.sources;
  sink = plan.sink;
  nodes = keyed (inferred_of plan).keys plan.nodes;
  edges = moded (inferred_of plan).modes plan.edges;
  parallelism = plan.parallelism;
  mini_batch = plan.mini_batch;
}

-- the kinds that are inferred of an input suit its operator where those that were said before do
abbrev pub InferredKindsSuit : Plan → Type 0
InferredKindsSuit plan = (v : ℕ) (node : Node) → numbered plan.nodes v ≡ Some node → suits_kinds plan (with_inferred plan).edges node ≡ suits_kinds plan plan.edges node

-- such a plan is sound where the plan has the right shape, types and exchanges, and what comes to its sink suits the table; whatever keys,
-- kinds and updates were said in it before
abbrev pub InferredPlansAreSound : Type 0
InferredPlansAreSound = (plan : Plan) → ((v : ℕ) (node : Node) → numbered plan.nodes v ≡ Some node → has_rule node.op ≡ true) → InferredKindsSuit plan
    → Meets rule.Shape plan → Meets rule.Types plan → Meets rule.Exchanged plan → Meets rule.SinkKey plan → IsSound (with_inferred plan)
