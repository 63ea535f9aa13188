-- The rule Shape doesn't ask for the keys of nodes, nor, but at local groups, for the modes of edges.
use Rattle.std.specs.Prelude.{◌≡◌, ℕ, ◌==◌, ◌&&◌, ◌||◌, not, cond, nat_le, List, length, Option}
use Rattle.std.proofs.Common.{false, ◌∷◌, refl, ap, ◌∙◌, Some, None}
use Rattle.ct_catalog.specs.declared.table.TableDef.{TableDef}
use Rattle.ct_change.specs.declared.kind.KindSet.{KindSet}
use Rattle.phys_plan.specs.declared.node.KeyInfo.{KeyInfo}
use Rattle.phys_plan.specs.declared.node.Node.{Node}
use Rattle.phys_plan.specs.declared.node.Op.{Op}
use Rattle.phys_plan.specs.declared.node.Op.TheVariants as op
use Rattle.phys_plan.specs.declared.plan.Plan.{Plan}
use Rattle.mode_infer.specs.declared.modes.EdgeMode.{EdgeMode}
use Rattle.plan_rules.specs.Plans.{kinds_in}
use Rattle.phys_plan.specs.Reading.{numbered, first_input}
use Rattle.plan_shape.specs.Shape.{are_before, has_shape, is_consumed, is_fed, is_shaped, is_sink, is_up_to, is_whole, most_bundled, most_nodes, most_subtasks, op_in, suits_consumer, suits_input, suits_plan, takes}
use Rattle.plan_shape.specs.Tables.{are_tables}
use Rattle.plan_rules.specs.Phases.{sends_parts}
use Rattle.laid_plans.specs.Inferred.{suits_kinds}
use Rattle.laid_plans.proofs.laws.Given.{edges_many, given, nodes_many}
use Rattle.laid_plans.proofs.laws.Nodes.{consumer_read, node_read, used}

-- an operator that isn't a local group doesn't ask for the kinds of its input's edge
pub any_kinds : (sources : List TableDef) (o : Op) (below : Option Op) (kinds others : KindSet) → sends_parts o ≡ false → suits_input sources o below kinds ≡ suits_input sources o below others
any_kinds sources (op.LocalGroup keys aggs) below kinds others r = absurd (cc)
any_kinds sources _ below kinds others r = refl

module _ (keys : List KeyInfo) (modes : List EdgeMode) (plan : Plan) where
  -- the whole plan has the shape as before
  whole : is_whole (given keys modes plan) ≡ is_whole plan
  whole = λ i.
      ((is_up_to most_nodes (nodes_many keys modes plan i) && edges_many keys modes plan i == nodes_many keys modes plan i) && (nat_le plan.mini_batch most_bundled && is_up_to most_subtasks plan.parallelism))
      && are_tables (plan.sink ∷ plan.sources)

  -- what an operator asks of the tables and of the sizes
  plan_suits : (o : Op) → suits_plan (given keys modes plan) o ≡ suits_plan plan o
  plan_suits (op.Scan source) = refl
  plan_suits (op.Materialize key) = refl
  plan_suits (op.BatchGroup of_keys aggs) = refl
  plan_suits (op.LocalGroup of_keys aggs) = refl
  plan_suits _ = refl

  -- what feeds it
  fed : (node : Node) → suits_kinds plan (given keys modes plan).edges node ≡ suits_kinds plan plan.edges node → is_fed (given keys modes plan) node ≡ is_fed plan node
  fed node r =
      let input = first_input node.inputs in
      ap (λ b. takes node.op (length node.inputs) && b)
      (ap (λ below. suits_input plan.sources node.op below (kinds_in (numbered (given keys modes plan).edges input))) (node_read keys op_in (λ n k. refl) plan.nodes input) ∙ r)

  -- what it feeds
  consumed : (v : ℕ) (o : Op) → is_consumed (given keys modes plan) v o ≡ is_consumed plan v o
  consumed v o = λ i.
      cond (v == nodes_many keys modes plan i) (is_sink (Some o))
      (not (is_sink (Some o)) && (used keys v plan.nodes i == 1 && suits_consumer plan.sources o (consumer_read keys v plan.nodes i)))

  -- one node, of which its keys are left out
  shaped : (v : ℕ) (node : Option Node) → ((n : Node) → node ≡ Some n → suits_kinds plan (given keys modes plan).edges n ≡ suits_kinds plan plan.edges n) → is_shaped (given keys modes plan) v node ≡ is_shaped plan v node
  shaped v None rules = refl
  shaped v (Some node) rules = λ i. are_before v node.inputs && (plan_suits node.op i && (fed node (rules node refl) i && consumed v node.op i))

  -- Shape at a number
  pub shape_stays : ((v : ℕ) (node : Node) → numbered plan.nodes v ≡ Some node → suits_kinds plan (given keys modes plan).edges node ≡ suits_kinds plan plan.edges node) → (v : ℕ) → has_shape (given keys modes plan) v ≡ has_shape plan v
  shape_stays rules v =
      let node = node_read keys (is_shaped (given keys modes plan) v) (λ n k. refl) plan.nodes v ∙ shaped v (numbered plan.nodes v) (rules v) in
      λ i. (not (v == 1) || whole i) && node i
