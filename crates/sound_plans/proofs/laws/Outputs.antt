-- What the nodes of a plan send, by their numbers, and the edges of the network.
use Rattle.std.specs.Prelude.{◌≡◌, ℕ, ◌==◌, Bool, cond, List, length, map, Option, unwrap_or}
use Rattle.std.proofs.Common.{suc, true, false, [], ◌∷◌, refl, ap, ◌∙◌, Some, None}
use Rattle.ct_value.specs.declared.ty.ColTy.{ColTy}
use Rattle.ct_field.specs.Typed.{row_fits}
use Rattle.op_rules.specs.Edges.{Edge, meaning_of}
use Rattle.phys_plan.specs.declared.edge.Edge.{Edge as PlanEdge}
use Rattle.phys_plan.specs.declared.edge.Exchange.TheVariants.{Forward}
use Rattle.ct_change.specs.declared.update.Update.TheVariants.{Both}
use Rattle.phys_plan.specs.declared.node.KeyInfo.{KeyInfo}
use Rattle.phys_plan.specs.declared.node.Node.{Node}
use Rattle.phys_plan.specs.declared.plan.Plan.{Plan}
use Rattle.phys_plan.specs.Reading.{at, wires, numbered, no_keys}
use Rattle.phys_plan.specs.Columns.{columns_in}
use Rattle.mode_infer.specs.Kinds.{flows, no_flow}
use Rattle.mode_infer.specs.UpdateKeys.{update_keys}
use Rattle.phase_rules.specs.LocalGrouping.{LocalGrouping}
use Rattle.plan_rules.specs.Around.{no_kinds}
use Rattle.plan_rules.specs.Phases.{fits_sent, meaning_sent}
use Rattle.plan_rules.specs.Plans.{exchange_in, kinds_in, keys_in, local_in, meaning_in, change_fits, route_by, update_in}
use Rattle.ct_catalog.specs.Columns.{table_mode}
use Rattle.plan_rules.specs.Columns.{columns_at}
use Rattle.plan_rules.specs.Doings.{around_of, network, side_of}
use Rattle.plan_check.specs.Sound.{sent_columns}
use Rattle.plan_check.specs.Types.{all_types}
use Rattle.sound_plans.specs.Outputs.{Output, around_by, around_sent, edge_of, partial_edge, printed_edge, side_of as output_side}

abbrev pub edge_or : Option PlanEdge → PlanEdge
edge_or None = record { exchange = Forward; kinds = no_kinds; update = Both }
edge_or (Some edge) = edge

abbrev pub keys_or : Option Node → KeyInfo
keys_or None = no_keys
keys_or (Some node) = node.keys

module _ (plan : Plan) where
  -- the columns that each node sends, in the table of the inferences
  abbrev pub inferred_columns : ℕ → List ColTy
  inferred_columns = columns_in (sent_columns (all_types plan.sources plan.nodes))

  abbrev pub output_at : ℕ → Output
  output_at v = record {
    columns = columns_at plan.sources plan.nodes v;
    edge = edge_or (numbered plan.edges v);
    keys = keys_or (numbered plan.nodes v);
    sent = (at no_flow (flows plan.sources (wires plan.nodes)) v).sent;
    update_key = at None (update_keys inferred_columns (wires plan.nodes)) v;
  }

  -- ---- edges of the network

  -- what a node sends partial rows of, if it does
  abbrev pub local_at : ℕ → Option LocalGrouping
  local_at v = local_in (columns_at plan.sources plan.nodes) plan (numbered plan.nodes v)

  abbrev edge_by : Bool → Option LocalGrouping → Option PlanEdge → Option Node → List ColTy → Edge
  edge_by last local edge node columns = record {
    meaning = cond last (meaning_of (table_mode plan.sink)) (meaning_sent local (meaning_in edge));
    exchange = exchange_in edge;
    route = route_by plan.parallelism columns (exchange_in edge);
    kinds = kinds_in edge;
    fits = fits_sent local (change_fits (cond last (meaning_of (table_mode plan.sink)) (meaning_sent local (meaning_in edge))) columns);
    holds = λ row. row_fits columns row;
    unique = keys_in (λ n. n.keys.unique) node;
    local = keys_in (λ n. n.keys.local) node;
    fixing = keys_in (λ n. n.keys.fixing) node;
  }

  abbrev output_by : Option PlanEdge → Option Node → ℕ → Output
  output_by edge node v = record {
    columns = columns_at plan.sources plan.nodes v;
    edge = edge_or edge;
    keys = keys_or node;
    sent = (at no_flow (flows plan.sources (wires plan.nodes)) v).sent;
    update_key = at None (update_keys inferred_columns (wires plan.nodes)) v;
  }

  inner_edge : (v : ℕ) (edge : Option PlanEdge) (node : Option Node) → edge_by false None edge node (columns_at plan.sources plan.nodes v) ≡ edge_of plan.parallelism (output_by edge node v)
  inner_edge v None None = refl
  inner_edge v None (Some node) = refl
  inner_edge v (Some edge) None = refl
  inner_edge v (Some edge) (Some node) = refl

  parts_edge : (l : LocalGrouping) (v : ℕ) (edge : Option PlanEdge) (node : Option Node) → edge_by false (Some l) edge node (columns_at plan.sources plan.nodes v) ≡ partial_edge plan.parallelism l (output_by edge node v)
  parts_edge l v None None = refl
  parts_edge l v None (Some node) = refl
  parts_edge l v (Some edge) None = refl
  parts_edge l v (Some edge) (Some node) = refl

  last_edge : (v : ℕ) (edge : Option PlanEdge) (node : Option Node) → edge_by true None edge node (columns_at plan.sources plan.nodes v) ≡ printed_edge plan.parallelism plan.sink (output_by edge node v)
  last_edge v None None = refl
  last_edge v None (Some node) = refl
  last_edge v (Some edge) None = refl
  last_edge v (Some edge) (Some node) = refl

  pub edge_is : (v : ℕ) → (v == length plan.nodes) ≡ false → local_at v ≡ None → (network plan).edge v ≡ edge_of plan.parallelism (output_at v)
  edge_is v inner none =
      (λ i. edge_by (inner i) (none i) (numbered plan.edges v) (numbered plan.nodes v) (columns_at plan.sources plan.nodes v)) ∙ inner_edge v (numbered plan.edges v) (numbered plan.nodes v)

  pub parts_are : (l : LocalGrouping) (v : ℕ) → (v == length plan.nodes) ≡ false → local_at v ≡ Some l → (network plan).edge v ≡ partial_edge plan.parallelism l (output_at v)
  parts_are l v inner some =
      (λ i. edge_by (inner i) (some i) (numbered plan.edges v) (numbered plan.nodes v) (columns_at plan.sources plan.nodes v)) ∙ parts_edge l v (numbered plan.edges v) (numbered plan.nodes v)

  pub printed_is : (v : ℕ) → (v == length plan.nodes) ≡ true → local_at v ≡ None → (network plan).edge v ≡ printed_edge plan.parallelism plan.sink (output_at v)
  printed_is v last none =
      (λ i. edge_by (last i) (none i) (numbered plan.edges v) (numbered plan.nodes v) (columns_at plan.sources plan.nodes v)) ∙ last_edge v (numbered plan.edges v) (numbered plan.nodes v)

  -- ---- what is around a node

  pub update_is : (edge : Option PlanEdge) → update_in edge ≡ (edge_or edge).update
  update_is None = refl
  update_is (Some edge) = refl

  pub kinds_is : (edge : Option PlanEdge) → kinds_in edge ≡ (edge_or edge).kinds
  kinds_is None = refl
  kinds_is (Some edge) = refl

  sides : (inputs : List ℕ) → map (side_of plan) inputs ≡ map output_side (map output_at inputs)
  sides [] = refl
  sides (input ∷ inputs) = λ i. record { kinds = kinds_is (numbered plan.edges input) i; input = update_is (numbered plan.edges input) i; columns = columns_at plan.sources plan.nodes input } ∷ sides inputs i

  many : (inputs : List ℕ) → length inputs ≡ length (map output_at inputs)
  many [] = refl
  many (input ∷ inputs) = ap suc (many inputs)

  around_told : (v first : ℕ) (inputs : List ℕ) → around_of plan v (first ∷ inputs) ≡ around_sent (local_at first) plan.sink (map output_at (first ∷ inputs)) (output_at v)
  around_told v first inputs = λ i. record {
    kinds = kinds_is (numbered plan.edges first) i;
    input = update_is (numbered plan.edges first) i;
    own = update_is (numbered plan.edges v) i;
    columns = columns_at plan.sources plan.nodes first;
    partial = local_at first;
    others = sides inputs i;
    inputs = many (first ∷ inputs) i;
    declared = plan.sink.mode;
    sink_key = unwrap_or plan.sink.key [];
  }

  pub around_is : (v first : ℕ) (inputs : List ℕ) → local_at first ≡ None → around_of plan v (first ∷ inputs) ≡ around_by plan.sink (map output_at (first ∷ inputs)) (output_at v)
  around_is v first inputs none = around_told v first inputs ∙ ap (λ local. around_sent local plan.sink (map output_at (first ∷ inputs)) (output_at v)) none

  -- where partial rows come
  pub around_parts : (l : LocalGrouping) (v first : ℕ) (inputs : List ℕ) → local_at first ≡ Some l → around_of plan v (first ∷ inputs) ≡ around_sent (Some l) plan.sink (map output_at (first ∷ inputs)) (output_at v)
  around_parts l v first inputs some = around_told v first inputs ∙ ap (λ local. around_sent local plan.sink (map output_at (first ∷ inputs)) (output_at v)) some
