-- What is inferred of a plan doesn't depend on the keys of its nodes, nor on the modes of its edges.
use Rattle.std.specs.Prelude.{◌≡◌, ℕ, List, Option}
use Rattle.std.proofs.Common.{[], ◌∷◌, refl, ap, ◌∙◌, Some, None}
use Rattle.ct_value.specs.declared.ty.ColTy.{ColTy}
use Rattle.ct_change.specs.declared.kind.Declared.{Declared}
use Rattle.ct_change.specs.declared.kind.Declared.TheVariants.{Append, Retract, Upsert}
use Rattle.ct_catalog.specs.declared.table.TableDef.{TableDef}
use Rattle.phys_plan.specs.declared.edge.Edge.{Edge}
use Rattle.phys_plan.specs.declared.node.KeyInfo.{KeyInfo}
use Rattle.phys_plan.specs.declared.node.Node.{Node}
use Rattle.phys_plan.specs.declared.node.Op.{Op}
use Rattle.phys_plan.specs.declared.node.Op.TheVariants as op
use Rattle.phys_plan.specs.declared.plan.Plan.{Plan}
use Rattle.phys_plan.specs.Reading.{numbered as item, read_up, Wire, wires, first_input, no_keys}
use Rattle.phys_plan.specs.Columns.{columns_in}
use Rattle.upsert_keys.specs.Keys as k
use Rattle.upsert_keys.specs.Seen.{all_seen, exchange_in, seen_over}
use Rattle.upsert_keys.proofs.laws.Keys.{wires_keyed}
use Rattle.mode_infer.specs.declared.modes.EdgeMode.{EdgeMode}
use Rattle.mode_infer.specs.Kinds as m
use Rattle.mode_infer.specs.UpdateKeys as u
use Rattle.mode_infer.specs.Modes.{edge_modes, moded}
use Rattle.plan_inferred.specs.declared.inferred.Inferred.{Inferred}
use Rattle.plan_inferred.specs.Inferred.{inferred}
use Rattle.plan_inferred.specs.Rules.{comes_with_key, exchange_by, fills, fills_sink, is_exchanged, says_exchange, suits_sink, suits_table, consumer}
use Rattle.plan_check.specs.Sound.{inferred_of, sent_columns}
use Rattle.plan_check.specs.Types.{all_types}
use Rattle.laid_plans.proofs.laws.Columns.{types_same}
use Rattle.laid_plans.proofs.laws.Edges.{edge_read}
use Rattle.laid_plans.proofs.laws.Nodes.{first_consumer_read, item_read}
use Rattle.laid_plans.proofs.laws.Given.{given}

-- ---- keys are inferred over the exchanges of edges

module _ (modes : List EdgeMode) (columns : ℕ → List ColTy) (edges : List Edge) where
  -- what is seen of inputs
  seen_same : (inputs : List ℕ) (keys : List KeyInfo) → all_seen columns (moded modes edges) inputs keys ≡ all_seen columns edges inputs keys
  seen_same [] keys = refl
  seen_same (input ∷ inputs) [] = refl
  seen_same (input ∷ inputs) (key ∷ keys) =
      let exchange : exchange_in (item (moded modes edges) input) ≡ exchange_in (item edges input) = edge_read modes exchange_in (λ edge mode. refl) edges input in
      λ i. seen_over (exchange i) (columns input) key ∷ seen_same inputs keys i

  -- the keys of all nodes
  keys_inferred : (sources : List TableDef) (ws : List Wire) → k.keys columns sources (moded modes edges) ws ≡ k.keys columns sources edges ws
  keys_inferred sources ws = λ i. read_up (λ w below. k.keys_of sources w.op (seen_same w.inputs below i)) no_keys [] ws

-- ---- plans

module _ (keys : List KeyInfo) (modes : List EdgeMode) (plan : Plan) where
  -- nodes that are given keys are wired as before
  wires_same : wires (given keys modes plan).nodes ≡ wires plan.nodes
  wires_same = wires_keyed keys plan.nodes

  -- all that is inferred, where the columns are as before
  by_columns : (columns : List (List ColTy)) → inferred columns (given keys modes plan) ≡ inferred columns plan
  by_columns columns =
      let of_nodes = keys_inferred modes (columns_in columns) plan.edges plan.sources (wires (given keys modes plan).nodes) ∙ ap (k.keys (columns_in columns) plan.sources plan.edges) wires_same in
      λ i. record {
        columns = columns;
        keys = of_nodes i;
        flows = m.flows plan.sources (wires_same i);
        update_keys = u.update_keys (columns_in columns) (wires_same i);
        modes = edge_modes (columns_in columns) plan.sources plan.sink (wires_same i);
      }

  -- and they are
  pub inferred_same : inferred_of (given keys modes plan) ≡ inferred_of plan
  inferred_same =
      ap (λ types. inferred (sent_columns types) (given keys modes plan)) (types_same keys plan.sources plan.nodes) ∙ by_columns (sent_columns (all_types plan.sources plan.nodes))

  -- ---- Exchanged

  -- an edge goes as its consumer asks for it
  pub exchanged_same : (v : ℕ) → is_exchanged (given keys modes plan) v ≡ is_exchanged plan v
  exchanged_same v =
      edge_read modes (says_exchange (exchange_by v (consumer v (given keys modes plan).nodes))) (λ edge mode. refl) plan.edges v
      ∙ ap (λ exchange. says_exchange exchange (item plan.edges v)) (first_consumer_read keys (exchange_by v) (λ node of_node. refl) v plan.nodes)

  -- ---- SinkKey

  module _ (x : Inferred) where
    -- what comes to a sink with a key
    with_key_same : (key : Option (List ℕ)) (input : ℕ) → comes_with_key x key input (item (given keys modes plan).nodes input) ≡ comes_with_key x key input (item plan.nodes input)
    with_key_same None input = refl
    with_key_same (Some key) input = item_read keys (comes_with_key x (Some key) input) (λ node of_node. refl) plan.nodes input

    -- what comes to a sink of a mode
    table_same : (mode : Declared) (key : Option (List ℕ)) (input : ℕ) → suits_table x (given keys modes plan).nodes mode key input ≡ suits_table x plan.nodes mode key input
    table_same Append key input = refl
    table_same Retract key input = refl
    table_same Upsert key input = with_key_same key input

    -- what comes to an operator, if it is the sink
    fills_same : (o : Op) (inputs : List ℕ) → fills x (given keys modes plan) o inputs ≡ fills x plan o inputs
    fills_same op.Sink inputs = table_same plan.sink.mode plan.sink.key (first_input inputs)
    fills_same _ inputs = refl

    -- what comes to a node
    node_fills_same : (node : Option Node) → fills_sink x (given keys modes plan) node ≡ fills_sink x plan node
    node_fills_same None = refl
    node_fills_same (Some node) = fills_same node.op node.inputs

    -- and to a node by its number
    pub sink_same : (v : ℕ) → suits_sink x (given keys modes plan) v ≡ suits_sink x plan v
    sink_same v = item_read keys (fills_sink x (given keys modes plan)) (λ node of_node. refl) plan.nodes v ∙ node_fills_same (item plan.nodes v)
