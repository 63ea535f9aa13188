-- What the rules of sound plans say of one node: its keys, kinds, update key and edge are those that are inferred from its inputs'.
use Rattle.std.specs.Prelude.{◌≡◌, ℕ, ◌+◌, ◌-◌, ◌<◌, ◌≤◌, Bool, cond, List, drop, length, map, slice_get, Option, unwrap_or}
use Rattle.std.proofs.Common.{zero, suc, true, false, [], ◌∷◌, refl, sym, ap, ◌∙◌, arith, Some, None}
use Rattle.std.specs.List.{AllByRecursion}
use Rattle.ct_change.specs.declared.kind.KindSet.{KindSet}
use Rattle.ct_catalog.specs.declared.table.TableDef.{TableDef}
use Rattle.rel_algebra.specs.declared.agg.Agg.{Agg}
use Rattle.phys_plan.specs.declared.edge.Edge.{Edge as PlanEdge}
use Rattle.phys_plan.specs.declared.edge.Exchange.{Exchange}
use Rattle.phys_plan.specs.declared.edge.Exchange.TheVariants.{Forward, Hash}
use Rattle.ct_change.specs.declared.update.Update.{Update}
use Rattle.ct_change.specs.declared.update.Update.TheVariants.{Absent, After, Both}
use Rattle.phys_plan.specs.declared.node.KeyInfo.{KeyInfo}
use Rattle.phys_plan.specs.declared.node.Node.{Node}
use Rattle.phys_plan.specs.declared.node.Op.{Op}
use Rattle.phys_plan.specs.declared.node.Op.TheVariants as op
use Rattle.phys_plan.specs.declared.plan.Plan.{Plan}
use Rattle.phys_plan.specs.declared.plan.Rule.{Rule}
use Rattle.phys_plan.specs.declared.plan.Rule.TheVariants as rule
use Rattle.phys_plan.specs.Reading.{at, numbered as item, wire, wires, numbered, no_keys}
use Rattle.upsert_keys.specs.Keys.{keys, keys_of}
use Rattle.upsert_keys.specs.Seen.{all_seen, exchange_in, seen_over}
use Rattle.mode_infer.specs.declared.kinds.Flow.{Flow}
use Rattle.mode_infer.specs.declared.modes.EdgeMode.{EdgeMode}
use Rattle.mode_infer.specs.Kinds.{flow_of, flows, group_kinds, grouped_in_bundles, no_flow, partials, plain, asked}
use Rattle.mode_infer.specs.Modes.{edge_modes, mode, modes_of, updates, with_sink}
use Rattle.mode_infer.specs.UpdateKeys.{input_width, update_key_of, update_keys}
use Rattle.mode_infer.specs.Updates.{is_input, is_taken, port_of, takes}
use Rattle.plan_inferred.specs.Local.{AreOrdered, IsLocal}
use Rattle.plan_inferred.specs.Same.{same_exchange, same_keys, same_kinds, same_sets, same_truth, same_update}
use Rattle.plan_inferred.specs.Rules.{by_columns, exchange_by, has_old_rows, says_exchange, says_keys, says_kinds, says_update, consumer}
use Rattle.plan_shape.specs.Shaped.{MeetsShape}
use Rattle.plan_rules.specs.Columns.{columns_at, columns_by, node_columns}
use Rattle.plan_check.specs.Sound.{meets}
use Rattle.plan_check.specs.Types.{is_typed, is_typed_by, types_at, types_by}
use Rattle.sound_plans.specs.Agrees.{taken_by, first_width}
use Rattle.sound_plans.specs.Outputs.{seen}
use Rattle.sound_plans.specs.Sound.{IsRuled}
use Rattle.sound_plans.proofs.laws.Lists.{both, drop_at, found, is_somewhere, map_length, map_map, map_same, of_each, same_numbers, within}
use Rattle.sound_plans.proofs.laws.Consumers.{by_test, consumer_is, only_behind, port_is, taken_is}
use Rattle.sound_plans.specs.Promises.{Laws}
use Rattle.sound_plans.proofs.laws.Inferred as i
use Rattle.sound_plans.proofs.laws.Modes as m
use Rattle.sound_plans.proofs.laws.Columns as c
use Rattle.sound_plans.proofs.laws.Shapes as s
use Rattle.sound_plans.proofs.laws.Outputs.{edge_or, keys_or, output_at, inferred_columns as columns_of}

-- ---- what tests say

sets_are : (xs ys : List (List ℕ)) → same_sets xs ys ≡ true → xs ≡ ys
sets_are [] [] e = refl
sets_are [] (y ∷ ys) e = absurd (cc)
sets_are (x ∷ xs) [] e = absurd (cc)
sets_are (x ∷ xs) (y ∷ ys) e = let h = both _ (same_sets xs ys) e in λ k. same_numbers x y h.0 k ∷ sets_are xs ys h.1 k

keys_same : (a b : KeyInfo) → same_keys a b ≡ true → a ≡ b
keys_same a b e =
    let h = both (same_sets a.unique b.unique) _ e in
    let l = both (same_sets a.local b.local) (same_sets a.fixing b.fixing) h.1 in
    λ k. record { unique = sets_are a.unique b.unique h.0 k; local = sets_are a.local b.local l.0 k; fixing = sets_are a.fixing b.fixing l.1 k }

truth_is : (a b : Bool) → same_truth a b ≡ true → a ≡ b
truth_is true true e = refl
truth_is true false e = absurd (cc)
truth_is false true e = absurd (cc)
truth_is false false e = refl

kinds_are : (a b : KindSet) → same_kinds a b ≡ true → a ≡ b
kinds_are a b e =
    let h = both (same_truth a.i b.i) _ e in
    let l = both (same_truth a.ub b.ub) _ h.1 in
    let r = both (same_truth a.ua b.ua) (same_truth a.d b.d) l.1 in
    λ k. record { i = truth_is a.i b.i h.0 k; ub = truth_is a.ub b.ub l.0 k; ua = truth_is a.ua b.ua r.0 k; d = truth_is a.d b.d r.1 k }

update_same : (a b : Update) → same_update a b ≡ true → a ≡ b
update_same Absent Absent e = refl
update_same Absent (After key) e = absurd (cc)
update_same Absent Both e = absurd (cc)
update_same (After key) Absent e = absurd (cc)
update_same (After key) (After other) e = ap (λ x. After x) (same_numbers key other e)
update_same (After key) Both e = absurd (cc)
update_same Both Absent e = absurd (cc)
update_same Both (After key) e = absurd (cc)
update_same Both Both e = refl

exchange_same : (a b : Exchange) → same_exchange a b ≡ true → a ≡ b
exchange_same Forward Forward e = refl
exchange_same Forward (Hash others) e = absurd (cc)
exchange_same (Hash cols) Forward e = absurd (cc)
exchange_same (Hash cols) (Hash others) e = ap (λ x. Hash x) (same_numbers cols others e)

-- ---- numbers

pub alike : {A : Type 0} (xs : List A) (v : ℕ) → item xs v ≡ numbered xs v
alike xs zero = refl
alike xs (suc n) = refl

item_there : {A : Type 0} (d : A) (xs : List A) (v : ℕ) → 0 < v → v ≤ length xs → item xs v ≡ Some (at d xs v)
item_there d xs zero l h = absurd (omega arith)
item_there d xs (suc n) l h = let x = found xs n (omega arith) in x.1 ∙ ap (λ y. Some y) (sym (ap (λ o. unwrap_or o d) x.1))

-- ---- a node that isn't a local group sends rows as they are

flow_plain : (sources : List TableDef) (o : Op) (inputs : List Flow) → s.sends_parts o ≡ false → flow_of sources o inputs ≡ plain (flow_of sources o inputs).sent
flow_plain sources (op.LocalGroup keys aggs) inputs n = absurd (cc)
flow_plain sources _ [] n = refl
flow_plain sources _ (a ∷ []) n = refl
flow_plain sources _ (a ∷ (b ∷ [])) n = refl
flow_plain sources _ (a ∷ (b ∷ (c ∷ inputs))) n = refl

module _ (laws : Laws) (plan : Plan) (ruled : IsRuled plan) where
  pub shape : MeetsShape plan
  shape v low high = ruled.sound rule.Shape v low high

  pub met : (r : Rule) (v : ℕ) (node : Node) → numbered plan.nodes v ≡ Some node → meets r plan v ≡ true
  met r v node e = let a = s.among plan.nodes v node e in ruled.sound r v (let n = a.number in omega arith) (let f = a.few in omega arith)

  lower : (v : ℕ) (node : Node) → numbered plan.nodes v ≡ Some node → AllByRecursion (λ input. input < v) node.inputs
  lower v node e = of_each (λ input. input < v) node.inputs (λ p input i. (s.input_there plan shape laws.shaped v node p input e i).1.2)

  ordered : AreOrdered (wires plan.nodes)
  ordered = i.ordered plan.nodes (λ v node e. lower v node (sym (alike plan.nodes v) ∙ e))

  -- ---- columns

  before : (v : ℕ) (node : Node) → numbered plan.nodes v ≡ Some node → AllByRecursion (λ input. (below : Node) × (numbered plan.nodes input ≡ Some below) × (input < v)) node.inputs
  before v node e = s.inputs_there plan shape laws.shaped v node e

  typed : (v : ℕ) (node : Node) → numbered plan.nodes v ≡ Some node → is_typed_by plan.sink node.op (types_at plan.sources plan.nodes v) ≡ true
  typed v node e = sym (ap (λ o. is_typed plan.sink o (types_at plan.sources plan.nodes v)) e) ∙ met rule.Types v node e

  pub columns_are : (v : ℕ) (node : Node) → numbered plan.nodes v ≡ Some node
      → (types_at plan.sources plan.nodes v ≡ Some (columns_at plan.sources plan.nodes v)) × (node_columns plan.sources plan.nodes v ≡ Some (columns_at plan.sources plan.nodes v))
  columns_are v node e =
      let has = c.columns_are plan.sources plan.sink plan.nodes ruled.rules before typed v node e in
      let same : columns_at plan.sources plan.nodes v ≡ has.0 = ap (λ o. unwrap_or o []) has.2 in
      (has.1 ∙ ap (λ x. Some x) (sym same), has.2 ∙ ap (λ x. Some x) (sym same))

  pub inferred_same : (v : ℕ) (node : Node) → numbered plan.nodes v ≡ Some node → columns_of plan v ≡ columns_at plan.sources plan.nodes v
  inferred_same v node e = c.inferred_columns plan.sources plan.nodes v (columns_at plan.sources plan.nodes v) (columns_are v node e).0

  -- the rule counts the columns of a node by those of its inputs
  pub types_are : (v : ℕ) (node : Node) → numbered plan.nodes v ≡ Some node
      → types_by plan.sources node.op (map (λ out. Some out.columns) (map (output_at plan) node.inputs)) ≡ Some (columns_at plan.sources plan.nodes v)
  types_are v node e =
      ap (types_by plan.sources node.op)
      (map_map (λ out. Some out.columns) (output_at plan) node.inputs
      ∙ sym (map_same (types_at plan.sources plan.nodes) (λ input. Some (columns_at plan.sources plan.nodes input)) node.inputs
      (of_each (λ input. types_at plan.sources plan.nodes input ≡ Some (columns_at plan.sources plan.nodes input)) node.inputs
      (λ p input h. let there = (s.input_there plan shape laws.shaped v node p input e h).1 in (columns_are input there.0 there.1).0))))
      ∙ sym (c.typed_by plan.sources plan.sink plan.nodes ruled.rules before typed v node e) ∙ (columns_are v node e).0

  -- and the network's columns are counted in the same way
  pub columns_made : (v : ℕ) (node : Node) → numbered plan.nodes v ≡ Some node
      → columns_by plan.sources node.op (map (λ out. Some out.columns) (map (output_at plan) node.inputs)) ≡ Some (columns_at plan.sources plan.nodes v)
  columns_made v node e = c.same_columns plan.sources node.op (map (λ out. Some out.columns) (map (output_at plan) node.inputs)) (columns_at plan.sources plan.nodes v) (ruled.rules v node e) (types_are v node e)

  -- ---- keys

  abbrev pub key_table : List KeyInfo
  key_table = keys (columns_of plan) plan.sources plan.edges (wires plan.nodes)

  says_is : (o : Option KeyInfo) (node : Node) → says_keys o (Some node) ≡ true → unwrap_or o no_keys ≡ node.keys
  says_is None node e = absurd (cc)
  says_is (Some k) node e = keys_same k node.keys e

  pub keys_held : (v : ℕ) (node : Node) → numbered plan.nodes v ≡ Some node → at no_keys key_table v ≡ keys_or (numbered plan.nodes v)
  keys_held v node e =
      let has : says_keys (item key_table v) (Some node) ≡ true = ap (says_keys (item key_table v)) (sym e ∙ sym (alike plan.nodes v)) ∙ met rule.Keys v node e in
      says_is (item key_table v) node has ∙ ap keys_or (sym e)

  exchange_is : (o : Option PlanEdge) → exchange_in o ≡ (edge_or o).exchange
  exchange_is None = refl
  exchange_is (Some edge) = refl

  all_seen_is : (inputs : List ℕ) → AllByRecursion (λ input. (below : Node) × (numbered plan.nodes input ≡ Some below)) inputs
      → all_seen (columns_of plan) plan.edges inputs (map (at no_keys key_table) inputs) ≡ map seen (map (output_at plan) inputs)
  all_seen_is [] h = refl
  all_seen_is (input ∷ inputs) h =
      let exchanged : exchange_in (item plan.edges input) ≡ (edge_or (numbered plan.edges input)).exchange = ap exchange_in (alike plan.edges input) ∙ exchange_is (numbered plan.edges input) in
      let columns = inferred_same input h.0.0 h.0.1 in
      let held = keys_held input h.0.0 h.0.1 in
      λ k. seen_over (exchanged k) (columns k) (held k) ∷ all_seen_is inputs h.1 k

  nodes_of : (v : ℕ) (node : Node) → numbered plan.nodes v ≡ Some node → AllByRecursion (λ input. (below : Node) × (numbered plan.nodes input ≡ Some below)) node.inputs
  nodes_of v node e =
      of_each (λ input. (below : Node) × (numbered plan.nodes input ≡ Some below)) node.inputs
      (λ p input h. let there = (s.input_there plan shape laws.shaped v node p input e h).1 in (there.0, there.1))

  pub keys_are : (v : ℕ) (node : Node) → numbered plan.nodes v ≡ Some node → (output_at plan v).keys ≡ keys_of plan.sources node.op (map seen (map (output_at plan) node.inputs))
  keys_are v node e =
      let is = laws.keys (columns_of plan) plan.sources plan.edges (wires plan.nodes) ordered in
      sym (keys_held v node e)
      ∙ i.made_at (λ w below. keys_of plan.sources w.op (all_seen (columns_of plan) plan.edges w.inputs below)) no_keys plan.nodes key_table is v node (alike plan.nodes v ∙ e)
      ∙ ap (keys_of plan.sources node.op) (all_seen_is node.inputs (nodes_of v node e))

  -- ---- kinds

  abbrev pub flow_table : List Flow
  flow_table = flows plan.sources (wires plan.nodes)

  flow_is : IsLocal (λ w. flow_of plan.sources w.op) no_flow (wires plan.nodes) flow_table
  flow_is = laws.kinds plan.sources (wires plan.nodes) ordered

  flow_made : (v : ℕ) (node : Node) → numbered plan.nodes v ≡ Some node → at no_flow flow_table v ≡ flow_of plan.sources node.op (map (at no_flow flow_table) node.inputs)
  flow_made v node e = i.made_at (λ w. flow_of plan.sources w.op) no_flow plan.nodes flow_table flow_is v node (alike plan.nodes v ∙ e)

  sent_alone : (v : ℕ) (node : Node) → numbered plan.nodes v ≡ Some node → s.sends_parts node.op ≡ false → at no_flow flow_table v ≡ plain (output_at plan v).sent
  sent_alone v node e n =
      let made = flow_made v node e in
      made ∙ flow_plain plan.sources node.op (map (at no_flow flow_table) node.inputs) n ∙ ap (λ (f : Flow). plain f.sent) (sym made)

  pub kinds_are_sent : (v : ℕ) (node : Node) → numbered plan.nodes v ≡ Some node → s.ArePlain plan shape laws.shaped node.inputs
      → (output_at plan v).sent ≡ (flow_of plan.sources node.op (map (λ out. plain out.sent) (map (output_at plan) node.inputs))).sent
  kinds_are_sent v node e are_plain =
      let inputs = map_same (at no_flow flow_table) (λ input. plain (output_at plan input).sent) node.inputs
      (of_each (λ input. at no_flow flow_table input ≡ plain (output_at plan input).sent) node.inputs
      (λ p input h. let there = (s.input_there plan shape laws.shaped v node p input e h).1 in sent_alone input there.0 there.1 (are_plain p input there.0 h there.1))) in
      ap (λ (f : Flow). f.sent) (flow_made v node e ∙ ap (flow_of plan.sources node.op) (inputs ∙ sym (map_map (λ out. plain out.sent) (output_at plan) node.inputs)))

  -- a group above a local group goes by what comes to that
  pub kinds_are_merged : (v : ℕ) (node : Node) (below_at : ℕ) (below : Node) (input keys : ℕ) (aggs : List Agg) (under : ℕ) (calls : List Agg) → numbered plan.nodes v ≡ Some node → node.op ≡ op.BatchGroup keys aggs → node.inputs ≡ below_at ∷ []
      → numbered plan.nodes below_at ≡ Some below → below.op ≡ op.LocalGroup under calls → below.inputs ≡ input ∷ [] → (output_at plan v).sent ≡ group_kinds keys aggs (output_at plan input).sent
  kinds_are_merged v node below_at below input keys aggs under calls e is are f is_local are_its =
      let local : at no_flow flow_table below_at ≡ partials (at no_flow flow_table input) =
      flow_made below_at below f ∙ (λ i. flow_of plan.sources (is_local i) (map (at no_flow flow_table) (are_its i))) in
      let whole : at no_flow flow_table v ≡ grouped_in_bundles keys aggs (at no_flow flow_table below_at) =
      flow_made v node e ∙ (λ i. flow_of plan.sources (is i) (map (at no_flow flow_table) (are i))) in
      ap (λ (f : Flow). f.sent) (whole ∙ ap (grouped_in_bundles keys aggs) local)

  -- ---- update keys

  abbrev pub update_table : List (Option (List ℕ))
  update_table = update_keys (columns_of plan) (wires plan.nodes)

  width_is : (inputs : List ℕ) → AllByRecursion (λ input. (below : Node) × (numbered plan.nodes input ≡ Some below)) inputs → input_width (columns_of plan) inputs ≡ first_width (map (output_at plan) inputs)
  width_is [] h = refl
  width_is (input ∷ inputs) h = ap length (inferred_same input h.0.0 h.0.1)

  update_is : IsLocal (λ w. update_key_of (input_width (columns_of plan) w.inputs) w.op) None (wires plan.nodes) update_table
  update_is = laws.update_keys (columns_of plan) (wires plan.nodes) ordered

  pub update_key_is : (v : ℕ) (node : Node) → numbered plan.nodes v ≡ Some node
      → (output_at plan v).update_key ≡ update_key_of (first_width (map (output_at plan) node.inputs)) node.op (map (λ out. out.update_key) (map (output_at plan) node.inputs))
  update_key_is v node e =
      i.made_at (λ w. update_key_of (input_width (columns_of plan) w.inputs) w.op) None plan.nodes update_table update_is v node (alike plan.nodes v ∙ e)
      ∙ ap (λ width. update_key_of width node.op (map (at None update_table) node.inputs)) (width_is node.inputs (nodes_of v node e))
      ∙ ap (update_key_of (first_width (map (output_at plan) node.inputs)) node.op) (sym (map_map (λ out. out.update_key) (output_at plan) node.inputs))

  -- ---- edges

  abbrev pub told_table : List Update
  told_table = updates (columns_of plan) plan.sources plan.sink (wires plan.nodes)

  -- how the edge of a node tells updates, as it is inferred
  abbrev pub told_by : (v : ℕ) → Op → Update
  told_by v o = m.told_at plan.sources plan.sink flow_table update_table v o (wires (drop v plan.nodes)) (drop v told_table)

  told_there : (v : ℕ) (node : Node) → numbered plan.nodes v ≡ Some node → (a : s.IsAmong plan.nodes v node) → slice_get told_table a.place ≡ Some (told_by v node.op)
  told_there v node e a =
      m.update_at plan.sources plan.sink flow_table update_table plan.nodes a.place node a.is
      ∙ ap (λ n. Some (told_by n node.op)) (sym a.number)

  -- the mode of the edge of a node, where a sink counts like any other
  abbrev pub mode_table : List EdgeMode
  mode_table = modes_of flow_table told_table

  flow_there : (v : ℕ) (node : Node) → (a : s.IsAmong plan.nodes v node) → slice_get flow_table a.place ≡ Some (at no_flow flow_table v)
  flow_there v node a =
      let long : length flow_table ≡ length plan.nodes = flow_is.whole ∙ map_length wire plan.nodes in
      let x = found flow_table a.place (let f = a.few in let n = a.number in omega arith) in
      x.1 ∙ ap (λ y. Some y) (sym (ap (at no_flow flow_table) a.number ∙ ap (λ o. unwrap_or o no_flow) x.1))

  pub own_mode : (v : ℕ) (node : Node) → numbered plan.nodes v ≡ Some node → (a : s.IsAmong plan.nodes v node) → slice_get mode_table a.place ≡ Some (mode (output_at plan v).sent (told_by v node.op))
  own_mode v node e a = m.mode_at flow_table told_table a.place (at no_flow flow_table v) (told_by v node.op) (flow_there v node a) (told_there v node e a)

  pub edge_there : (v : ℕ) (node : Node) → numbered plan.nodes v ≡ Some node → (edge : PlanEdge) × (numbered plan.edges v ≡ Some edge)
  edge_there zero node e = absurd (cc)
  edge_there (suc n) node e = let l = within plan.nodes n node e in let k = s.edges_many plan shape laws.shaped in found plan.edges n (omega arith)

  -- the mode of its edge, as it is inferred, which is what the rules ask
  abbrev pub one_mode : ℕ → Node → EdgeMode
  one_mode v node = with_sink plan.sink.mode mode_table node.op node.inputs (mode (output_at plan v).sent (told_by v node.op))

  pub mode_there : (v : ℕ) (node : Node) → numbered plan.nodes v ≡ Some node → item (edge_modes (columns_of plan) plan.sources plan.sink (wires plan.nodes)) v ≡ Some (one_mode v node)
  mode_there v node e =
      let a = s.among plan.nodes v node e in
      let table = edge_modes (columns_of plan) plan.sources plan.sink (wires plan.nodes) in
      ap (item table) a.number ∙ m.sunk_at plan.sink.mode mode_table plan.nodes mode_table a.place node (mode (output_at plan v).sent (told_by v node.op)) a.is (own_mode v node e a)

  pub ruled_mode : (v : ℕ) (node : Node) → numbered plan.nodes v ≡ Some node → ((output_at plan v).edge.kinds ≡ (one_mode v node).kinds) × ((output_at plan v).edge.update ≡ (one_mode v node).update)
  ruled_mode v node e =
      let edge = edge_there v node e in
      let one = one_mode v node in
      let table = edge_modes (columns_of plan) plan.sources plan.sink (wires plan.nodes) in
      let is : item table v ≡ Some one = mode_there v node e in
      let its : item plan.edges v ≡ Some edge.0 = alike plan.edges v ∙ edge.1 in
      let held : (output_at plan v).edge ≡ edge.0 = ap edge_or edge.1 in
      let kinds : same_kinds one.kinds edge.0.kinds ≡ true = sym (λ k. says_kinds (is k) (its k)) ∙ met rule.Kinds v node e in
      let update : same_update one.update edge.0.update ≡ true =
      sym (λ k. says_update (is k) (its k)) ∙ (both (says_update (item table v) (item plan.edges v)) (has_old_rows plan.edges (item plan.nodes v)) (met rule.UpdateKind v node e)).0 in
      (ap (λ (x : PlanEdge). x.kinds) held ∙ sym (kinds_are one.kinds edge.0.kinds kinds), ap (λ (x : PlanEdge). x.update) held ∙ sym (update_same one.update edge.0.update update))

  -- what is inferred of a node, in the tables of the inferences
  pub flow_item : (v : ℕ) (node : Node) → numbered plan.nodes v ≡ Some node → (f : Flow) × (item flow_table v ≡ Some f) × (f.sent ≡ (output_at plan v).sent)
  flow_item v node e =
      let a = s.among plan.nodes v node e in
      (at no_flow flow_table v, ap (item flow_table) a.number ∙ flow_there v node a, refl)

  pub update_item : (v : ℕ) (node : Node) → numbered plan.nodes v ≡ Some node → item update_table v ≡ Some (output_at plan v).update_key
  update_item v node e =
      let a = s.among plan.nodes v node e in
      let long : length update_table ≡ length plan.nodes = update_is.whole ∙ map_length wire plan.nodes in
      item_there None update_table v (let n = a.number in omega arith) (let f = a.few in omega arith)

  pub key_item : (v : ℕ) (node : Node) → numbered plan.nodes v ≡ Some node → item key_table v ≡ Some (output_at plan v).keys
  key_item v node e =
      let a = s.among plan.nodes v node e in
      let is = laws.keys (columns_of plan) plan.sources plan.edges (wires plan.nodes) ordered in
      let long : length key_table ≡ length plan.nodes = is.whole ∙ map_length wire plan.nodes in
      item_there no_keys key_table v (let n = a.number in omega arith) (let f = a.few in omega arith) ∙ ap (λ k. Some k) (keys_held v node e)

  -- ---- what its consumer asks

  -- how the consumer of an input takes its updates
  pub taken : (v : ℕ) (node : Node) (p input : ℕ) → numbered plan.nodes v ≡ Some node → slice_get node.inputs p ≡ Some input → (key : Option (List ℕ))
      → is_taken plan.sink key input (wires (drop input plan.nodes)) (drop input told_table) ≡ taken_by plan.sink node.op p (told_by v node.op) key
  taken v node p input e h None = refl
  taken v node p input e h (Some key) =
      let a = s.among plan.nodes v node e in
      let there = (s.input_there plan shape laws.shaped v node p input e h).1 in
      let n = a.place - input in
      let number : input + n ≡ a.place = let l = there.2 in let k = a.number in omega arith in
      let own : slice_get (drop input told_table) n ≡ Some (told_by v node.op) = drop_at told_table input n ∙ ap (slice_get told_table) number ∙ told_there v node e a in
      taken_is plan.sink key input (drop input plan.nodes) (drop input told_table) n node (told_by v node.op) (only_behind input plan.nodes a.place n node number (s.consumes plan shape laws.shaped v node p input e h a)) own
      ∙ ap (λ port. takes plan.sink node.op port (told_by v node.op) key) (port_is input node.inputs p h (λ q j. s.port_once plan shape laws.shaped v node p q input e h j))

  pub exchanged : (v : ℕ) (node : Node) (p input : ℕ) → numbered plan.nodes v ≡ Some node → slice_get node.inputs p ≡ Some input
      → (output_at plan input).edge.exchange ≡ by_columns (asked node.op p)
  exchanged v node p input e h =
      let a = s.among plan.nodes v node e in
      let there = (s.input_there plan shape laws.shaped v node p input e h).1 in
      let edge = edge_there input there.0 there.1 in
      let its : item plan.edges input ≡ Some edge.0 = alike plan.edges input ∙ edge.1 in
      let is : consumer input plan.nodes ≡ Some node = consumer_is input plan.nodes a.place node (s.consumes plan shape laws.shaped v node p input e h a) in
      let has : same_exchange (by_columns (asked node.op (port_of input node.inputs))) edge.0.exchange ≡ true =
      sym (λ k. says_exchange (exchange_by input (is k)) (its k)) ∙ met rule.Exchanged input there.0 there.1 in
      ap (λ (x : PlanEdge). x.exchange) (ap edge_or edge.1) ∙ sym (exchange_same (by_columns (asked node.op (port_of input node.inputs))) edge.0.exchange has)
      ∙ ap (λ port. by_columns (asked node.op port)) (port_is input node.inputs p h (λ q j. s.port_once plan shape laws.shaped v node p q input e h j))

  no_consumer : (v : ℕ) (later : List Node) → ((n : ℕ) (node : Node) → slice_get later n ≡ Some node → is_input v node.inputs ≡ false) → consumer v later ≡ None
  no_consumer v [] h = refl
  no_consumer v (node ∷ later) h = ap (λ b. cond b (Some node) (consumer v later)) (h 0 node refl) ∙ no_consumer v later (λ n other e. h (suc n) other e)

  -- a node without a consumer goes to no other
  pub forwards_alone : (v : ℕ) (node : Node) → numbered plan.nodes v ≡ Some node → consumer v plan.nodes ≡ None → (output_at plan v).edge.exchange ≡ Forward
  forwards_alone v node e none =
      let edge = edge_there v node e in
      let its : item plan.edges v ≡ Some edge.0 = alike plan.edges v ∙ edge.1 in
      let has : same_exchange Forward edge.0.exchange ≡ true = sym (λ k. says_exchange (exchange_by v (none k)) (its k)) ∙ met rule.Exchanged v node e in
      ap (λ (x : PlanEdge). x.exchange) (ap edge_or edge.1) ∙ sym (exchange_same Forward edge.0.exchange has)

  -- such is the last
  pub forwards_last : (v : ℕ) (node : Node) → numbered plan.nodes v ≡ Some node → v ≡ length plan.nodes → (output_at plan v).edge.exchange ≡ Forward
  forwards_last v node e last = forwards_alone v node e (no_consumer v plan.nodes (λ n other f. has_it_not n other f))
    where
      has_it_not : (n : ℕ) (other : Node) → slice_get plan.nodes n ≡ Some other → is_input v other.inputs ≡ false
      has_it_not n other f =
          by_test (is_input v other.inputs)
          (λ t.
          let p = is_somewhere v other.inputs t in
          let there = (s.input_there plan shape laws.shaped (suc n) other p.0 v f p.1).1 in
          let few = within plan.nodes n other f in
          absurd (let k = there.2 in omega (arith, last)))
          (λ g. g)
