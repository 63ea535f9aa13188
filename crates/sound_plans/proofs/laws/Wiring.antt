-- A sound plan is wired, each of its nodes meets its facts, and what it prints folds to its sink's answer.
use Rattle.std.specs.Prelude.{◌≡◌, ℕ, ◌<◌, ◌≤◌, ◌⊎◌, ◌==◌, cond, List, length, map, slice_get, Option, option_map}
use Rattle.std.proofs.Common.{suc, true, [], ◌∷◌, refl, sym, ap, subst, ◌∙◌, arith, Some, None, inl, inr}
use Rattle.std.proofs.lemmas.Bool.{eqb-true}
use Rattle.std.specs.List.{Contains}
use Rattle.ct_change.specs.Changelog.{Mode, append, retract, upsert, has}
use Rattle.ct_change.specs.declared.update.Update.{Update}
use Rattle.ct_change.specs.declared.update.Update.TheVariants.{Absent, After, Both}
use Rattle.op_rules.specs.Edges.{Edge, forward, meaning_of, partials, IsKeyedBy, IsPartial}
use Rattle.op_rules.specs.Tasks.{Facts}
use Rattle.phys_plan.specs.declared.edge.Edge.{Edge as PlanEdge}
use Rattle.phys_plan.specs.declared.edge.Exchange.TheVariants.{Forward, Hash}
use Rattle.phys_plan.specs.declared.node.KeyInfo.{KeyInfo}
use Rattle.phys_plan.specs.declared.node.Node.{Node}
use Rattle.phys_plan.specs.declared.node.Op.{Op}
use Rattle.phys_plan.specs.declared.node.Op.TheVariants as op
use Rattle.phys_plan.specs.declared.plan.Plan.{Plan}
use Rattle.stream_model.specs.Tables.{Table}
use Rattle.stream_model.specs.Network.{task, ScanFacts, MeetsFacts}
use Rattle.stream_model.specs.Theorem.{PrintedFolds}
use Rattle.mode_infer.specs.Updates.{is_input}
use Rattle.plan_inferred.specs.Rules.{consumer}
use Rattle.plan_rules.proofs.laws.ChangeFits.{fits_keyed}
use Rattle.phase_rules.specs.LocalGrouping.{partials_of}
use Rattle.column_sets.specs.Places.{first_columns}
use Rattle.upsert_keys.specs.Keys.{keys_of}
use Rattle.plan_rules.specs.Around.{local_of}
use Rattle.plan_rules.specs.Phases.{meaning_sent}
use Rattle.plan_rules.specs.Plans.{inputs_in, keys_in, local_in, scan_of, scan_in, meaning_by, meaning_in, exchange_in, exchange_of, table_of, HasShape, FitsShape, PlansAreWired}
use Rattle.phys_plan.specs.Reading.{no_keys, numbered}
use Rattle.ct_catalog.specs.Columns.{table_mode}
use Rattle.plan_rules.specs.Columns.{columns_at}
use Rattle.plan_rules.specs.Answers.{PlansAnswerAsErased}
use Rattle.plan_rules.proofs.laws.Behaviours.{scans_open}
use Rattle.plan_rules.specs.Behaviours.{behaviour, TakesBy}
use Rattle.plan_rules.specs.Doings.{around_of, doing_by, doing_in, network}
use Rattle.plan_shape.specs.Shape.{takes as ports_of}
use Rattle.plan_shape.specs.Shaped.{MeetsShape}
use Rattle.sound_plans.specs.Outputs.{around_by, seen}
use Rattle.sound_plans.specs.Sound.{IsRuled, SoundPlansAreWired, SoundPlansMeetFacts, SoundNodesHaveColumns, SoundPlansAnswer, SoundPortsTake, SoundPlansPrint}
use Rattle.sound_plans.proofs.laws.Lists.{is_somewhere, same_number, the_same}
use Rattle.sound_plans.proofs.laws.Consumers.{by_test}
use Rattle.sound_plans.specs.Promises.{Laws}
use Rattle.sound_plans.proofs.laws.Agreed as a
use Rattle.sound_plans.proofs.laws.Local as l
use Rattle.sound_plans.proofs.laws.Shapes as s
use Rattle.sound_plans.proofs.laws.Sinks.{sinks_fit}
use Rattle.sound_plans.proofs.laws.Outputs.{edge_or, keys_or, local_at, output_at, printed_is}
use Rattle.sound_plans.proofs.laws.Stands.{IsScanNode, IsWorker, edge_at, grouping_there, sends_rows, sink_is}
use Rattle.sound_plans.proofs.laws.EachNode.{node_stands, proper_inputs}

-- the consumer of an edge is a node that has it among its inputs
consumer_there : (v : ℕ) (nodes : List Node) (node : Node) → consumer v nodes ≡ Some node → (n : ℕ) × (slice_get nodes n ≡ Some node) × (is_input v node.inputs ≡ true)
consumer_there v [] node e = absurd (cc)
consumer_there v (first ∷ nodes) node e =
    by_test (is_input v first.inputs)
    (λ t.
    let same : first ≡ node = the_same first node (sym (ap (λ b. cond b (Some first) (consumer v nodes)) t) ∙ e) in
    (0, ap (λ x. Some x) same, sym (ap (λ (x : Node). is_input v x.inputs) same) ∙ t))
    (λ f. let later = consumer_there v nodes node (sym (ap (λ b. cond b (Some first) (consumer v nodes)) f) ∙ e) in (suc later.0, later.1, later.2))

-- an edge that isn't spread keeps each key in one channel
forward_keyed : (mode : Mode) → IsKeyedBy (meaning_of mode) forward
forward_keyed append = tt
forward_keyed retract = tt
forward_keyed (upsert key) = tt

module _ (laws : Laws) (plan : Plan) (ruled : IsRuled plan) where
  meets : MeetsShape plan
  meets = a.meets laws plan ruled

  shape : HasShape plan
  shape = s.shape plan meets laws.shaped

  -- ---- the shape

  keyed_inner : (v : ℕ) (node : Node) → numbered plan.nodes v ≡ Some node → IsKeyedBy (meaning_by (output_at plan v).edge.update) (exchange_of (output_at plan v).edge.exchange)
  keyed_inner v node e = go (consumer v plan.nodes) refl
    where
      go : (o : Option Node) → consumer v plan.nodes ≡ o → IsKeyedBy (meaning_by (output_at plan v).edge.update) (exchange_of (output_at plan v).edge.exchange)
      go None none =
          subst (λ x. IsKeyedBy (meaning_by (output_at plan v).edge.update) (exchange_of x)) (sym (l.forwards_alone laws plan ruled v node e none)) (a.any_forward_keyed (output_at plan v).edge.update)
      go (Some above) is =
          let has = consumer_there v plan.nodes above is in
          let p = is_somewhere v above.inputs has.2 in
          a.keyed_at laws plan ruled (suc has.0) above p.0 v has.1 p.1 (node_stands laws plan ruled v node e).proper (proper_inputs laws plan ruled (suc has.0) above has.1)

  -- partial rows go by the key columns
  keyed_parts : (v : ℕ) (node : Node) → numbered plan.nodes v ≡ Some node → s.sends_parts node.op ≡ true → IsKeyedBy (meaning_sent (local_at plan v) (meaning_in (numbered plan.edges v))) (exchange_in (numbered plan.edges v))
  keyed_parts v node e t =
      let local = s.is_local node.op t in
      let i = a.one_input laws plan ruled v node e (λ n. ap (λ x. ports_of x n) local.2) in
      let agrees = a.local_agrees laws plan ruled v node local.0 local.1 i.0 e local.2 i.1 (a.under_there laws plan ruled v node local.0 local.1 e local.2) (proper_inputs laws plan ruled v node e) in
      let goes : exchange_in (numbered plan.edges v) ≡ exchange_of (Hash (first_columns local.0)) = exchanged (numbered plan.edges v) ∙ ap exchange_of agrees.exchanged in
      subst (λ x. IsKeyedBy (meaning_sent x (meaning_in (numbered plan.edges v))) (exchange_in (numbered plan.edges v))) (sym (grouping_there laws plan ruled v node local.0 local.1 i.0 e local.2 i.1))
      (subst (λ x. IsKeyedBy (partials (partials_of (local_of local.0 local.1 (around_by plan.sink (output_at plan i.0 ∷ []) (output_at plan v))))) x) (sym goes) refl)
    where
      exchanged : (o : Option PlanEdge) → exchange_in o ≡ exchange_of (edge_or o).exchange
      exchanged None = refl
      exchanged (Some edge) = refl

  keyed_edge : (v : ℕ) → IsKeyedBy (meaning_sent (local_at plan v) (meaning_in (numbered plan.edges v))) (exchange_in (numbered plan.edges v))
  keyed_edge v = go (numbered plan.nodes v) refl
    where
      told : (o : Option PlanEdge) → IsKeyedBy (meaning_by (edge_or o).update) (exchange_of (edge_or o).exchange) → IsKeyedBy (meaning_in o) (exchange_in o)
      told None h = tt
      told (Some edge) h = h

      rows : local_at plan v ≡ None → IsKeyedBy (meaning_in (numbered plan.edges v)) (exchange_in (numbered plan.edges v)) → IsKeyedBy (meaning_sent (local_at plan v) (meaning_in (numbered plan.edges v))) (exchange_in (numbered plan.edges v))
      rows none h = subst (λ x. IsKeyedBy (meaning_sent x (meaning_in (numbered plan.edges v))) (exchange_in (numbered plan.edges v))) (sym none) h

      go : (o : Option Node) → numbered plan.nodes v ≡ o → IsKeyedBy (meaning_sent (local_at plan v) (meaning_in (numbered plan.edges v))) (exchange_in (numbered plan.edges v))
      go (Some node) e =
          by_test (s.sends_parts node.op) (λ t. keyed_parts v node e t) (λ n. rows (sends_rows laws plan ruled v node e n) (told (numbered plan.edges v) (keyed_inner v node e)))
      go None e =
          rows (ap (local_in (columns_at plan.sources plan.nodes) plan) e) (subst (λ (o : Option PlanEdge). IsKeyedBy (meaning_in o) (exchange_in o)) (sym (s.no_edge plan meets laws.shaped v e)) tt)

  -- they have no keys
  no_parts : (m : Mode) → IsPartial (meaning_of m) → ⊥
  no_parts append z = z
  no_parts retract z = z
  no_parts (upsert key) z = z

  no_edge_parts : (o : Option PlanEdge) → IsPartial (meaning_in o) → ⊥
  no_edge_parts None z = z
  no_edge_parts (Some edge) z = go edge.update z
    where
      go : (update : Update) → IsPartial (meaning_by update) → ⊥
      go Absent z = z
      go (After key) z = z
      go Both z = z

  abbrev Unkeyed : ℕ → Option Node → Type 0
  Unkeyed v o = (key : List ℕ) → Contains (keys_in (λ node. node.keys.local) o) key → ⊥

  unkeyed_edge : (v : ℕ) → IsPartial (meaning_sent (local_at plan v) (meaning_in (numbered plan.edges v))) → Unkeyed v (numbered plan.nodes v)
  unkeyed_edge v z = go (numbered plan.nodes v) refl
    where
      nothing : (key : List ℕ) → Contains {X = List ℕ} [] key → ⊥
      nothing key c = let few = c.1 in omega (arith, few)

      rows : local_at plan v ≡ None → ⊥
      rows none = no_edge_parts (numbered plan.edges v) (subst (λ x. IsPartial (meaning_sent x (meaning_in (numbered plan.edges v)))) none z)

      go : (o : Option Node) → numbered plan.nodes v ≡ o → Unkeyed v o
      go None e key c = nothing key c
      go (Some node) e key c =
          by_test (s.sends_parts node.op)
          (λ t.
          let local = s.is_local node.op t in
          let none : (output_at plan v).keys ≡ no_keys = l.keys_are laws plan ruled v node e ∙ ap (λ x. keys_of plan.sources x (map seen (map (output_at plan) node.inputs))) local.2 in
          let held : (output_at plan v).keys ≡ node.keys = ap keys_or e in
          nothing key (subst (λ (k : KeyInfo). Contains k.local key) (sym held ∙ none) c))
          (λ n. absurd (rows (sends_rows laws plan ruled v node e n)))

  unkeyed : (v : ℕ) → IsPartial (cond (v == length plan.nodes) (meaning_of (table_mode plan.sink)) (meaning_sent (local_at plan v) (meaning_in (numbered plan.edges v)))) → Unkeyed v (numbered plan.nodes v)
  unkeyed v z =
      by_test (v == length plan.nodes)
      (λ t. absurd (no_parts (table_mode plan.sink) (subst (λ b. IsPartial (cond b (meaning_of (table_mode plan.sink)) (meaning_sent (local_at plan v) (meaning_in (numbered plan.edges v))))) t z)))
      (λ f. unkeyed_edge v (subst (λ b. IsPartial (cond b (meaning_of (table_mode plan.sink)) (meaning_sent (local_at plan v) (meaning_in (numbered plan.edges v))))) f z))

  last_node : (node : Node) × (numbered plan.nodes (length plan.nodes) ≡ Some node) × (node.op ≡ op.Sink)
  last_node =
      let n = shape.last in
      (n.0, n.1, s.sink_op n.0.op (s.last_sinks plan meets laws.shaped (length plan.nodes) n.0 n.1 refl))

  opens : (v j : ℕ) → length plan.nodes ≤ v → (o : Option Node) → numbered plan.nodes v ≡ o → (doing_in plan v o).opening j ≡ []
  opens v j h None e = refl
  opens v j h (Some node) e =
      let few = (s.among plan.nodes v node e).few in
      let last : v ≡ length plan.nodes = omega arith in
      let n = last_node in
      let same : node ≡ n.0 = the_same node n.0 (sym e ∙ ap (numbered plan.nodes) last ∙ n.1) in
      subst (λ (o : Op). (doing_by o (around_of plan v node.inputs)).opening j ≡ []) (sym (ap (λ (x : Node). x.op) same ∙ n.2)) refl

  scan_opens : (v source j : ℕ) (o : Option Node) → scan_in o ≡ Some source → (doing_in plan v o).opening j ≡ []
  scan_opens v source j None e = absurd (cc)
  scan_opens v source j (Some node) e = scans_open node.op (around_of plan v node.inputs) source j e

  -- the sink's edge goes to no other node
  keyed_last : IsKeyedBy (meaning_of (table_mode plan.sink)) (exchange_in (numbered plan.edges (length plan.nodes)))
  keyed_last =
      let n = last_node in
      let edge = l.edge_there laws plan ruled (length plan.nodes) n.0 n.1 in
      let goes : (edge_or (numbered plan.edges (length plan.nodes))).exchange ≡ Forward = l.forwards_last laws plan ruled (length plan.nodes) n.0 n.1 refl in
      let is : exchange_in (numbered plan.edges (length plan.nodes)) ≡ forward = ap exchange_in edge.1 ∙ ap exchange_of (sym (ap (λ o. (edge_or o).exchange) edge.1) ∙ goes) in
      subst (λ x. IsKeyedBy (meaning_of (table_mode plan.sink)) x) (sym is) (forward_keyed (table_mode plan.sink))

  keyed : (v : ℕ) → IsKeyedBy (cond (v == length plan.nodes) (meaning_of (table_mode plan.sink)) (meaning_sent (local_at plan v) (meaning_in (numbered plan.edges v)))) (exchange_in (numbered plan.edges v))
  keyed v =
      by_test (v == length plan.nodes)
      (λ t.
      let last : v ≡ length plan.nodes = eqb-true v (length plan.nodes) t in
      subst (λ b. IsKeyedBy (cond b (meaning_of (table_mode plan.sink)) (meaning_sent (local_at plan v) (meaning_in (numbered plan.edges v)))) (exchange_in (numbered plan.edges v))) (sym t)
      (subst (λ n. IsKeyedBy (meaning_of (table_mode plan.sink)) (exchange_in (numbered plan.edges n))) (sym last) keyed_last))
      (λ f. subst (λ b. IsKeyedBy (cond b (meaning_of (table_mode plan.sink)) (meaning_sent (local_at plan v) (meaning_in (numbered plan.edges v)))) (exchange_in (numbered plan.edges v))) (sym f) (keyed_edge v))

  fits : FitsShape (columns_at plan.sources plan.nodes) (λ v. doing_in plan v (numbered plan.nodes v)) plan
  fits = record {
    scans_open = λ v source j e. scan_opens v source j (numbered plan.nodes v) e;
    opens = λ v j h. opens v j h (numbered plan.nodes v) refl;
    keyed = keyed;
    unkeyed = unkeyed;
  }

  -- ---- facts

  facts_at : (v : ℕ) (o : Option Node) → numbered plan.nodes v ≡ o → 0 < length (inputs_in o) → Facts (task (network plan) v)
  facts_at v None e h = absurd (omega arith)
  facts_at v (Some node) e h = go (node_stands laws plan ruled v node e).works
    where
      go : IsScanNode laws plan ruled v node ⊎ IsWorker laws plan ruled v node → Facts (task (network plan) v)
      go (inl n) = absurd (let none : length node.inputs ≡ 0 = ap length n.no_inputs in omega arith)
      go (inr w) = w.stands.0

  scan_facts : (v source : ℕ) (t : Table) (o : Option Node) → numbered plan.nodes v ≡ o → scan_in o ≡ Some source → option_map (table_of plan.parallelism) (slice_get plan.sources source) ≡ Some t
      → ScanFacts plan.parallelism t (edge_at laws plan ruled v)
  scan_facts v source t None e h has = absurd (cc)
  scan_facts v source t (Some node) e h has = go (node_stands laws plan ruled v node e).works
    where
      go : IsScanNode laws plan ruled v node ⊎ IsWorker laws plan ruled v node → ScanFacts plan.parallelism t (edge_at laws plan ruled v)
      go (inl n) =
          let same : n.source ≡ source = the_same n.source source (sym n.scans ∙ h) in
          let one : table_of plan.parallelism n.table ≡ t = the_same (table_of plan.parallelism n.table) t (ap (option_map (table_of plan.parallelism)) (sym n.is_table ∙ ap (slice_get plan.sources) same) ∙ has) in
          subst (λ (u : Table). ScanFacts plan.parallelism u (edge_at laws plan ruled v)) one n.facts
      go (inr w) = absurd (let clash : None ≡ Some source = sym w.no_scan ∙ h in cc)

  meets_facts : MeetsFacts (network plan)
  meets_facts = record {
    facts = λ v h. facts_at v (numbered plan.nodes v) refl h;
    scans = λ v source t h has. scan_facts v source t (numbered plan.nodes v) refl h has;
  }

  takes : (v : ℕ) (node : Node) → numbered plan.nodes v ≡ Some node → scan_of node.op ≡ None → TakesBy (behaviour node.op (around_of plan v node.inputs)) (task (network plan) v)
  takes v node e h = go (node_stands laws plan ruled v node e).works
    where
      go : IsScanNode laws plan ruled v node ⊎ IsWorker laws plan ruled v node → TakesBy (behaviour node.op (around_of plan v node.inputs)) (task (network plan) v)
      go (inl n) = absurd (let clash : None ≡ Some n.source = sym h ∙ n.scans in cc)
      go (inr w) = w.stands.1

-- a sink sends rows
pub sink_sends_rows : Laws → (plan : Plan) → IsRuled plan → local_at plan (length plan.nodes) ≡ None
sink_sends_rows laws plan ruled = let n = last_node laws plan ruled in sends_rows laws plan ruled (length plan.nodes) n.0 n.1 (ap s.sends_parts n.2)

pub sound_plans_are_wired : Laws → PlansAreWired → SoundPlansAreWired
sound_plans_are_wired laws wired plan ruled = wired (columns_at plan.sources plan.nodes) (λ v. doing_in plan v (numbered plan.nodes v)) plan (shape laws plan ruled) (fits laws plan ruled)

pub sound_plans_meet_facts : Laws → SoundPlansMeetFacts
sound_plans_meet_facts laws plan ruled = meets_facts laws plan ruled

pub sound_ports_take : Laws → SoundPortsTake
sound_ports_take laws plan ruled v node e h = takes laws plan ruled v node e h

pub sound_plans_answer : Laws → PlansAnswerAsErased → SoundPlansAnswer
sound_plans_answer laws answers plan ruled rows v result a =
    answers plan (record { shape = shape laws plan ruled; takes = λ v node e. (s.told plan (meets laws plan ruled) laws.shaped v node e).ports; rules = ruled.rules }) rows v result a

pub sound_nodes_have_columns : Laws → SoundNodesHaveColumns
sound_nodes_have_columns laws plan ruled v some most =
    let node = s.node_there plan.nodes v some most in (columns_at plan.sources plan.nodes v, (l.columns_are laws plan ruled v node.0 node.1).1)

pub sound_plans_print : Laws → PlansAreWired → PrintedFolds → SoundPlansPrint
sound_plans_print laws wired printed plan ruled limit items typed =
    let n = last_node laws plan ruled in
    let sink = sink_is laws plan ruled (length plan.nodes) n.0 n.1 n.2 (proper_inputs laws plan ruled (length plan.nodes) n.0 n.1) in
    let last = printed_is plan (length plan.nodes) (same_number (length plan.nodes)) (sends_rows laws plan ruled (length plan.nodes) n.0 n.1 (ap s.sends_parts n.2)) in
    printed (network plan) (sound_plans_are_wired laws wired plan ruled) (meets_facts laws plan ruled) (table_mode plan.sink)
    (ap (λ (x : Edge). x.meaning) last)
    (λ kind h. (sinks_fit plan.parallelism plan.sink (output_at plan sink.0) (output_at plan (length plan.nodes)) sink.2).2 kind (subst (λ (x : Edge). has x.kinds kind ≡ true) last h))
    (λ change a h. fits_keyed (table_mode plan.sink) (output_at plan (length plan.nodes)).columns change (subst (λ (x : Edge). x.fits change ≡ true) last h))
    limit items typed
