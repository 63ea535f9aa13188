-- A plan that isn't refused, with the materializer that its sink needs, is sound with what is inferred of it so.
use Rattle.std.specs.Prelude.{◌≡◌, ℕ, ◌+◌, ◌<◌, ◌≤◌, Bool, ◌||◌, cond, List, ◌++◌, length, slice_get, Option}
use Rattle.std.proofs.Common.{suc, true, false, [], ◌∷◌, refl, sym, ap, ◌∙◌, arith, Some, None, length-append}
use Rattle.std.specs.List.{AllByRecursion}
use Rattle.std.proofs.lemmas.Bool.{leb-false}
use Rattle.std.specs.Str.{bytes_eq}
use Rattle.std.proofs.lemmas.List.{length_push}
use Rattle.std.proofs.lemmas.Slice.Eq.{bytes_eq-Decides}
use Rattle.ct_value.specs.declared.ty.ColTy.{ColTy}
use Rattle.ct_change.specs.Kinds.{is_upsert}
use Rattle.ct_change.specs.Changelog.{retract, upsert, kinds_of}
use Rattle.ct_change.specs.declared.kind.Declared.{Declared}
use Rattle.ct_change.specs.declared.kind.Declared.TheVariants.{Upsert}
use Rattle.ct_change.specs.declared.update.Update.TheVariants.{Absent, Both}
use Rattle.ct_catalog.specs.declared.settings.Materialize.{Materialize}
use Rattle.rel_algebra.specs.Rel.{Rel}
use Rattle.phys_plan.specs.Columns.{columns_in}
use Rattle.phys_plan.specs.Reading.{at, numbered, wires}
use Rattle.phys_plan.specs.declared.edge.Edge.{Edge}
use Rattle.phys_plan.specs.declared.edge.Exchange.TheVariants.{Forward}
use Rattle.phys_plan.specs.declared.node.KeyInfo.{KeyInfo}
use Rattle.phys_plan.specs.declared.node.Node.{Node}
use Rattle.phys_plan.specs.declared.node.Op.TheVariants as op
use Rattle.phys_plan.specs.declared.plan.Plan.{Plan}
use Rattle.phys_plan.specs.declared.plan.Rule.TheVariants as rule
use Rattle.upsert_keys.specs.Keys.{keys}
use Rattle.upsert_keys.specs.Seen.{exchange_in}
use Rattle.mode_infer.specs.Kinds.{flow_of, no_flow}
use Rattle.mode_infer.specs.UpdateKeys.{input_width, update_key_of}
use Rattle.mode_infer.specs.declared.kinds.Flow.{Flow}
use Rattle.plan_inferred.specs.Ways.{holds_everywhere, holds_in_answers, tells_by}
use Rattle.plan_inferred.specs.Rules.{comes_by, comes_keyed, is_shown, suits_table, way_at, way_from}
use Rattle.plan_inferred.specs.declared.inferred.Inferred.{Inferred}
use Rattle.plan_inferred.specs.declared.ways.Way.TheVariants.{Forced, NewRows, Direct, Materialized, Refused}
use Rattle.plan_rules.specs.Pieces.{bare, shown, node_of, edge_of}
use Rattle.plan_shape.specs.Shape.{is_sink_key}
use Rattle.plan_shape.specs.Shaped.{ShapedPlansHaveShape}
use Rattle.plan_check.specs.Sound.{inferred_of, Meets, sent_columns}
use Rattle.plan_check.specs.Types.{all_types}
use Rattle.sound_plans.proofs.laws.Lists.{of_each, within}
use Rattle.sound_plans.proofs.laws.Shapes.{input_there}
use Rattle.laid_plans.specs.Shapes.{HasTreeShape, IsLaidWell, LaidPlansHaveShape}
use Rattle.laid_plans.proofs.laws.LaidTrees.{LaysOut}
use Rattle.laid_plans.proofs.laws.Placed.{lays_out_with}
use Rattle.laid_plans.proofs.laws.Same.{item_there}
use Rattle.planner.specs.Planned.{IsLaidPlan}
use Rattle.planner.specs.Refusals.{below_sink, has_materializer, is_forced, is_large_with, refusal, sink_way, way_into}
use Rattle.plan_laying.specs.Topped.{all_but_last, topped_plan}
use Rattle.planner.proofs.Refused.{below_is, both_true, fits, meets_sink_key, not_large}
use Rattle.planner.proofs.laws.Ahead.{IsAlike, columns_ahead, in_front, keys_ahead, read_many}
use Rattle.plan_laying.proofs.laws.LastEdges.{has_last}
use Rattle.planner.proofs.laws.Topped.{edges_ahead, laid_with}

-- ---- ways

-- behind a materializer a key of the rows below it holds
held_by : (tells everywhere answers : Bool) → has_materializer (cond tells NewRows (cond everywhere Direct (cond answers Materialized Refused))) ≡ true → (everywhere || answers) ≡ true
held_by true everywhere answers e = absurd (cc)
held_by false true answers e = refl
held_by false false true e = refl
held_by false false false e = absurd (cc)

held_forced : (everywhere answers : Bool) → has_materializer (cond (everywhere || answers) Forced Refused) ≡ true → (everywhere || answers) ≡ true
held_forced true answers e = refl
held_forced false true e = refl
held_forced false false e = absurd (cc)

held : (force : Bool) (key : List ℕ) (flow : Option Flow) (update_key : Option (Option (List ℕ))) (keys : Option KeyInfo) → has_materializer (way_from force key flow update_key keys) ≡ true
    → (own : KeyInfo) × (keys ≡ Some own) × ((holds_everywhere own key || holds_in_answers own key) ≡ true)
held force key None update_key keys e = absurd (cc)
held force key (Some flow) None keys e = absurd (cc)
held force key (Some flow) (Some update_key) None e = absurd (cc)
held true key (Some flow) (Some update_key) (Some own) e = (own, refl, held_forced (holds_everywhere own key) (holds_in_answers own key) e)
held false key (Some flow) (Some update_key) (Some own) e = (own, refl, held_by (tells_by flow.sent update_key key) (holds_everywhere own key) (holds_in_answers own key) e)

-- and where one does, a materializer shows what comes
shown_so : (key : List ℕ) (flow : Option Flow) (update_key : Option (Option (List ℕ))) (keys : Option KeyInfo) (f : Flow) (u : Option (List ℕ)) (own : KeyInfo) → flow ≡ Some f → update_key ≡ Some u → keys ≡ Some own
    → (holds_everywhere own key || holds_in_answers own key) ≡ true → is_shown (way_from true key flow update_key keys) ≡ true
shown_so key flow update_key keys f u own is_flow is_update is_key h =
    (λ i. is_shown (way_from true key (is_flow i) (is_update i) (is_key i))) ∙ ap (λ b. is_shown (cond b Forced Refused)) h

-- what comes over a materializer suits an upsert table by its key
suits_by : (inferred : Inferred) (nodes : List Node) (mode : Declared) (of_sink : Option (List ℕ)) (key : List ℕ) (input below : ℕ) (node : Node) → mode ≡ Upsert → of_sink ≡ Some key → numbered nodes input ≡ Some node
    → node.op ≡ op.Materialize key → node.inputs ≡ below ∷ [] → is_shown (way_at inferred true key below) ≡ true → suits_table inferred nodes mode of_sink input ≡ true
suits_by inferred nodes mode of_sink key input below node is_mode is_key there is_op over h =
    (λ i. suits_table inferred nodes (is_mode i) (is_key i) input) ∙ ap (comes_keyed inferred key input) there
    ∙ (λ i. comes_by inferred key input (is_op i) (over i)) ∙ h

-- a plan with one more node than less than 128
few_with : (nodes many : ℕ) (b : Bool) → b ≡ true → many ≡ nodes + 1 → is_large_with b nodes ≡ false → many ≤ 128
few_with nodes many true e one l = let few = leb-false 128 nodes l in omega (arith, few, one)
few_with nodes many false e one l = absurd (cc)

module _ (laid : Plan) (rel : Rel) (is : IsLaidPlan laid rel) (setting : Materialize) (key : List ℕ) (is_mode : laid.sink.mode ≡ Upsert) (is_key : laid.sink.key ≡ Some key) where
  abbrev topped : Plan
  topped = topped_plan (shown key) laid

  pub suits_sink : is_sink_key laid.sink key laid.sink.key ≡ true
  suits_sink =
      ap (is_sink_key laid.sink key) is_key
      ∙ both_true (is_upsert laid.sink.mode) (bytes_eq key key) (ap is_upsert is_mode) ((bytes_eq-Decides key key).1 refl)

  -- ---- the nodes of both plans

  abbrev own : LaysOut laid is.two_phase bare rel
  own = lays_out_with laid is.two_phase bare rel is.laid_out

  out : LaysOut topped is.two_phase (shown key) rel
  out = lays_out_with topped is.two_phase (shown key) rel (laid_with key laid rel is.two_phase is.laid_out)

  abbrev tree : List Node
  tree = all_but_last laid.nodes

  abbrev between : List Edge
  between = all_but_last laid.edges

  abbrev behind : List Node
  behind = node_of (op.Materialize key) (length tree ∷ []) ∷ (node_of op.Sink ((length tree + 1) ∷ []) ∷ [])

  abbrev told : List Edge
  told = edge_of Forward (kinds_of (upsert key)) Both ∷ (edge_of Forward (kinds_of retract) Absent ∷ [])

  last_node : (sink : Node) × (laid.nodes ≡ tree ++ sink ∷ [])
  last_node = has_last laid.nodes (let n = own.nodes in omega (arith, n))

  last_edge : (edge : Edge) × (laid.edges ≡ between ++ edge ∷ [])
  last_edge = has_last laid.edges (let n = own.edges in omega (arith, n))

  tree_count : length tree ≡ own.root
  tree_count = let all = ap length last_node.1 in let one = length_push tree last_node.0 in let n = own.nodes in omega (arith, all, one, n)

  edge_count : length between ≡ own.root
  edge_count = let all = ap length last_edge.1 in let one = length_push between last_edge.0 in let n = own.edges in omega (arith, all, one, n)

  -- one node more
  longer : length topped.nodes ≡ length laid.nodes + 1
  longer =
      let all : length topped.nodes ≡ length tree + 2 = length-append tree behind in
      let n = own.nodes in let c = tree_count in omega (arith, all, n, c)

  same_root : out.below ≡ own.root
  same_root =
      let more : out.root ≡ out.below + 1 = out.topped.0 in
      let all = longer in let n = own.nodes in let m = out.nodes in omega (arith, more, all, n, m)

  module _ (shapes : LaidPlansHaveShape) (shaped : ShapedPlansHaveShape) (accepted : refusal (inferred_of laid) laid setting ≡ None) (materialized : has_materializer (sink_way (inferred_of laid) laid setting) ≡ true) where
    well : IsLaidWell topped rel
    well = record {
      laid_out = record { two_phase = is.two_phase; top = shown key; suits = suits_sink; laid = laid_with key laid rel is.two_phase is.laid_out };
      columns = is.columns;
      typed = is.typed;
      unions = is.unions;
      fits = fits laid rel is setting accepted;
      tables = is.tables;
      few = few_with (length laid.nodes) (length topped.nodes) (has_materializer (sink_way (inferred_of laid) laid setting)) materialized longer (not_large laid rel is setting accepted);
      parallel = is.parallel;
      narrow = is.narrow;
      bundled = is.bundled;
    }

    pub has : HasTreeShape topped
    has = shapes topped rel well

    -- ---- the same keys are inferred of the tree's nodes

    there : (n : ℕ) (node : Node) → slice_get tree n ≡ Some node → numbered topped.nodes (suc n) ≡ Some node
    there n node e = in_front tree behind n (within tree n node e) ∙ e

    abbrev columns : ℕ → List ColTy
    columns = columns_in (sent_columns (all_types laid.sources (tree ++ last_node.0 ∷ [])))

    abbrev others : ℕ → List ColTy
    others = columns_in (sent_columns (all_types laid.sources (tree ++ behind)))

    abbrev Alike : ℕ → Type 0
    Alike = IsAlike columns others laid.edges topped.edges

    one_alike : (n : ℕ) (node : Node) → slice_get tree n ≡ Some node → (p input : ℕ) → slice_get node.inputs p ≡ Some input → Alike input
    one_alike n node e p input i =
        let low = input_there topped has.shape shaped (suc n) node p input (there n node e) i in
        let positive : 0 < input = low.0 in
        let before : input < suc n = low.1.2 in
        let l : n < length tree = within tree n node e in
        let c = tree_count in
        let d = edge_count in
        record {
          sent = columns_ahead laid.sources tree (last_node.0 ∷ []) behind input (omega (arith, before, l));
          exchanged = ap (λ (es : List Edge). exchange_in (numbered es input)) last_edge.1
              ∙ ap exchange_in (edges_ahead key between (last_edge.0 ∷ []) told input positive (omega (arith, before, l, c, d)));
        }

    alike : AllByRecursion (λ node. AllByRecursion Alike node.inputs) tree
    alike = of_each (λ (node : Node). AllByRecursion Alike node.inputs) tree (λ n node e. of_each Alike node.inputs (λ p input i. one_alike n node e p input i))

    same_keys : numbered (inferred_of laid).keys out.below ≡ numbered (inferred_of topped).keys out.below
    same_keys =
        let c = tree_count in
        let r = same_root in
        ap (λ (ns : List Node). numbered (keys (columns_in (sent_columns (all_types laid.sources ns))) laid.sources laid.edges (wires ns)) out.below) last_node.1
        ∙ keys_ahead columns others laid.edges topped.edges laid.sources tree (last_node.0 ∷ []) behind alike out.below (omega (arith, c, r))

    -- ---- what comes to the sink

    low : 0 < out.below
    low =
        let has_mat = out.topped.1 in
        (input_there topped has.shape shaped out.root has_mat.node 0 out.below has_mat.is_there (ap (λ (xs : List ℕ). slice_get xs 0) has_mat.inputs_are)).0

    high : out.below ≤ length topped.nodes
    high = let more : out.root ≡ out.below + 1 = out.topped.0 in let m = out.nodes in omega (arith, more, m)

    flow_there : (flow : Flow) × (numbered (inferred_of topped).flows out.below ≡ Some flow)
    flow_there =
        let all : length (inferred_of topped).flows ≡ 0 + length topped.nodes = read_many (λ w. flow_of laid.sources w.op) no_flow [] topped.nodes in
        let h = high in
        (at no_flow (inferred_of topped).flows out.below, item_there no_flow (inferred_of topped).flows out.below low (omega (arith, h, all)))

    update_key_there : (update_key : Option (List ℕ)) × (numbered (inferred_of topped).update_keys out.below ≡ Some update_key)
    update_key_there =
        let all : length (inferred_of topped).update_keys ≡ 0 + length topped.nodes =
        read_many (λ w. update_key_of (input_width (columns_in (inferred_of topped).columns) w.inputs) w.op) None [] topped.nodes in
        let h = high in
        (at None (inferred_of topped).update_keys out.below, item_there None (inferred_of topped).update_keys out.below low (omega (arith, h, all)))

    way_is : sink_way (inferred_of laid) laid setting ≡ way_at (inferred_of laid) (is_forced setting) key out.below
    way_is =
        let input : below_sink laid.nodes ≡ out.below = below_is laid rel is setting accepted ∙ sym same_root in
        λ i. way_into (inferred_of laid) (is_forced setting) (is_mode i) (is_key i) (input i)

    comes_shown : is_shown (way_at (inferred_of topped) true key out.below) ≡ true
    comes_shown =
        let before = inferred_of laid in
        let after = inferred_of topped in
        let h = held (is_forced setting) key (numbered before.flows out.below) (numbered before.update_keys out.below) (numbered before.keys out.below) (sym (ap has_materializer way_is) ∙ materialized) in
        let f = flow_there in
        let u = update_key_there in
        shown_so key (numbered after.flows out.below) (numbered after.update_keys out.below) (numbered after.keys out.below) f.0 u.0 h.0 f.1 u.1 (sym same_keys ∙ h.1) h.2

    pub sink_key : Meets rule.SinkKey topped
    sink_key =
        let has_mat = out.topped.1 in
        let sink = out.sink_node in
        meets_sink_key shaped topped has sink.node out.root (ap (numbered topped.nodes) out.nodes ∙ sink.is_there) sink.inputs_are
        (suits_by (inferred_of topped) topped.nodes laid.sink.mode laid.sink.key key out.root out.below has_mat.node is_mode is_key has_mat.is_there has_mat.is_op has_mat.inputs_are comes_shown)
