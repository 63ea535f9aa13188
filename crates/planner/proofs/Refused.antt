-- A plan that isn't refused and has no materializer is sound with what is inferred of it.
use Rattle.std.specs.Prelude.{◌≡◌, ℕ, ◌+◌, ◌<◌, ◌≤◌, ◌==◌, Bool, ◌&&◌, ◌||◌, not, cond, List, length, slice_get, Option}
use Rattle.std.proofs.Common.{zero, suc, true, false, [], ◌∷◌, refl, sym, ap, ◌∙◌, arith, Some, None}
use Rattle.std.specs.List.{list_all, list_any}
use Rattle.std.proofs.lemmas.Bool.{eqb-true, eqb-false, ltb-false}
use Rattle.ct_value.specs.declared.codes.ScriptCode.{ScriptCode}
use Rattle.ct_change.specs.declared.kind.Declared.{Declared}
use Rattle.ct_change.specs.declared.kind.Declared.TheVariants.{Append, Retract, Upsert}
use Rattle.ct_catalog.specs.declared.settings.Materialize.{Materialize}
use Rattle.ct_catalog.specs.declared.table.TableDef.{TableDef}
use Rattle.phys_plan.specs.declared.edge.Exchange.TheVariants.{Forward}
use Rattle.phys_plan.specs.declared.node.KeyInfo.{KeyInfo}
use Rattle.phys_plan.specs.declared.node.Node.{Node}
use Rattle.phys_plan.specs.declared.node.Op.{Op}
use Rattle.phys_plan.specs.declared.node.Op.TheVariants as op
use Rattle.phys_plan.specs.declared.plan.Plan.{Plan}
use Rattle.phys_plan.specs.declared.plan.Rule.TheVariants as rule
use Rattle.rel_algebra.specs.Rel.{Rel}
use Rattle.phys_plan.specs.Reading.{numbered as item, numbered, first_input}
use Rattle.phys_plan.specs.Columns.{columns_in}
use Rattle.mode_infer.specs.declared.kinds.Flow.{Flow}
use Rattle.mode_infer.specs.declared.modes.EdgeMode.{EdgeMode}
use Rattle.plan_inferred.specs.declared.ways.Way.{Way}
use Rattle.plan_inferred.specs.declared.ways.Way.TheVariants.{Forced, NewRows, Direct, Materialized, Refused}
use Rattle.plan_inferred.specs.Ways.{forced_way, holds_everywhere, holds_in_answers}
use Rattle.plan_inferred.specs.declared.inferred.Inferred.{Inferred}
use Rattle.plan_inferred.specs.Rules.{comes_by, comes_keyed, fills, fills_sink, inserts_alone, is_direct, suits_sink, suits_table, way_at, way_from}
use Rattle.ct_catalog.specs.Columns.{column_types}
use Rattle.plan_shape.specs.Shape.{is_sink}
use Rattle.plan_shape.specs.Shaped.{ShapedPlansHaveShape}
use Rattle.plan_shape.specs.Tables.{is_declarable}
use Rattle.plan_check.specs.Sound.{inferred_of, Meets}
use Rattle.rel_algebra.specs.GoesInto.{go_into}
use Rattle.plan_check.specs.Types.{fit_sink, keep_nulls, types_at}
use Rattle.planner.specs.Refusals.{below_sink, brings_null, changes_rows, has_materializer, inputs_in, is_forced, is_large, is_large_with, is_refused, or_else, refusal, sink_way, tells_more, way_into}
use Rattle.plan_rules.specs.Pieces.{bare}
use Rattle.sound_plans.proofs.laws.Agreed.{materializes}
use Rattle.sound_plans.proofs.laws.Columns.{inferred_columns}
use Rattle.sound_plans.proofs.laws.Consumers.{by_test}
use Rattle.sound_plans.proofs.laws.Lists.{both, the_same}
use Rattle.sound_plans.proofs.laws.Local.{alike}
use Rattle.sound_plans.proofs.laws.Shapes.{among, inner_no_sink, node_there}
use Rattle.laid_plans.specs.Shapes.{HasTreeShape, IsLaidWell, LaidPlansHaveShape}
use Rattle.laid_plans.proofs.laws.LaidTrees.{LaysOut}
use Rattle.laid_plans.proofs.laws.Placed.{lays_out_with}
use Rattle.laid_plans.proofs.laws.Trees.{tree}
use Rattle.planner.proofs.laws.Topped.{root_other}
use Rattle.planner.specs.Planned.{IsLaidPlan}

-- ---- no refusal

passed : (refused : Bool) (code : ScriptCode) (later : Option ScriptCode) → or_else refused code later ≡ None → (refused ≡ false) × (later ≡ None)
passed true code later e = absurd (cc)
passed false code later e = (refl, e)

denied : (a : Bool) → not a ≡ false → a ≡ true
denied true e = refl
denied false e = absurd (cc)

none_passes : {A : Type 0} (test : A → Bool) (xs : List A) → list_any test xs ≡ false → (n : ℕ) (x : A) → slice_get xs n ≡ Some x → test x ≡ false
none_passes test [] e n x i = absurd (cc)
none_passes test (y ∷ xs) e n x i = go (test y) refl n i e (λ f m j. none_passes test xs f m x j)
  where
    go : (b : Bool) → test y ≡ b → (m : ℕ) → slice_get (y ∷ xs) m ≡ Some x → list_any test (y ∷ xs) ≡ false → (list_any test xs ≡ false → (k : ℕ) → slice_get xs k ≡ Some x → test x ≡ false) → test x ≡ false
    go true is m j f later = absurd (let t : true ≡ false = sym (ap (λ b. b || list_any test xs) is) ∙ f in cc)
    go false is zero j f later = ap test (sym (the_same y x j)) ∙ is
    go false is (suc m) j f later = later (sym (ap (λ b. b || list_any test xs) is) ∙ f) m j

-- inserts alone come over each edge
alone_at : (modes : List EdgeMode) (v : ℕ) → list_any tells_more modes ≡ false → inserts_alone (item modes v) ≡ true
alone_at modes zero e = refl
alone_at modes (suc n) e = go (slice_get modes n) refl
  where
    go : (o : Option EdgeMode) → slice_get modes n ≡ o → inserts_alone o ≡ true
    go None i = refl
    go (Some mode) i = ap not (none_passes tells_more modes e n mode i)

-- ---- ways

-- one that isn't refused, and without a materializer, is direct
goes_direct : (way : Way) → is_refused way ≡ false → has_materializer way ≡ false → is_direct way ≡ true
goes_direct Forced r m = absurd (cc)
goes_direct NewRows r m = refl
goes_direct Direct r m = refl
goes_direct Materialized r m = absurd (cc)
goes_direct Refused r m = absurd (cc)

forced_is_not_direct : (sink : List ℕ) (keys : KeyInfo) → is_direct (forced_way sink keys) ≡ false
forced_is_not_direct sink keys = go (holds_everywhere keys sink) (holds_in_answers keys sink)
  where
    go : (a b : Bool) → is_direct (cond (a || b) Forced Refused) ≡ false
    go true b = refl
    go false true = refl
    go false false = refl

-- where a materializer is asked for, nothing goes direct
asked_is_not_direct : (key : List ℕ) (flow : Option Flow) (update_key : Option (Option (List ℕ))) (keys : Option KeyInfo) → is_direct (way_from true key flow update_key keys) ≡ false
asked_is_not_direct key None update_key keys = refl
asked_is_not_direct key (Some flow) None keys = refl
asked_is_not_direct key (Some flow) (Some update_key) None = refl
asked_is_not_direct key (Some flow) (Some update_key) (Some keys) = forced_is_not_direct key keys

unforced : (inferred : Inferred) (force : Bool) (key : List ℕ) (input : ℕ) → is_direct (way_at inferred force key input) ≡ true → is_direct (way_at inferred false key input) ≡ true
unforced inferred false key input e = e
unforced inferred true key input e = absurd (let n : true ≡ false = sym e ∙ asked_is_not_direct key (item inferred.flows input) (item inferred.update_keys input) (item inferred.keys input) in cc)

-- a node that is no materializer
comes_direct : (inferred : Inferred) (key : List ℕ) (input : ℕ) (o : Op) (inputs : List ℕ) → materializes o ≡ false → comes_by inferred key input o inputs ≡ is_direct (way_at inferred false key input)
comes_direct inferred key input (op.Materialize shown) inputs r = absurd (cc)
comes_direct inferred key input _ inputs r = refl

-- what comes to a table suits it
suits : (inferred : Inferred) (nodes : List Node) (mode : Declared) (key : Option (List ℕ)) (force : Bool) (input : ℕ) (below : Node) → item nodes input ≡ Some below → materializes below.op ≡ false
    → changes_rows mode inferred.modes ≡ false → is_refused (way_into inferred force mode key input) ≡ false → has_materializer (way_into inferred force mode key input) ≡ false
    → suits_table inferred nodes mode key input ≡ true
suits inferred nodes Append key force input below e r c a m = alone_at inferred.modes input c
suits inferred nodes Retract key force input below e r c a m = refl
suits inferred nodes Upsert None force input below e r c a m = absurd (cc)
suits inferred nodes Upsert (Some key) force input below e r c a m =
    ap (comes_keyed inferred key input) e ∙ comes_direct inferred key input below.op below.inputs r
    ∙ unforced inferred force key input (goes_direct (way_at inferred force key input) a m)

-- ---- tables

each_declarable : (tables : List TableDef) (n : ℕ) (table : TableDef) → list_all is_declarable tables ≡ true → slice_get tables n ≡ Some table → is_declarable table ≡ true
each_declarable [] n table a e = absurd (cc)
each_declarable (first ∷ tables) zero table a e = ap is_declarable (sym (the_same first table e)) ∙ (both (is_declarable first) (list_all is_declarable tables) a).0
each_declarable (first ∷ tables) (suc n) table a e = each_declarable tables n table (both (is_declarable first) (list_all is_declarable tables) a).1 e

few_nodes : (n : ℕ) (m : Bool) → m ≡ false → is_large_with m n ≡ false → n ≤ 128
few_nodes n true e l = absurd (cc)
few_nodes n false e l = ltb-false 128 n l

pub both_true : (a b : Bool) → a ≡ true → b ≡ true → (a && b) ≡ true
both_true true b e f = f
both_true false b e f = absurd (cc)

-- ---- where what comes to the sink suits its table, the rule SinkKey is met

module _ (shaped : ShapedPlansHaveShape) (plan : Plan) (has : HasTreeShape plan) (sink : Node) (input : ℕ) (there : numbered plan.nodes (length plan.nodes) ≡ Some sink) (over : sink.inputs ≡ input ∷ [])
    (suits_it : suits_table (inferred_of plan) plan.nodes plan.sink.mode plan.sink.key input ≡ true) where
  -- a sink is the last node
  last : (v : ℕ) (node : Node) → numbered plan.nodes v ≡ Some node → node.op ≡ op.Sink → v ≡ length plan.nodes
  last v node e sinks =
      by_test (v == length plan.nodes) (λ t. eqb-true v (length plan.nodes) t)
      (λ f.
      let few = (among plan.nodes v node e).few in
      let apart = eqb-false v (length plan.nodes) f in
      absurd (let h = inner_no_sink plan has.shape shaped v node e (omega arith) in let k : true ≡ false = sym (ap (λ o. is_sink (Some o)) sinks) ∙ h in cc))

  filled : (v : ℕ) (node : Node) → numbered plan.nodes v ≡ Some node → (o : Op) → node.op ≡ o → fills (inferred_of plan) plan o node.inputs ≡ true
  filled v node e op.Sink sinks =
      let same : node ≡ sink = the_same node sink (sym e ∙ ap (numbered plan.nodes) (last v node e sinks) ∙ there) in
      ap (λ xs. suits_table (inferred_of plan) plan.nodes plan.sink.mode plan.sink.key (first_input xs)) (ap (λ (n : Node). n.inputs) same ∙ over) ∙ suits_it
  filled v node e _ sinks = refl

  pub meets_sink_key : Meets rule.SinkKey plan
  meets_sink_key v low most = go (numbered plan.nodes v) refl
    where
      go : (o : Option Node) → numbered plan.nodes v ≡ o → suits_sink (inferred_of plan) plan v ≡ true
      go None e = ap (fills_sink (inferred_of plan) plan) (alike plan.nodes v ∙ e)
      go (Some node) e = ap (fills_sink (inferred_of plan) plan) (alike plan.nodes v ∙ e) ∙ filled v node e node.op refl

-- ---- a plan that isn't refused

module _ (laid : Plan) (rel : Rel) (is : IsLaidPlan laid rel) (setting : Materialize) (accepted : refusal (inferred_of laid) laid setting ≡ None) where
  abbrev inferred : Inferred
  inferred = inferred_of laid

  abbrev way : Way
  way = sink_way (inferred_of laid) laid setting

  -- its nodes
  abbrev out : LaysOut laid is.two_phase bare rel
  out = lays_out_with laid is.two_phase bare rel is.laid_out

  abbrev root : ℕ
  root = out.root

  -- the tests of a refusal, none of which is so
  record Tests : Type 0 where
    mode : changes_rows laid.sink.mode inferred.modes ≡ false
    key : is_refused way ≡ false
    nulls : brings_null inferred laid ≡ false
    size : is_large laid way ≡ false

  tests : Tests
  tests =
      let a = passed _ _ _ accepted in
      let b = passed _ _ _ a.1 in
      let c = passed _ _ _ b.1 in
      let d = passed _ _ _ c.1 in
      let e = passed _ _ _ d.1 in
      let f = passed _ _ _ e.1 in
      record { mode = b.0; key = c.0; nulls = d.0; size = f.0 }

  pub not_large : is_large laid way ≡ false
  not_large = tests.size

  tables : (source : ℕ) (table : TableDef) → slice_get laid.sources source ≡ Some table → is_declarable table ≡ true
  tables source table e =
      let all = (both (list_all is_declarable (laid.sink ∷ laid.sources)) _ is.tables).0 in
      each_declarable laid.sources source table (both (is_declarable laid.sink) (list_all is_declarable laid.sources) all).1 e

  types : types_at laid.sources laid.nodes root ≡ Some is.columns
  types =
      let same : out.root ≡ out.below = out.topped in
      let high : out.below < length laid.nodes = let n = out.nodes in omega (arith, n, same) in
      ap (types_at laid.sources laid.nodes) same ∙ (tree laid is.two_phase tables rel 0 Forward out.below out.laid high is.unions is.columns is.typed).columns_are

  -- the node below the sink is the tree's root
  pub below_is : below_sink laid.nodes ≡ root
  below_is =
      let has = out.sink_node in
      ap (λ o. first_input (inputs_in o)) (alike laid.nodes (length laid.nodes) ∙ ap (numbered laid.nodes) out.nodes ∙ has.is_there) ∙ ap first_input has.inputs_are

  keeps : keep_nulls is.columns (column_types laid.sink) ≡ true
  keeps =
      let all : keep_nulls (columns_in inferred.columns (below_sink laid.nodes)) (column_types laid.sink) ≡ true = denied _ tests.nulls in
      let same : columns_in inferred.columns (below_sink laid.nodes) ≡ is.columns = ap (columns_in inferred.columns) below_is ∙ inferred_columns laid.sources laid.nodes root is.columns types in
      sym (ap (λ c. keep_nulls c (column_types laid.sink)) same) ∙ all

  -- its rows may go into the sink's table
  pub fits : fit_sink is.columns (column_types laid.sink) ≡ true
  fits = both_true (go_into is.columns (column_types laid.sink)) (keep_nulls is.columns (column_types laid.sink)) is.goes keeps

  module _ (shapes : LaidPlansHaveShape) (shaped : ShapedPlansHaveShape) (plain : has_materializer (sink_way (inferred_of laid) laid setting) ≡ false) where
    well : IsLaidWell laid rel
    well = record {
      laid_out = record { two_phase = is.two_phase; top = bare; suits = tt; laid = is.laid_out };
      columns = is.columns;
      typed = is.typed;
      unions = is.unions;
      fits = fits;
      tables = is.tables;
      few = few_nodes (length laid.nodes) (has_materializer way) plain tests.size;
      parallel = is.parallel;
      narrow = is.narrow;
      bundled = is.bundled;
    }

    pub has : HasTreeShape laid
    has = shapes laid rel well

    some_root : 0 < root
    some_root =
        let sink = out.sink_node in
        ((shaped laid has.shape).before (root + 1) 0 root (record { node = sink.node; is_node = sink.is_there; is_input = ap (λ (xs : List ℕ). slice_get xs 0) sink.inputs_are })).0

    root_is_other : (v : ℕ) (below : Node) → v ≡ root → numbered laid.nodes v ≡ Some below → materializes below.op ≡ false
    root_is_other zero below is_root e = absurd (let l = some_root in omega (arith, is_root))
    root_is_other (suc n) below is_root e = root_other laid rel is.two_phase is.laid_out n below (let many = out.nodes in omega (arith, many, is_root)) e

    suits_root : suits_table inferred laid.nodes laid.sink.mode laid.sink.key root ≡ true
    suits_root =
        let below = node_there laid.nodes root some_root (let n = out.nodes in omega (arith, n)) in
        suits inferred laid.nodes laid.sink.mode laid.sink.key (is_forced setting) root below.0 (alike laid.nodes root ∙ below.1) (root_is_other root below.0 refl below.1) tests.mode
        (sym (ap (λ input. is_refused (way_into inferred (is_forced setting) laid.sink.mode laid.sink.key input)) below_is) ∙ tests.key)
        (sym (ap (λ input. has_materializer (way_into inferred (is_forced setting) laid.sink.mode laid.sink.key input)) below_is) ∙ plain)

    pub sink_key : Meets rule.SinkKey laid
    sink_key =
        let sink = out.sink_node in
        meets_sink_key shaped laid has sink.node root (ap (numbered laid.nodes) out.nodes ∙ sink.is_there) sink.inputs_are suits_root
