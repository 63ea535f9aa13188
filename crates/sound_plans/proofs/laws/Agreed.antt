-- Each node of a sound plan agrees with what is inferred of it, where the keys of its inputs are in order.
use Rattle.std.specs.Prelude.{◌≡◌, ◌⊎◌, ℕ, ◌+◌, ◌<◌, ◌==◌, Bool, ◌&&◌, ◌||◌, not, nat_le, nat_lt, List, drop, length, map, slice_get, Option, is_some, option_and_then, option_map, unwrap_or}
use Rattle.std.proofs.Common.{zero, suc, true, false, [], ◌∷◌, refl, sym, ap, subst, ◌∙◌, inl, inr, arith, Some, None}
use Rattle.std.proofs.lemmas.Bool.{eqb-true, ltb-true}
use Rattle.std.specs.List.{list_all}
use Rattle.ct_change.specs.Changelog.{kinds_of, mode_of}
use Rattle.ct_change.specs.declared.kind.KindSet.{KindSet}
use Rattle.ct_change.specs.declared.kind.Declared.{Declared}
use Rattle.ct_change.specs.declared.kind.Declared.TheVariants.{Append, Retract, Upsert}
use Rattle.ct_value.specs.declared.ty.ColTy.{ColTy}
use Rattle.ct_catalog.specs.declared.table.TableDef.{TableDef}
use Rattle.op_rules.specs.Edges.{IsKeyedBy}
use Rattle.ct_change.specs.declared.update.Update.{Update}
use Rattle.ct_change.specs.declared.update.Update.TheVariants.{Absent, After, Both}
use Rattle.rel_algebra.specs.declared.agg.Agg.{Agg}
use Rattle.rel_algebra.specs.Groups.{group_columns}
use Rattle.phys_plan.specs.declared.edge.Exchange.TheVariants.{Forward, Hash}
use Rattle.phys_plan.specs.declared.node.Node.{Node}
use Rattle.phys_plan.specs.declared.node.Op.{Op}
use Rattle.phys_plan.specs.declared.node.Op.TheVariants as op
use Rattle.phys_plan.specs.declared.plan.Plan.{Plan}
use Rattle.phys_plan.specs.declared.plan.Rule.TheVariants as rule
use Rattle.phys_plan.specs.Reading.{at, numbered as item, wires, numbered, first_input}
use Rattle.upsert_keys.specs.Keys.{keys_of, scan_keys, table_keys}
use Rattle.column_sets.specs.Places.{first_columns}
use Rattle.mode_infer.specs.Kinds.{flow_of, plain, scan_kinds, asked}
use Rattle.ct_change.specs.Kinds.{has_more_than_inserts, is_upsert}
use Rattle.mode_infer.specs.Modes.{edge_kinds, mode, no_mode, printed, with_sink}
use Rattle.mode_infer.specs.UpdateKeys.{update_key_of}
use Rattle.mode_infer.specs.Updates.{in_full, is_taken, scan_update, table_update, told, update_of}
use Rattle.mode_infer.specs.declared.modes.EdgeMode.{EdgeMode}
use Rattle.plan_inferred.specs.Ways.{way_of}
use Rattle.plan_inferred.specs.declared.inferred.Inferred.{Inferred}
use Rattle.plan_inferred.specs.Rules.{by_columns, comes_by, comes_keyed, fills, fills_sink, inserts_alone, is_direct, is_shown, suits_table, way_at, way_from}
use Rattle.plan_check.specs.Sound.{inferred_of}
use Rattle.plan_check.specs.Types.{grouped_columns, types_by}
use Rattle.plan_rules.specs.Plans.{exchange_of, kinds_in, meaning_by}
use Rattle.ct_catalog.specs.Columns.{column_types}
use Rattle.plan_rules.specs.Columns.{columns_by, only}
use Rattle.plan_shape.specs.Shape.{has_parts, is_keyed_by, is_read, is_sink, is_sink_key, is_upsert_by, merges, normalizes_by, op_in, same_aggs, scans_by, suits_consumer, suits_input, suits_plan, takes as ports_of}
use Rattle.plan_shape.specs.Shaped.{MeetsShape}
use Rattle.plan_shape.specs.Tables.{is_declarable}
use Rattle.sound_plans.specs.Agrees.{Agrees, AtPorts, Carries, ComesDirect, ComesShown, IsAsked, LocalAgrees, MaterializeAgrees, MergeAgrees, NormalizeAgrees, ScanAgrees, SinkAgrees, Suits, first_width, taken_by}
use Rattle.sound_plans.specs.Outputs.{AreWithin, IsProper, Output, seen}
use Rattle.sound_plans.specs.Sound.{IsRuled}
use Rattle.sound_plans.proofs.laws.Lists.{both, found, is_somewhere, map_length, not_true, same_numbers, the_same}
use Rattle.sound_plans.specs.Promises.{Laws}
use Rattle.sound_plans.proofs.laws.Calls.{aggs_same}
use Rattle.sound_plans.proofs.laws.Columns.{grouped_on, passes_on}
use Rattle.sound_plans.proofs.laws.Consumers.{by_test}
use Rattle.sound_plans.proofs.laws.Local as l
use Rattle.sound_plans.proofs.laws.Shapes as s
use Rattle.sound_plans.proofs.laws.Tables.{key_ordered, key_within, upsert_has_key}
use Rattle.sound_plans.proofs.laws.Outputs.{kinds_is, output_at}
use Rattle.sound_plans.proofs.laws.Widths.{all_within}

-- ---- operators that stand apart

abbrev pub normalizes : Op → Bool
normalizes (op.Normalize key) = true
normalizes _ = false

abbrev pub materializes : Op → Bool
materializes (op.Materialize key) = true
materializes _ = false

materializes_by : (o : Op) → materializes o ≡ true → (key : List ℕ) × (o ≡ op.Materialize key)
materializes_by (op.Materialize key) h = (key, refl)
materializes_by _ h = absurd (cc)

abbrev pub scans : Op → Bool
scans (op.Scan source) = true
scans _ = false

abbrev pub sinks : Op → Bool
sinks op.Sink = true
sinks _ = false

-- a table that isn't normalized tells its updates in full
tells_in_full : (mode : Declared) (key : Option (List ℕ)) (kinds : KindSet) (above : Op) → normalizes above ≡ false → (not (is_upsert mode) || normalizes_by key (Some above)) ≡ true → table_update mode key kinds ≡ in_full kinds
tells_in_full Append key kinds above n r = refl
tells_in_full Retract key kinds above n r = refl
tells_in_full Upsert None kinds above n r = refl
tells_in_full Upsert (Some key) kinds (op.Normalize by) n r = absurd (cc)
tells_in_full Upsert (Some key) kinds _ n r = absurd (cc)

scan_in_full : (table : Option TableDef) (kinds : KindSet) (above : Op) → normalizes above ≡ false → is_read table (Some above) ≡ true → scan_update table kinds ≡ in_full kinds
scan_in_full None kinds above n r = refl
scan_in_full (Some table) kinds above n r = tells_in_full table.mode table.key kinds above n r

-- a node that neither scans nor materializes nor is the sink tells updates by its update key
told_apart : (sources : List TableDef) (o : Op) (kinds : KindSet) (key : Option (List ℕ)) (taken : Bool) → scans o ≡ false → materializes o ≡ false → sinks o ≡ false → update_of sources o kinds key taken ≡ told kinds key taken
told_apart sources (op.Scan source) kinds key taken a m b = absurd (cc)
told_apart sources op.Sink kinds key taken a m b = absurd (cc)
told_apart sources (op.Materialize shown) kinds key taken a m b = absurd (cc)
told_apart sources _ kinds key taken a m b = refl

-- ---- a sink's edge has no updates, and another's mode is its own

sink_update : (sources : List TableDef) (declared : Declared) (modes : List EdgeMode) (o : Op) (inputs : List ℕ) (kinds sent : KindSet) (key : Option (List ℕ)) (taken : Bool)
    → (with_sink declared modes o inputs (mode sent (update_of sources o kinds key taken))).update ≡ update_of sources o kinds key taken
sink_update sources declared modes op.Sink inputs kinds sent key taken = refl
sink_update sources declared modes _ inputs kinds sent key taken = refl

own_kinds : (declared : Declared) (modes : List EdgeMode) (o : Op) (inputs : List ℕ) (own : EdgeMode) → sinks o ≡ false → (with_sink declared modes o inputs own).kinds ≡ own.kinds
own_kinds declared modes op.Sink inputs own n = absurd (cc)
own_kinds declared modes _ inputs own n = refl

pub is_sink_too : (o : Op) → is_sink (Some o) ≡ sinks o
is_sink_too op.Sink = refl
is_sink_too _ = refl

-- an upsert table is declared as one
upsert_is : (m : Declared) → is_upsert m ≡ true → m ≡ Upsert
upsert_is Append f = absurd (cc)
upsert_is Retract f = absurd (cc)
upsert_is Upsert f = refl

-- an edge that isn't spread keeps each key in one channel
pub any_forward_keyed : (update : Update) → IsKeyedBy (meaning_by update) (exchange_of Forward)
any_forward_keyed Absent = tt
any_forward_keyed (After key) = tt
any_forward_keyed Both = tt

pub only_one : (x y p : ℕ) → slice_get (x ∷ []) p ≡ Some y → x ≡ y
only_one x y zero e = the_same x y e
only_one x y (suc p) e = absurd (cc)

module _ (laws : Laws) (plan : Plan) (ruled : IsRuled plan) where
  abbrev out : ℕ → Output
  out v = output_at plan v

  pub meets : MeetsShape plan
  meets = l.shape laws plan ruled

  -- how its edge tells updates, as it is inferred
  pub own_update : (v : ℕ) (node : Node) → numbered plan.nodes v ≡ Some node → (out v).edge.update ≡ l.told_by laws plan ruled v node.op
  own_update v node e =
      (l.ruled_mode laws plan ruled v node e).1
      ∙ sink_update plan.sources plan.sink.mode (l.mode_table laws plan ruled) node.op node.inputs (out v).sent (out v).sent (out v).update_key
      (is_taken plan.sink (out v).update_key v (wires (drop v plan.nodes)) (drop v (l.told_table laws plan ruled)))

  pub own_carries : (v : ℕ) (node : Node) → numbered plan.nodes v ≡ Some node → sinks node.op ≡ false → Carries (out v)
  own_carries v node e n =
      (l.ruled_mode laws plan ruled v node e).0
      ∙ own_kinds plan.sink.mode (l.mode_table laws plan ruled) node.op node.inputs (mode (out v).sent (l.told_by laws plan ruled v node.op)) n
      ∙ ap (edge_kinds (out v).sent) (sym (own_update v node e))

  abbrev is_taken_at : ℕ → Bool
  is_taken_at v = is_taken plan.sink (out v).update_key v (wires (drop v plan.nodes)) (drop v (l.told_table laws plan ruled))

  own_tells : (v : ℕ) (node : Node) → numbered plan.nodes v ≡ Some node → scans node.op ≡ false → materializes node.op ≡ false → sinks node.op ≡ false
      → (out v).edge.update ≡ told (out v).sent (out v).update_key (is_taken_at v)
  own_tells v node e a m b = own_update v node e ∙ told_apart plan.sources node.op (out v).sent (out v).update_key (is_taken_at v) a m b

  -- ---- inputs

  input_no_sink : (v : ℕ) (node : Node) (p input : ℕ) (below : Node) → numbered plan.nodes v ≡ Some node → slice_get node.inputs p ≡ Some input → numbered plan.nodes input ≡ Some below → sinks below.op ≡ false
  input_no_sink v node p input below e h f =
      let a = s.among plan.nodes v node e in
      let there = (s.input_there plan meets laws.shaped v node p input e h).1 in
      sym (is_sink_too below.op) ∙ s.inner_no_sink plan meets laws.shaped input below f (let k = there.2 in let g = a.few in omega arith)

  -- a materializer feeds the sink alone
  shown_to : (v : ℕ) (node : Node) (p input : ℕ) (below : Node) (key : List ℕ) → numbered plan.nodes v ≡ Some node → slice_get node.inputs p ≡ Some input → numbered plan.nodes input ≡ Some below → below.op ≡ op.Materialize key
      → node.op ≡ op.Sink
  shown_to v node p input below key e h f is =
      let fed : is_sink (Some node.op) ≡ true = sym (ap (λ x. suits_consumer plan.sources x (Some node.op)) is) ∙ s.suits_above plan meets laws.shaped v node p input below e h f in
      s.sink_op node.op fed

  input_not_shown : (v : ℕ) (node : Node) (p input : ℕ) (below : Node) → numbered plan.nodes v ≡ Some node → slice_get node.inputs p ≡ Some input → numbered plan.nodes input ≡ Some below → sinks node.op ≡ false
      → materializes below.op ≡ false
  input_not_shown v node p input below e h f n =
      by_test (materializes below.op)
      (λ t.
      let m = materializes_by below.op t in
      absurd (let clash : false ≡ true = sym n ∙ ap sinks (shown_to v node p input below m.0 e h f m.1) in cc))
      (λ g. g)

  -- where an input scans, its table is read in full, or it is normalized
  input_tells : (v : ℕ) (node : Node) (p input : ℕ) (below : Node) → numbered plan.nodes v ≡ Some node → slice_get node.inputs p ≡ Some input → numbered plan.nodes input ≡ Some below → normalizes node.op ≡ false
      → materializes below.op ≡ false → (o : Op) → below.op ≡ o → (out input).edge.update ≡ told (out input).sent (out input).update_key (is_taken_at input)
  input_tells v node p input below e h f n m (op.Scan source) is =
      let suits : is_read (slice_get plan.sources source) (Some node.op) ≡ true = sym (ap (λ x. suits_consumer plan.sources x (Some node.op)) is) ∙ s.suits_above plan meets laws.shaped v node p input below e h f in
      let none : (out input).update_key ≡ None = l.update_key_is laws plan ruled input below f ∙ ap (λ x. update_key_of (first_width (map (output_at plan) below.inputs)) x (map (λ o. o.update_key) (map (output_at plan) below.inputs))) is in
      own_update input below f ∙ ap (λ x. update_of plan.sources x (out input).sent (out input).update_key (is_taken_at input)) is
      ∙ scan_in_full (slice_get plan.sources source) (out input).sent node.op n suits
      ∙ ap (λ k. told (out input).sent k (is_taken_at input)) (sym none)
  input_tells v node p input below e h f n m _ is = own_tells input below f (ap scans is) m (input_no_sink v node p input below e h f)

  pub asked_at : (v : ℕ) (node : Node) (p input : ℕ) (below : Node) → numbered plan.nodes v ≡ Some node → slice_get node.inputs p ≡ Some input → numbered plan.nodes input ≡ Some below → normalizes node.op ≡ false
      → materializes below.op ≡ false → IsProper (out input) → IsAsked plan.sink node.op (out v).edge.update p (out input)
  asked_at v node p input below e h f n m proper =
      record {
        proper = proper;
        carries = own_carries input below f (input_no_sink v node p input below e h f);
        tells =
            input_tells v node p input below e h f n m below.op refl
            ∙ ap (told (out input).sent (out input).update_key) (l.taken laws plan ruled v node p input e h (out input).update_key ∙ ap (λ u. taken_by plan.sink node.op p u (out input).update_key) (sym (own_update v node e)));
        exchanged = l.exchanged laws plan ruled v node p input e h;
      }

  ports : (P : ℕ → Output → Type 0) (from : ℕ) (inputs : List ℕ) → ((p input : ℕ) → slice_get inputs p ≡ Some input → P (from + p) (out input)) → AtPorts P from (map (output_at plan) inputs)
  ports P from [] h = tt
  ports P from (input ∷ inputs) h =
      let here : from + 0 ≡ from = omega arith in (
        subst (λ n. P n (out input)) here (h 0 input refl),
        ports P (suc from) inputs (λ p other e. let there : from + suc p ≡ suc from + p = omega arith in subst (λ n. P n (out other)) there (h (suc p) other e)),
      )

  abbrev pub AreProper : List ℕ → Type 0
  AreProper inputs = (p input : ℕ) → slice_get inputs p ≡ Some input → IsProper (out input)

  -- ---- nodes

  plain_at : (v : ℕ) (node : Node) (p input : ℕ) → numbered plan.nodes v ≡ Some node → slice_get node.inputs p ≡ Some input → normalizes node.op ≡ false → sinks node.op ≡ false → IsProper (out input)
      → IsAsked plan.sink node.op (out v).edge.update p (out input)
  plain_at v node p input e h n b proper =
      let there = (s.input_there plan meets laws.shaped v node p input e h).1 in
      asked_at v node p input there.0 e h there.1 n (input_not_shown v node p input there.0 e h there.1 b) proper

  -- no partial rows come
  abbrev pub ArePlain : List ℕ → Type 0
  ArePlain inputs = s.ArePlain plan meets laws.shaped inputs

  pub all_plain : (v : ℕ) (node : Node) → numbered plan.nodes v ≡ Some node → s.takes_parts node.op ≡ false → ArePlain node.inputs
  all_plain v node e n = s.all_plain plan meets laws.shaped v node e n

  pub agrees : (v : ℕ) (node : Node) → numbered plan.nodes v ≡ Some node → ArePlain node.inputs → scans node.op ≡ false → normalizes node.op ≡ false → materializes node.op ≡ false → sinks node.op ≡ false → AreProper node.inputs
      → Agrees plan.sources plan.sink node.op (map (output_at plan) node.inputs) (out v)
  agrees v node e are_plain a n m b proper = record {
    inputs_asked = ports (IsAsked plan.sink node.op (out v).edge.update) 0 node.inputs
        (λ p input h. let here : 0 + p ≡ p = omega arith in subst (λ k. IsAsked plan.sink node.op (out v).edge.update k (out input)) (sym here) (plain_at v node p input e h n b (proper p input h)));
    typed = l.columns_made laws plan ruled v node e;
    keyed = l.keys_are laws plan ruled v node e;
    sends = l.kinds_are_sent laws plan ruled v node e are_plain;
    updates = l.update_key_is laws plan ruled v node e;
    carries = own_carries v node e b;
    taken = is_taken_at v;
    tells = own_tells v node e a m b;
  }

  only_input : (inputs : List ℕ) → (length inputs == 1) ≡ true → (input : ℕ) × (inputs ≡ input ∷ [])
  only_input [] e = absurd (cc)
  only_input (input ∷ []) e = (input, refl)
  only_input (input ∷ (other ∷ inputs)) e = absurd (let h : suc (suc (length inputs)) ≡ 1 = eqb-true (suc (suc (length inputs))) 1 e in omega arith)

  pub one_input : (v : ℕ) (node : Node) → numbered plan.nodes v ≡ Some node → ((n : ℕ) → ports_of node.op n ≡ (n == 1)) → (input : ℕ) × (node.inputs ≡ input ∷ [])
  one_input v node e takes_one = only_input node.inputs (sym (takes_one (length node.inputs)) ∙ (s.told plan meets laws.shaped v node e).ports)

  -- ---- local groups, and groups above them

  -- the node that takes the partial rows of a local group
  pub record IsUnder (v keys : ℕ) (aggs : List Agg) : Type 0 where
    pub number : ℕ
    pub above : Node
    pub is_node : numbered plan.nodes number ≡ Some above
    pub takes : above.inputs ≡ v ∷ []
    pub of_keys : ℕ
    pub of_aggs : List Agg
    pub is_group : above.op ≡ op.BatchGroup of_keys of_aggs
    pub same : (of_keys ≡ keys) × (of_aggs ≡ aggs)

  pub local_agrees : (v : ℕ) (node : Node) (keys : ℕ) (aggs : List Agg) (input : ℕ) → numbered plan.nodes v ≡ Some node → node.op ≡ op.LocalGroup keys aggs → node.inputs ≡ input ∷ [] → IsUnder v keys aggs → AreProper node.inputs
      → LocalAgrees plan.sources plan.sink keys aggs (out input) (out v)
  local_agrees v node keys aggs input e is are up proper =
      let first : slice_get node.inputs 0 ≡ Some input = ap (λ (xs : List ℕ). slice_get xs 0) are in
      let outs : map (output_at plan) node.inputs ≡ out input ∷ [] = ap (map (output_at plan)) are in
      let typed : option_and_then (grouped_columns keys aggs) (only (map (λ o. Some o.columns) (out input ∷ []))) ≡ Some (out v).columns =
      sym (λ k. types_by plan.sources (is k) (map (λ o. Some o.columns) (outs k))) ∙ l.types_are laws plan ruled v node e in
      let made = grouped_on keys aggs (Some (out input).columns ∷ []) (out v).columns typed in
      let same : (out input).columns ≡ (out v).columns = the_same (out input).columns (out v).columns made.0 in
      let some = some_there (group_columns keys (out v).columns aggs) made.1 in
      let suits : (nat_lt 0 plan.mini_batch && nat_lt 0 up.of_keys) ≡ true = sym (ap (suits_plan plan) up.is_group) ∙ (s.told plan meets laws.shaped up.number up.above up.is_node).suits in
      let below : list_all (λ agg. has_parts (kinds_in (numbered plan.edges input)) agg.call) aggs ≡ true =
      sym (λ k. suits_input plan.sources (is k) (op_in (numbered plan.nodes (first_input (are k)))) (kinds_in (numbered plan.edges (first_input (are k))))) ∙ (s.told plan meets laws.shaped v node e).input in
      let goes : (out v).edge.exchange ≡ Hash (first_columns up.of_keys) =
      l.exchanged laws plan ruled up.number up.above 0 v up.is_node (ap (λ (xs : List ℕ). slice_get xs 0) up.takes) ∙ ap (λ x. by_columns (asked x 0)) up.is_group in
      record {
        agrees =
            subst (λ xs. Agrees plan.sources plan.sink (op.LocalGroup keys aggs) xs (out v)) outs
            (subst (λ (x : Op). Agrees plan.sources plan.sink x (map (output_at plan) node.inputs) (out v)) is
            (agrees v node e (all_plain v node e (ap s.takes_parts is)) (ap scans is) (ap normalizes is) (ap materializes is) (ap sinks is) proper));
        some_keys = subst (λ n. 0 < n) up.same.0 (ltb-true 0 up.of_keys (both (nat_lt 0 plan.mini_batch) (nat_lt 0 up.of_keys) suits).1);
        made = some.0;
        grouped = ap (λ (c : List ColTy). group_columns keys c aggs) same ∙ some.1;
        sum_up = subst (λ (k : KindSet). list_all (λ agg. has_parts k agg.call) aggs ≡ true) (kinds_is plan (numbered plan.edges input)) below;
        exchanged = goes ∙ ap (λ n. Hash (first_columns n)) up.same.0;
      }
    where
      some_there : (o : Option (List ColTy)) → is_some o ≡ true → (columns : List ColTy) × (o ≡ Some columns)
      some_there None h = absurd (cc)
      some_there (Some columns) h = (columns, refl)

  pub under_there : (v : ℕ) (node : Node) (keys : ℕ) (aggs : List Agg) → numbered plan.nodes v ≡ Some node → node.op ≡ op.LocalGroup keys aggs → IsUnder v keys aggs
  under_there v node keys aggs e is =
      let fed = s.feeds_merge plan meets laws.shaped v node keys aggs e is in
      let group = s.is_bundled fed.node.op (s.merges_in_bundles keys aggs fed.node.op fed.sums) in
      let i = one_input (suc fed.place) fed.node fed.is (λ n. ap (λ x. ports_of x n) group.2) in
      let p = is_somewhere v fed.node.inputs fed.has in
      let input : i.0 ≡ v = only_one i.0 v p.0 (sym (ap (λ (xs : List ℕ). slice_get xs p.0) i.1) ∙ p.1) in
      let b = both (keys == group.0) (same_aggs aggs group.1) (sym (ap (λ x. merges keys aggs (Some x)) group.2) ∙ fed.sums) in
      record {
        number = suc fed.place;
        above = fed.node;
        is_node = fed.is;
        takes = i.1 ∙ ap (λ n. n ∷ []) input;
        of_keys = group.0;
        of_aggs = group.1;
        is_group = group.2;
        same = (sym (eqb-true keys group.0 b.0), sym (aggs_same aggs group.1 b.1));
      }

  -- a group above a local group has its keys and its calls
  pub calls_shared : (v : ℕ) (node : Node) (below_at : ℕ) (below : Node) (keys : ℕ) (aggs : List Agg) (under : ℕ) (calls : List Agg) → numbered plan.nodes v ≡ Some node → node.op ≡ op.BatchGroup keys aggs → node.inputs ≡ below_at ∷ []
      → numbered plan.nodes below_at ≡ Some below → below.op ≡ op.LocalGroup under calls → (keys ≡ under) × (aggs ≡ calls)
  calls_shared v node below_at below keys aggs under calls e is are f is_local =
      let first : slice_get node.inputs 0 ≡ Some below_at = ap (λ (xs : List ℕ). slice_get xs 0) are in
      let suits : merges under calls (Some (op.BatchGroup keys aggs)) ≡ true =
      sym (λ k. suits_consumer plan.sources (is_local k) (Some (is k))) ∙ s.suits_above plan meets laws.shaped v node 0 below_at below e first f in
      let b = both (under == keys) (same_aggs calls aggs) suits in
      (sym (eqb-true under keys b.0), sym (aggs_same calls aggs b.1))

  pub merge_agrees : (v : ℕ) (node : Node) (below_at : ℕ) (below : Node) (input keys : ℕ) (aggs : List Agg) (under : ℕ) (calls : List Agg) → numbered plan.nodes v ≡ Some node → node.op ≡ op.BatchGroup keys aggs
      → node.inputs ≡ below_at ∷ [] → numbered plan.nodes below_at ≡ Some below → below.op ≡ op.LocalGroup under calls → below.inputs ≡ input ∷ [] → AreProper below.inputs
      → MergeAgrees plan.sources plan.sink under calls (out input) (out below_at) (out v)
  merge_agrees v node below_at below input keys aggs under calls e is are f is_local are_its proper =
      let shared = calls_shared v node below_at below keys aggs under calls e is are f is_local in
      let up : IsUnder below_at under calls = record { number = v; above = node; is_node = e; takes = are; of_keys = keys; of_aggs = aggs; is_group = is; same = shared } in
      let local = local_agrees below_at below under calls input f is_local are_its up proper in
      let outs : map (output_at plan) node.inputs ≡ out below_at ∷ [] = ap (map (output_at plan)) are in
      let group : op.BatchGroup keys aggs ≡ op.BatchGroup under calls = λ k. op.BatchGroup (shared.0 k) (shared.1 k) in
      let same : (out input).columns ≡ (out below_at).columns = the_same (out input).columns (out below_at).columns local.agrees.typed in
      let typed : group_columns under (out below_at).columns calls ≡ Some (out v).columns =
      sym (λ k. columns_by plan.sources ((is ∙ group) k) (map (λ o. Some o.columns) (outs k))) ∙ l.columns_made laws plan ruled v node e in
      record {
        local = local;
        typed = ap (λ (c : List ColTy). group_columns under c calls) same ∙ typed;
        keyed = l.keys_are laws plan ruled v node e ∙ ap (λ x. keys_of plan.sources x (map seen (map (output_at plan) node.inputs))) (is ∙ group);
        sends = l.kinds_are_merged laws plan ruled v node below_at below input under calls under calls e (is ∙ group) are f is_local are_its;
        updates = l.update_key_is laws plan ruled v node e ∙ ap (λ x. update_key_of (first_width (map (output_at plan) node.inputs)) x (map (λ o. o.update_key) (map (output_at plan) node.inputs))) (is ∙ group);
        carries = own_carries v node e (ap sinks is);
        taken = is_taken_at v;
        tells = own_tells v node e (ap scans is) (ap materializes is) (ap sinks is);
      }

  -- ---- scans

  pub table_there : (v : ℕ) (node : Node) (source : ℕ) → numbered plan.nodes v ≡ Some node → node.op ≡ op.Scan source → (table : TableDef) × (slice_get plan.sources source ≡ Some table) × (is_declarable table ≡ true)
  table_there v node source e is =
      let suits : nat_lt source (length plan.sources) ≡ true = sym (ap (suits_plan plan) is) ∙ (s.told plan meets laws.shaped v node e).suits in
      let t = found plan.sources source (ltb-true source (length plan.sources) suits) in
      (t.0, t.1, s.declarable plan meets laws.shaped source t.0 t.1)

  pub scan_agrees : (v : ℕ) (node : Node) (source : ℕ) (table : TableDef) → numbered plan.nodes v ≡ Some node → node.op ≡ op.Scan source → slice_get plan.sources source ≡ Some table → is_declarable table ≡ true
      → ScanAgrees table (out v)
  scan_agrees v node source table e is has made =
      let columns = l.columns_made laws plan ruled v node e in
      let kept : option_map column_types (slice_get plan.sources source) ≡ Some (out v).columns = sym (ap (λ x. columns_by plan.sources x (map (λ o. Some o.columns) (map (output_at plan) node.inputs))) is) ∙ columns in
      record {
        typed = sym (the_same (column_types table) (out v).columns (sym (ap (option_map column_types) has) ∙ kept));
        ordered = λ key k. key_ordered table key made k;
        within = λ key k. key_within table key made k;
        has_key = λ m. upsert_has_key table made m;
        keyed = l.keys_are laws plan ruled v node e ∙ ap (λ x. keys_of plan.sources x (map seen (map (output_at plan) node.inputs))) is ∙ ap scan_keys has;
        sends =
            l.kinds_are_sent laws plan ruled v node e (all_plain v node e (ap s.takes_parts is)) ∙ ap (λ x. (flow_of plan.sources x (map (λ o. plain o.sent) (map (output_at plan) node.inputs))).sent) is ∙ ap scan_kinds has;
        updates = l.update_key_is laws plan ruled v node e ∙ ap (λ x. update_key_of (first_width (map (output_at plan) node.inputs)) x (map (λ o. o.update_key) (map (output_at plan) node.inputs))) is;
        carries = own_carries v node e (ap sinks is);
        tells = own_update v node e ∙ ap (λ x. update_of plan.sources x (out v).sent (out v).update_key (is_taken_at v)) is ∙ ap (λ t. scan_update t (out v).sent) has;
      }

  -- ---- normalizers

  -- the table under a normalizer
  pub record IsNormalized (key : List ℕ) (input : ℕ) (below : Node) : Type 0 where
    pub source : ℕ
    pub table : TableDef
    pub scanned : below.op ≡ op.Scan source
    pub is_table : slice_get plan.sources source ≡ Some table
    pub mode : table.mode ≡ Upsert
    pub key_is : table.key ≡ Some key

  upserts : (table : TableDef) (key : List ℕ) → is_upsert_by key (Some table) ≡ true → (table.mode ≡ Upsert) × (table.key ≡ Some key)
  upserts table key e =
      let b = both (is_upsert table.mode) (is_keyed_by key table.key) e in
      (upsert_is table.mode b.0, key_of table.key b.1)
    where
      key_of : (o : Option (List ℕ)) → is_keyed_by key o ≡ true → o ≡ Some key
      key_of None f = absurd (cc)
      key_of (Some other) f = ap (λ k. Some k) (sym (same_numbers key other f))

  normalized : (key : List ℕ) (input : ℕ) (below : Node) (o : Op) → below.op ≡ o → scans_by plan.sources key (Some o) ≡ true → IsNormalized key input below
  normalized key input below (op.Scan source) is e = go (slice_get plan.sources source) refl e
    where
      go : (t : Option TableDef) → slice_get plan.sources source ≡ t → is_upsert_by key t ≡ true → IsNormalized key input below
      go None has f = absurd (cc)
      go (Some table) has f = let u = upserts table key f in record { source = source; table = table; scanned = is; is_table = has; mode = u.0; key_is = u.1 }
  normalized key input below _ is e = absurd (cc)

  only_two : (inputs : List ℕ) → (length inputs == 2) ≡ true → (left : ℕ) × (right : ℕ) × (inputs ≡ left ∷ (right ∷ []))
  only_two [] e = absurd (cc)
  only_two (left ∷ []) e = absurd (cc)
  only_two (left ∷ (right ∷ [])) e = (left, right, refl)
  only_two (left ∷ (right ∷ (other ∷ inputs))) e = absurd (let h : suc (suc (suc (length inputs))) ≡ 2 = eqb-true (suc (suc (suc (length inputs)))) 2 e in omega arith)

  pub two_inputs : (v : ℕ) (node : Node) → numbered plan.nodes v ≡ Some node → ((n : ℕ) → ports_of node.op n ≡ (n == 2)) → (left : ℕ) × (right : ℕ) × (node.inputs ≡ left ∷ (right ∷ []))
  two_inputs v node e takes_two = only_two node.inputs (sym (takes_two (length node.inputs)) ∙ (s.told plan meets laws.shaped v node e).ports)

  more_than_one : (inputs : List ℕ) → nat_le 2 (length inputs) ≡ true → (first : ℕ) × (rest : List ℕ) × (inputs ≡ first ∷ rest)
  more_than_one [] e = absurd (cc)
  more_than_one (first ∷ rest) e = (first, rest, refl)

  pub some_inputs : (v : ℕ) (node : Node) → numbered plan.nodes v ≡ Some node → node.op ≡ op.Union → (first : ℕ) × (rest : List ℕ) × (node.inputs ≡ first ∷ rest)
  some_inputs v node e is = more_than_one node.inputs (sym (ap (λ o. ports_of o (length node.inputs)) is) ∙ (s.told plan meets laws.shaped v node e).ports)

  pub normalize_agrees : (v : ℕ) (node : Node) (key : List ℕ) (input : ℕ) → numbered plan.nodes v ≡ Some node → node.op ≡ op.Normalize key → node.inputs ≡ input ∷ [] → AreProper node.inputs → NormalizeAgrees key (out input) (out v)
  normalize_agrees v node key input e is are proper =
      let first : slice_get node.inputs 0 ≡ Some input = ap (λ (xs : List ℕ). slice_get xs 0) are in
      let there = (s.input_there plan meets laws.shaped v node 0 input e first).1 in
      let below = there.0 in
      let fed = (s.told plan meets laws.shaped v node e).input in
      let under : op_in (numbered plan.nodes (first_input node.inputs)) ≡ Some below.op = ap (λ xs. op_in (numbered plan.nodes (first_input xs))) are ∙ ap op_in there.1 in
      let scan : scans_by plan.sources key (Some below.op) ≡ true =
      sym ((λ k. suits_input plan.sources (is k) (op_in (numbered plan.nodes (first_input node.inputs))) (kinds_in (numbered plan.edges (first_input node.inputs)))) ∙ ap (scans_by plan.sources key) under) ∙ fed in
      let n = normalized key input below below.op refl scan in
      let made = s.declarable plan meets laws.shaped n.source n.table n.is_table in
      let a = scan_agrees input below n.source n.table there.1 n.scanned n.is_table made in
      let width : length (out input).columns ≡ length n.table.cols = ap length a.typed ∙ map_length (λ column. column.ty) n.table.cols in
      let outs : map (output_at plan) node.inputs ≡ out input ∷ [] = ap (map (output_at plan)) are in
      record {
        ordered = key_ordered n.table key made n.key_is;
        within = subst (λ w. AreWithin w key) (sym width) (key_within n.table key made n.key_is);
        input_proper = proper 0 input first;
        input_carries = a.carries;
        input_sent = a.sends ∙ ap (λ m. kinds_of (mode_of m [])) n.mode;
        input_tells = a.tells ∙ (λ k. table_update (n.mode k) (n.key_is k) (out input).sent);
        input_keyed = a.keyed ∙ ap (λ o. table_keys o (length n.table.cols)) n.key_is;
        exchanged = l.exchanged laws plan ruled v node 0 input e first ∙ ap (λ x. by_columns (asked x 0)) is;
        typed =
            sym (the_same (out input).columns (out v).columns
            (sym (λ k. columns_by plan.sources (is k) (map (λ o. Some o.columns) (outs k))) ∙ l.columns_made laws plan ruled v node e));
        keyed = l.keys_are laws plan ruled v node e ∙ ap (λ x. keys_of plan.sources x (map seen (map (output_at plan) node.inputs))) is;
        sends = l.kinds_are_sent laws plan ruled v node e (all_plain v node e (ap s.takes_parts is)) ∙ ap (λ x. (flow_of plan.sources x (map (λ o. plain o.sent) (map (output_at plan) node.inputs))).sent) is;
        updates = l.update_key_is laws plan ruled v node e ∙ ap (λ x. update_key_of (first_width (map (output_at plan) node.inputs)) x (map (λ o. o.update_key) (map (output_at plan) node.inputs))) is;
        carries = own_carries v node e (ap sinks is);
        taken = is_taken_at v;
        tells = own_tells v node e (ap scans is) (ap materializes is) (ap sinks is);
      }

  -- ---- what is asked of the changes of a sink's input

  -- they suit its table
  filled : (v : ℕ) (node : Node) (input : ℕ) → numbered plan.nodes v ≡ Some node → node.op ≡ op.Sink → node.inputs ≡ input ∷ [] → suits_table (inferred_of plan) plan.nodes plan.sink.mode plan.sink.key input ≡ true
  filled v node input e is are =
      let held : item plan.nodes v ≡ Some node = l.alike plan.nodes v ∙ e in
      sym (ap (fills_sink (inferred_of plan) plan) held ∙ (λ k. fills (inferred_of plan) plan (is k) (are k))) ∙ l.met laws plan ruled rule.SinkKey v node e

  -- changes of a node that isn't a materializer come as they are
  comes_direct : (x : Inferred) (key : List ℕ) (input : ℕ) (o : Op) (inputs : List ℕ) → materializes o ≡ false → comes_by x key input o inputs ≡ is_direct (way_at x false key input)
  comes_direct x key input (op.Materialize shown) inputs m = absurd (cc)
  comes_direct x key input _ inputs m = refl

  way_is : (force : Bool) (input : ℕ) (below : Node) (key : List ℕ) → numbered plan.nodes input ≡ Some below → way_at (inferred_of plan) force key input ≡ way_of force key (out input).sent (out input).update_key (out input).keys
  way_is force input below key f =
      let flow = l.flow_item laws plan ruled input below f in
      (λ k. way_from force key (flow.1 k) (l.update_item laws plan ruled input below f k) (l.key_item laws plan ruled input below f k))
      ∙ ap (λ sent. way_of force key sent (out input).update_key (out input).keys) flow.2

  -- ---- materializers

  -- the sink is an upsert table with the key of a materializer
  sink_upserts : (v : ℕ) (node : Node) (key : List ℕ) → numbered plan.nodes v ≡ Some node → node.op ≡ op.Materialize key → (plan.sink.mode ≡ Upsert) × (plan.sink.key ≡ Some key)
  sink_upserts v node key e is = go plan.sink.key (sym (ap (suits_plan plan) is) ∙ (s.told plan meets laws.shaped v node e).suits)
    where
      go : (o : Option (List ℕ)) → is_sink_key plan.sink key o ≡ true → (plan.sink.mode ≡ Upsert) × (o ≡ Some key)
      go None h = absurd (cc)
      go (Some other) h = let b = both (is_upsert plan.sink.mode) _ h in (upsert_is plan.sink.mode b.0, ap (λ k. Some k) (sym (same_numbers key other b.1)))

  -- and takes what it shows
  record IsUnderSink (v : ℕ) : Type 0 where
    number : ℕ
    above : Node
    is_node : numbered plan.nodes number ≡ Some above
    sinks_it : above.op ≡ op.Sink
    takes : above.inputs ≡ v ∷ []

  under_sink : (v : ℕ) (node : Node) (key : List ℕ) → numbered plan.nodes v ≡ Some node → node.op ≡ op.Materialize key → IsUnderSink v
  under_sink v node key e is =
      let fed = s.feeds_sink plan meets laws.shaped v node e (ap (λ x. is_sink (Some x)) is) (λ above. ap (λ x. suits_consumer plan.sources x above) is) in
      let sunk : fed.node.op ≡ op.Sink = s.sink_op fed.node.op fed.sinks in
      let i = one_input (suc fed.place) fed.node fed.is (λ n. ap (λ x. ports_of x n) sunk) in
      let p = is_somewhere v fed.node.inputs fed.has in
      let same : i.0 ≡ v = only_one i.0 v p.0 (sym (ap (λ (xs : List ℕ). slice_get xs p.0) i.1) ∙ p.1) in
      record { number = suc fed.place; above = fed.node; is_node = fed.is; sinks_it = sunk; takes = i.1 ∙ ap (λ n. n ∷ []) same }

  -- a key of its input lies in its key
  shows : (v : ℕ) (node : Node) (key : List ℕ) (input : ℕ) (below : Node) → numbered plan.nodes v ≡ Some node → node.op ≡ op.Materialize key → node.inputs ≡ input ∷ [] → numbered plan.nodes input ≡ Some below
      → is_shown (way_of true key (out input).sent (out input).update_key (out input).keys) ≡ true
  shows v node key input below e is are f =
      let up = under_sink v node key e is in
      let u = sink_upserts v node key e is in
      let by_key : suits_table (inferred_of plan) plan.nodes Upsert (Some key) v ≡ true = sym (λ k. suits_table (inferred_of plan) plan.nodes (u.0 k) (u.1 k) v) ∙ filled up.number up.above v up.is_node up.sinks_it up.takes in
      let held : item plan.nodes v ≡ Some node = l.alike plan.nodes v ∙ e in
      let comes : comes_by (inferred_of plan) key v node.op node.inputs ≡ true = sym (ap (comes_keyed (inferred_of plan) key v) held) ∙ by_key in
      let way : is_shown (way_at (inferred_of plan) true key input) ≡ true = sym (λ k. comes_by (inferred_of plan) key v (is k) (are k)) ∙ comes in
      sym (ap is_shown (way_is true input below key f)) ∙ way

  -- its key is among its columns
  shown_within : (v : ℕ) (node : Node) (key : List ℕ) → numbered plan.nodes v ≡ Some node → node.op ≡ op.Materialize key → AreWithin (length (out v).columns) key
  shown_within v node key e is =
      let inputs : List (Option (List ColTy)) = map (λ o. Some o.columns) (map (output_at plan) node.inputs) in
      all_within (out v).columns key (passes_on key inputs (out v).columns (sym (ap (λ x. types_by plan.sources x inputs) is) ∙ l.types_are laws plan ruled v node e)).1

  -- it tells new rows alone
  shown_tells : (v : ℕ) (node : Node) (key : List ℕ) → numbered plan.nodes v ≡ Some node → node.op ≡ op.Materialize key → (out v).edge.update ≡ After key
  shown_tells v node key e is = own_update v node e ∙ ap (λ x. update_of plan.sources x (out v).sent (out v).update_key (is_taken_at v)) is

  pub materialize_agrees : (v : ℕ) (node : Node) (key : List ℕ) (input : ℕ) → numbered plan.nodes v ≡ Some node → node.op ≡ op.Materialize key → node.inputs ≡ input ∷ [] → AreProper node.inputs
      → MaterializeAgrees plan.sink key (out input) (out v)
  materialize_agrees v node key input e is are proper =
      let first : slice_get node.inputs 0 ≡ Some input = ap (λ (xs : List ℕ). slice_get xs 0) are in
      let there = (s.input_there plan meets laws.shaped v node 0 input e first).1 in
      let outs : map (output_at plan) node.inputs ≡ out input ∷ [] = ap (map (output_at plan)) are in
      let u = sink_upserts v node key e is in
      let typed : (out v).columns ≡ (out input).columns =
      sym (the_same (out input).columns (out v).columns (sym (λ k. columns_by plan.sources (is k) (map (λ o. Some o.columns) (outs k))) ∙ l.columns_made laws plan ruled v node e)) in
      record {
        ordered = key_ordered plan.sink key (s.sink_declarable plan meets laws.shaped) u.1;
        within = subst (λ (columns : List ColTy). AreWithin (length columns) key) typed (shown_within v node key e is);
        asked =
            subst (λ (x : Op). IsAsked plan.sink x (out v).edge.update 0 (out input)) is
            (plain_at v node 0 input e first (ap normalizes is) (ap sinks is) (proper 0 input first));
        suits = shows v node key input there.0 e is are there.1;
        typed = typed;
        keyed = l.keys_are laws plan ruled v node e ∙ ap (λ x. keys_of plan.sources x (map seen (map (output_at plan) node.inputs))) is;
        sends = l.kinds_are_sent laws plan ruled v node e (all_plain v node e (ap s.takes_parts is)) ∙ ap (λ x. (flow_of plan.sources x (map (λ o. plain o.sent) (map (output_at plan) node.inputs))).sent) is;
        updates = l.update_key_is laws plan ruled v node e ∙ ap (λ x. update_key_of (first_width (map (output_at plan) node.inputs)) x (map (λ o. o.update_key) (map (output_at plan) node.inputs))) is;
        carries = own_carries v node e (ap sinks is);
        tells = shown_tells v node key e is;
      }

  -- ---- edges

  -- the edge of an input that carries new rows alone keeps each key in one channel
  pub keyed_at : (v : ℕ) (node : Node) (p input : ℕ) → numbered plan.nodes v ≡ Some node → slice_get node.inputs p ≡ Some input → IsProper (out input) → AreProper node.inputs
      → IsKeyedBy (meaning_by (out input).edge.update) (exchange_of (out input).edge.exchange)
  keyed_at v node p input e h proper all =
      let there = (s.input_there plan meets laws.shaped v node p input e h).1 in
      by_test (materializes there.0.op)
      (λ t. let m = materializes_by there.0.op t in before_sink (shown_to v node p input there.0 m.0 e h there.1 m.1))
      (λ f. go there.0 there.1 f node.op refl)
    where
      before_sink : node.op ≡ op.Sink → IsKeyedBy (meaning_by (out input).edge.update) (exchange_of (out input).edge.exchange)
      before_sink is =
          let forwards : (out input).edge.exchange ≡ Forward = l.exchanged laws plan ruled v node p input e h ∙ ap (λ x. by_columns (asked x p)) is in
          subst (λ x. IsKeyedBy (meaning_by (out input).edge.update) (exchange_of x)) (sym forwards) (any_forward_keyed (out input).edge.update)

      under : (key : List ℕ) → node.op ≡ op.Normalize key → IsKeyedBy (meaning_by (out input).edge.update) (exchange_of (out input).edge.exchange)
      under key is =
          let i = one_input v node e (λ n. ap (λ x. ports_of x n) is) in
          let a = normalize_agrees v node key i.0 e is i.1 all in
          let same : i.0 ≡ input = only_one i.0 input p (sym (ap (λ (xs : List ℕ). slice_get xs p) i.1) ∙ h) in
          subst (λ (n : ℕ). IsKeyedBy (meaning_by (out n).edge.update) (exchange_of (out n).edge.exchange)) same
          (subst (λ u. IsKeyedBy (meaning_by u) (exchange_of (out i.0).edge.exchange)) (sym a.input_tells) (subst (λ x. IsKeyedBy (meaning_by (After key)) (exchange_of x)) (sym a.exchanged) (λ s t g. g)))

      go : (below : Node) → numbered plan.nodes input ≡ Some below → materializes below.op ≡ false → (o : Op) → node.op ≡ o → IsKeyedBy (meaning_by (out input).edge.update) (exchange_of (out input).edge.exchange)
      go below f m (op.Normalize key) is = under key is
      go below f m _ is = laws.edges_are_keyed plan.sink node.op (out v).edge.update p (out input) (asked_at v node p input below e h f (ap normalizes is) m proper)

  -- ---- the sink

  suits_by : (input : ℕ) (below : Node) → numbered plan.nodes input ≡ Some below → materializes below.op ≡ false → (mode : Declared) (key : Option (List ℕ)) → suits_table (inferred_of plan) plan.nodes mode key input ≡ true → Suits mode key (out input)
  suits_by input below f m Append key h =
      let one : inserts_alone (Some (l.one_mode laws plan ruled input below)) ≡ true = sym (ap inserts_alone (l.mode_there laws plan ruled input below f)) ∙ h in
      ap has_more_than_inserts (l.ruled_mode laws plan ruled input below f).0 ∙ not_true (has_more_than_inserts (l.one_mode laws plan ruled input below).kinds) one
  suits_by input below f m Retract key h = tt
  suits_by input below f m Upsert None h = absurd (cc)
  suits_by input below f m Upsert (Some key) h =
      let is : item plan.nodes input ≡ Some below = l.alike plan.nodes input ∙ f in
      sym (ap is_direct (way_is false input below key f)) ∙ sym (comes_direct (inferred_of plan) key input below.op below.inputs m) ∙ sym (ap (comes_keyed (inferred_of plan) key input) is) ∙ h

  -- its input comes as it asks for it, or from a materializer
  sink_takes : (v : ℕ) (node : Node) (input : ℕ) → numbered plan.nodes v ≡ Some node → node.op ≡ op.Sink → node.inputs ≡ input ∷ [] → (out v).edge.update ≡ Absent → AreProper node.inputs
      → ComesDirect plan.sink (out input) ⊎ ComesShown plan.sink (out input)
  sink_takes v node input e is are told_is proper =
      let first : slice_get node.inputs 0 ≡ Some input = ap (λ (xs : List ℕ). slice_get xs 0) are in
      let there = (s.input_there plan meets laws.shaped v node 0 input e first).1 in
      by_test (materializes there.0.op)
      (λ t. let m = materializes_by there.0.op t in inr (shown first there.0 there.1 m.0 m.1))
      (λ f. inl (direct first there.0 there.1 f))
    where
      shown : slice_get node.inputs 0 ≡ Some input → (below : Node) → numbered plan.nodes input ≡ Some below → (key : List ℕ) → below.op ≡ op.Materialize key → ComesShown plan.sink (out input)
      shown first below f key m =
          let u = sink_upserts input below key f m in
          record {
            key = key;
            upserts = u.0;
            key_is = u.1;
            within = shown_within input below key f m;
            proper = proper 0 input first;
            carries = own_carries input below f (ap sinks m);
            tells = shown_tells input below key f m;
            forwards = l.exchanged laws plan ruled v node 0 input e first ∙ ap (λ x. by_columns (asked x 0)) is;
          }

      direct : slice_get node.inputs 0 ≡ Some input → (below : Node) → numbered plan.nodes input ≡ Some below → materializes below.op ≡ false → ComesDirect plan.sink (out input)
      direct first below f m = record {
        asked =
            subst (λ u. IsAsked plan.sink op.Sink u 0 (out input)) told_is
            (subst (λ (x : Op). IsAsked plan.sink x (out v).edge.update 0 (out input)) is (asked_at v node 0 input below e first f (ap normalizes is) m (proper 0 input first)));
        suits = suits_by input below f m plan.sink.mode plan.sink.key (filled v node input e is are);
      }

  pub sink_agrees : (v : ℕ) (node : Node) (input : ℕ) → numbered plan.nodes v ≡ Some node → node.op ≡ op.Sink → v ≡ length plan.nodes → node.inputs ≡ input ∷ [] → AreProper node.inputs → SinkAgrees plan.sink (out input) (out v)
  sink_agrees v node input e is last are proper =
      let first : slice_get node.inputs 0 ≡ Some input = ap (λ (xs : List ℕ). slice_get xs 0) are in
      let there = (s.input_there plan meets laws.shaped v node 0 input e first).1 in
      let below = there.0 in
      let told_is : (out v).edge.update ≡ Absent = own_update v node e ∙ ap (λ x. update_of plan.sources x (out v).sent (out v).update_key (is_taken_at v)) is in
      let outs : map (output_at plan) node.inputs ≡ out input ∷ [] = ap (map (output_at plan)) are in
      let a = s.among plan.nodes input below there.1 in
      let mode_of_input : at no_mode (l.mode_table laws plan ruled) input ≡ record { kinds = (out input).edge.kinds; update = (out input).edge.update } =
      ap (at no_mode (l.mode_table laws plan ruled)) a.number ∙ ap (λ o. unwrap_or o no_mode) (l.own_mode laws plan ruled input below there.1 a)
      ∙ (λ k. record {
        kinds = (ap (edge_kinds (out input).sent) (sym (own_update input below there.1)) ∙ sym (own_carries input below there.1 (input_no_sink v node 0 input below e first there.1))) k;
        update = sym (own_update input below there.1) k;
      }) in
      record {
        comes = sink_takes v node input e is are told_is proper;
        typed =
            sym (the_same (out input).columns (out v).columns
            (sym (λ k. columns_by plan.sources (is k) (map (λ o. Some o.columns) (outs k))) ∙ l.columns_made laws plan ruled v node e));
        keyed = l.keys_are laws plan ruled v node e ∙ ap (λ x. keys_of plan.sources x (map seen (map (output_at plan) node.inputs))) is;
        sends = (l.kinds_are_sent laws plan ruled v node e (all_plain v node e (ap s.takes_parts is)) ∙ (λ k. (flow_of plan.sources (is k) (map (λ o. plain o.sent) (outs k))).sent));
        updates = l.update_key_is laws plan ruled v node e ∙ ap (λ x. update_key_of (first_width (map (output_at plan) node.inputs)) x (map (λ o. o.update_key) (map (output_at plan) node.inputs))) is;
        forwards = l.forwards_last laws plan ruled v node e last;
        tells = told_is;
        prints =
            (l.ruled_mode laws plan ruled v node e).0
            ∙ (λ k. (with_sink plan.sink.mode (l.mode_table laws plan ruled) (is k) (are k) (mode (out v).sent (l.told_by laws plan ruled v (is k)))).kinds)
            ∙ ap (printed plan.sink.mode) mode_of_input;
      }
