-- An operator that needs old rows takes no edge that tells new rows alone, where edges tell updates as it is inferred.
use Rattle.std.specs.Prelude.{◌≡◌, ℕ, ◌+◌, ◌-◌, Bool, ◌&&◌, ◌||◌, not, cond, drop, List, slice_get, Option, unwrap_or}
use Rattle.std.proofs.Common.{suc, true, false, [], ◌∷◌, refl, sym, ap, ◌∙◌, arith, Some, None}
use Rattle.std.specs.List.{list_all}
use Rattle.ct_value.specs.declared.ty.ColTy.{ColTy}
use Rattle.ct_change.specs.declared.kind.Declared.{Declared}
use Rattle.ct_change.specs.declared.kind.Declared.TheVariants.{Append, Retract, Upsert}
use Rattle.ct_change.specs.declared.kind.KindSet.{KindSet}
use Rattle.ct_catalog.specs.declared.table.TableDef.{TableDef}
use Rattle.phys_plan.specs.declared.edge.Edge.{Edge}
use Rattle.ct_change.specs.declared.update.Update.{Update}
use Rattle.ct_change.specs.declared.update.Update.TheVariants.{Absent, After, Both}
use Rattle.phys_plan.specs.declared.node.Node.{Node}
use Rattle.phys_plan.specs.declared.node.Op.{Op}
use Rattle.phys_plan.specs.declared.node.Op.TheVariants as op
use Rattle.phys_plan.specs.declared.plan.Plan.{Plan}
use Rattle.phys_plan.specs.Reading.{at, numbered as item, wires, numbered}
use Rattle.mode_infer.specs.declared.kinds.Flow.{Flow}
use Rattle.mode_infer.specs.declared.modes.EdgeMode.{EdgeMode}
use Rattle.mode_infer.specs.Kinds.{Taking, all_rows, new_rows, flows, needs_old, needs_old_rows, no_flow, reads, takes_new}
use Rattle.plan_rules.specs.Plans.{kinds_in}
use Rattle.mode_infer.specs.Modes.{edge_kinds, edge_modes, mode, moded, modes_of, no_mode, updates, with_sink}
use Rattle.mode_infer.specs.UpdateKeys.{update_keys}
use Rattle.mode_infer.specs.Updates.{in_full, is_taken, port_of, scan_update, table_update, takes, told, update_of}
use Rattle.plan_inferred.specs.Rules.{brings_old_rows, has_old_rows, tells_old_rows}
use Rattle.plan_shape.specs.Shape.{is_read, is_sink, normalizes_by, suits_consumer}
use Rattle.plan_shape.specs.Shaped.{MeetsShape, ShapedPlansHaveShape}
use Rattle.ct_change.specs.Kinds.{is_upsert}
use Rattle.plan_rules.specs.Behaviours.{has_rule}
use Rattle.sound_plans.proofs.laws.Consumers.{by_test, only_behind, taken_is}
use Rattle.sound_plans.proofs.laws.Lists.{drop_at, found}
use Rattle.sound_plans.proofs.laws.Modes as m
use Rattle.sound_plans.proofs.laws.Shapes as s
use Rattle.laid_plans.proofs.laws.Edges.{mode_given}
use Rattle.laid_plans.proofs.laws.Same.{both_hold}
use Rattle.laid_plans.proofs.laws.Tables.{flows_many, updates_many}

-- ---- one operator

-- an operator that needs old rows takes no new rows alone
takes_none : (sink : TableDef) (o : Op) (port : ℕ) (update : Update) (key : List ℕ) → needs_old_rows o ≡ true → takes sink o port update key ≡ false
takes_none sink o port update key n = by (reads o).updates n
  where
    by : (updates : Taking) → needs_old updates ≡ true → takes_new updates port sink update key ≡ false
    by (all_rows needed) e = refl
    by (new_rows taken) e = absurd (cc)

-- in full the old rows are told
full_tells : (kinds : KindSet) → tells_old_rows (in_full kinds) ≡ true
full_tells kinds = go kinds.ua
  where
    go : (b : Bool) → tells_old_rows (cond b Both Absent) ≡ true
    go true = refl
    go false = refl

-- where the new rows alone aren't taken, the old ones are told
told_tells : (kinds : KindSet) (key : Option (List ℕ)) (taken : Bool) → taken ≡ false → tells_old_rows (told kinds key taken) ≡ true
told_tells kinds None taken e = full_tells kinds
told_tells kinds (Some key) taken e =
    ap (λ b. tells_old_rows (cond b (After key) (in_full kinds))) (and_false kinds.ua taken e) ∙ full_tells kinds
  where
    and_false : (a b : Bool) → b ≡ false → (a && b) ≡ false
    and_false true b f = f
    and_false false b f = refl

-- a normalizer alone reads an upsert table
not_normalized : (key : Option (List ℕ)) (o : Op) → needs_old_rows o ≡ true → normalizes_by key (Some o) ≡ false
not_normalized None o n = refl
not_normalized (Some key) (op.Normalize by) n = absurd (cc)
not_normalized (Some key) _ n = refl

-- a table that isn't an upsert table tells in full
table_tells : (mode : Declared) (key : Option (List ℕ)) (kinds : KindSet) → (not (is_upsert mode) || false) ≡ true → tells_old_rows (table_update mode key kinds) ≡ true
table_tells Append key kinds r = full_tells kinds
table_tells Retract key kinds r = full_tells kinds
table_tells Upsert key kinds r = absurd (cc)

-- so does a scan under an operator that needs old rows
scan_tells : (table : Option TableDef) (kinds : KindSet) (above : Op) → needs_old_rows above ≡ true → is_read table (Some above) ≡ true → tells_old_rows (scan_update table kinds) ≡ true
scan_tells None kinds above n r = full_tells kinds
scan_tells (Some table) kinds above n r =
    table_tells table.mode table.key kinds (sym (ap (λ b. not (is_upsert table.mode) || b) (not_normalized table.key above n)) ∙ r)

-- the sink needs no old rows
no_sink_needs : (above : Op) → needs_old_rows above ≡ true → is_sink (Some above) ≡ true → ⊥
no_sink_needs op.Sink n s = cc
no_sink_needs _ n s = cc

-- an operator with a rule tells old rows to one that needs them
update_tells : (sources : List TableDef) (o : Op) (kinds : KindSet) (key : Option (List ℕ)) (taken : Bool) (above : Op) → has_rule o ≡ true → taken ≡ false → needs_old_rows above ≡ true → suits_consumer sources o (Some above) ≡ true
    → tells_old_rows (update_of sources o kinds key taken) ≡ true
update_tells sources (op.Scan source) kinds key taken above r e n suits = scan_tells (slice_get sources source) kinds above n suits
update_tells sources (op.Materialize shown) kinds key taken above r e n suits = absurd (no_sink_needs above n suits)
update_tells sources op.Sink kinds key taken above r e n suits = refl
update_tells sources _ kinds key taken above r e n suits = told_tells kinds key taken e

-- nor does the edge of a sink leave them out
sunk_tells : (declared : Declared) (modes : List EdgeMode) (o : Op) (inputs : List ℕ) (own : EdgeMode) → tells_old_rows own.update ≡ true → tells_old_rows (with_sink declared modes o inputs own).update ≡ true
sunk_tells declared modes op.Sink inputs own e = refl
sunk_tells declared modes _ inputs own e = e

-- each of some inputs
all_bring : (edges : List Edge) (inputs : List ℕ) → ((p input : ℕ) → slice_get inputs p ≡ Some input → brings_old_rows (item edges input) ≡ true) → list_all (λ input. brings_old_rows (item edges input)) inputs ≡ true
all_bring edges [] h = refl
all_bring edges (input ∷ inputs) h =
    both_hold (brings_old_rows (item edges input)) (list_all (λ other. brings_old_rows (item edges other)) inputs) (h 0 input refl) (all_bring edges inputs (λ p other e. h (suc p) other e))

-- ---- plans

module _ (plan : Plan) (meets : MeetsShape plan) (shaped : ShapedPlansHaveShape) (rules : (v : ℕ) (node : Node) → numbered plan.nodes v ≡ Some node → has_rule node.op ≡ true) (columns : ℕ → List ColTy) where
  -- what is inferred of the plan, over these columns: the kinds that nodes send
  abbrev sent : List Flow
  sent = flows plan.sources (wires plan.nodes)

  -- their update keys
  abbrev by_keys : List (Option (List ℕ))
  by_keys = update_keys columns (wires plan.nodes)

  -- how their edges tell updates
  abbrev told_by : List Update
  told_by = updates columns plan.sources plan.sink (wires plan.nodes)

  -- and the modes of the edges
  abbrev modes : List EdgeMode
  modes = edge_modes columns plan.sources plan.sink (wires plan.nodes)

  -- whether an input's consumer takes its new rows alone
  abbrev taken_at : ℕ → Bool
  taken_at input = is_taken plan.sink (at None by_keys input) input (wires (drop input plan.nodes)) (drop input told_by)

  -- it doesn't, where it needs old rows
  not_taken : (v : ℕ) (node : Node) (p input : ℕ) → numbered plan.nodes v ≡ Some node → slice_get node.inputs p ≡ Some input → needs_old_rows node.op ≡ true
      → (key : Option (List ℕ)) → is_taken plan.sink key input (wires (drop input plan.nodes)) (drop input told_by) ≡ false
  not_taken v node p input e h n None = refl
  not_taken v node p input e h n (Some key) =
      let a = s.among plan.nodes v node e in
      let there = (s.input_there plan meets shaped v node p input e h).1 in
      let k = a.place - input in
      let number : input + k ≡ a.place = let l = there.2 in let g = a.number in omega arith in
      let many = updates_many columns plan.sources plan.sink plan.nodes in
      let own = found told_by a.place (let f = a.few in let g = a.number in omega (arith, many)) in
      let its : slice_get (drop input told_by) k ≡ Some own.0 = drop_at told_by input k ∙ ap (slice_get told_by) number ∙ own.1 in
      taken_is plan.sink key input (drop input plan.nodes) (drop input told_by) k node own.0 (only_behind input plan.nodes a.place k node number (s.consumes plan meets shaped v node p input e h a)) its
      ∙ takes_none plan.sink node.op (port_of input node.inputs) own.0 key n

  -- so the mode of the input's edge tells them
  mode_tells : (v : ℕ) (node : Node) (p input : ℕ) (below : Node) → numbered plan.nodes v ≡ Some node → slice_get node.inputs p ≡ Some input → needs_old_rows node.op ≡ true → numbered plan.nodes input ≡ Some below
      → (a : s.IsAmong plan.nodes input below) → tells_old_rows (at no_mode modes (suc a.place)).update ≡ true
  mode_tells v node p input below e h n f a =
      let many = flows_many plan.sources plan.nodes in
      let flow = found sent a.place (let l = a.few in let g = a.number in omega (arith, many)) in
      let update = m.told_at plan.sources plan.sink sent by_keys (suc a.place) below.op (wires (drop (suc a.place) plan.nodes)) (drop (suc a.place) told_by) in
      let own = m.mode_at sent told_by a.place flow.0 update flow.1 (m.update_at plan.sources plan.sink sent by_keys plan.nodes a.place below a.is) in
      let sunk = m.sunk_at plan.sink.mode (modes_of sent told_by) plan.nodes (modes_of sent told_by) a.place below _ a.is own in
      let taken : taken_at (suc a.place) ≡ false = ap taken_at (sym a.number) ∙ not_taken v node p input e h n (at None by_keys input) in
      ap (λ o. tells_old_rows (unwrap_or o no_mode).update) sunk
      ∙ sunk_tells plan.sink.mode (modes_of sent told_by) below.op below.inputs _
      (update_tells plan.sources below.op (at no_flow sent (suc a.place)).sent (at None by_keys (suc a.place)) (taken_at (suc a.place)) node.op (rules input below f) taken n
      (s.suits_above plan meets shaped v node p input below e h f))

  -- and so does the edge that is given it
  brings : (v : ℕ) (node : Node) (p input : ℕ) → numbered plan.nodes v ≡ Some node → slice_get node.inputs p ≡ Some input → needs_old_rows node.op ≡ true → brings_old_rows (item (moded modes plan.edges) input) ≡ true
  brings v node p input e h n =
      let there = (s.input_there plan meets shaped v node p input e h).1 in
      let a = s.among plan.nodes input there.0 there.1 in
      let many = s.edges_many plan meets shaped in
      let edge = found plan.edges a.place (let l = a.few in let g = a.number in omega (arith, many)) in
      ap (λ i. brings_old_rows (item (moded modes plan.edges) i)) a.number
      ∙ ap brings_old_rows (mode_given modes plan.edges a.place edge.0 edge.1)
      ∙ mode_tells v node p input there.0 e h n there.1 a

  -- such an edge carries all that its node sends
  pub carries_all : (v : ℕ) (node : Node) (p input : ℕ) (below : Node) → numbered plan.nodes v ≡ Some node → slice_get node.inputs p ≡ Some input → needs_old_rows node.op ≡ true → numbered plan.nodes input ≡ Some below
      → kinds_in (item (moded modes plan.edges) input) ≡ (at no_flow sent input).sent
  carries_all v node p input below e h n f =
      let a = s.among plan.nodes input below f in
      let many = s.edges_many plan meets shaped in
      let edge = found plan.edges a.place (let l = a.few in let g = a.number in omega (arith, many)) in
      let count = flows_many plan.sources plan.nodes in
      let flow = found sent a.place (let l = a.few in let g = a.number in omega (arith, count)) in
      let update = m.told_at plan.sources plan.sink sent by_keys (suc a.place) below.op (wires (drop (suc a.place) plan.nodes)) (drop (suc a.place) told_by) in
      let own = m.mode_at sent told_by a.place flow.0 update flow.1 (m.update_at plan.sources plan.sink sent by_keys plan.nodes a.place below a.is) in
      let sunk = m.sunk_at plan.sink.mode (modes_of sent told_by) plan.nodes (modes_of sent told_by) a.place below _ a.is own in
      let there = (s.input_there plan meets shaped v node p input e h).1 in
      let b = s.among plan.nodes v node e in
      let other : is_sink (Some below.op) ≡ false = s.inner_no_sink plan meets shaped input below f (let l = there.2 in let w = b.few in omega (arith, l, w)) in
      let tells : tells_old_rows (with_sink plan.sink.mode (modes_of sent told_by) below.op below.inputs (mode flow.0.sent update)).update ≡ true =
      sym (ap (λ o. tells_old_rows (unwrap_or o no_mode).update) sunk) ∙ mode_tells v node p input below e h n f a in
      ap (λ i. kinds_in (item (moded modes plan.edges) i)) a.number
      ∙ ap kinds_in (mode_given modes plan.edges a.place edge.0 edge.1)
      ∙ ap (λ o. (unwrap_or o no_mode).kinds) sunk
      ∙ unsunk below.op below.inputs flow.0.sent update other tells
      ∙ ap (λ o. (unwrap_or o no_flow).sent) (sym flow.1)
      ∙ ap (λ i. (at no_flow sent i).sent) (sym a.number)
    where
      full : (kinds : KindSet) (update : Update) → tells_old_rows update ≡ true → edge_kinds kinds update ≡ kinds
      full kinds Absent t = refl
      full kinds (After key) t = absurd (cc)
      full kinds Both t = refl

      unsunk : (o : Op) (inputs : List ℕ) (kinds : KindSet) (update : Update) → is_sink (Some o) ≡ false → tells_old_rows (with_sink plan.sink.mode (modes_of sent told_by) o inputs (mode kinds update)).update ≡ true
          → (with_sink plan.sink.mode (modes_of sent told_by) o inputs (mode kinds update)).kinds ≡ kinds
      unsunk op.Sink inputs kinds update other t = absurd (cc)
      unsunk _ inputs kinds update other t = full kinds update t

  -- new rows alone don't come to an operator that needs the old ones
  pub old_rows_come : (v : ℕ) (node : Node) → numbered plan.nodes v ≡ Some node → has_old_rows (moded modes plan.edges) (Some node) ≡ true
  old_rows_come v node e =
      by_test (needs_old_rows node.op)
      (λ n.
      ap (λ b. not b || list_all (λ input. brings_old_rows (item (moded modes plan.edges) input)) node.inputs) n
      ∙ all_bring (moded modes plan.edges) node.inputs (λ p input h. brings v node p input e h n))
      (λ n. ap (λ b. not b || list_all (λ input. brings_old_rows (item (moded modes plan.edges) input)) node.inputs) n)
