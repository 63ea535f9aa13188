-- Plans that are refused for their size, whatever is inferred of them.
use Rattle.std.proofs.Common.{◌≡◌, ℕ, suc, zero, ◌<◌, Bool, true, false, not, cond, ◌||◌, ◌&&◌, List, [], ◌∷◌, length, refl, ap, sym, ◌∙◌}
use Rattle.std.specs.Prelude.{Option, Some}
use Rattle.std.specs.List.{list_all, list_any}
use Rattle.std.proofs.lemmas.Bool.{lt-ltb}
use Rattle.ct_value.specs.declared.codes.ScriptCode.{ScriptCode}
use Rattle.ct_value.specs.declared.codes.ScriptCode.TheVariants.{TooManyNodes}
use Rattle.ct_value.specs.declared.ty.ColTy.{ColTy}
use Rattle.ct_change.specs.Kinds.{has_more_than_inserts}
use Rattle.ct_change.specs.declared.kind.Declared.TheVariants.{Append}
use Rattle.ct_change.specs.declared.kind.KindSet.{KindSet}
use Rattle.ct_change.specs.declared.update.Update.{Update}
use Rattle.ct_change.specs.declared.update.Update.TheVariants.{Absent, After, Both}
use Rattle.ct_catalog.specs.Columns.{column_types}
use Rattle.ct_catalog.specs.declared.settings.Materialize.{Materialize}
use Rattle.ct_catalog.specs.declared.table.TableDef.{TableDef}
use Rattle.phys_plan.specs.Columns.{columns_in}
use Rattle.phys_plan.specs.Reading.{Wire, at, wires}
use Rattle.phys_plan.specs.declared.node.Node.{Node}
use Rattle.phys_plan.specs.declared.node.Op.{Op}
use Rattle.phys_plan.specs.declared.node.Op.TheVariants as op
use Rattle.phys_plan.specs.declared.plan.Plan.{Plan}
use Rattle.mode_infer.specs.Kinds.{flows}
use Rattle.mode_infer.specs.Modes.{all_modes, edge_kinds, edge_modes, modes_of, no_mode, updates, with_sink}
use Rattle.mode_infer.specs.declared.kinds.Flow.{Flow}
use Rattle.mode_infer.specs.declared.modes.EdgeMode.{EdgeMode}
use Rattle.plan_inferred.specs.declared.inferred.Inferred.{Inferred}
use Rattle.plan_inferred.specs.declared.ways.Way.TheVariants.{Direct}
use Rattle.plan_check.specs.Sound.{inferred_of}
use Rattle.plan_check.specs.Types.{keep_nulls}
use Rattle.planner.specs.Planned.{Refused, made, made_by, sink_top}
use Rattle.planner.specs.Refusals.{below_sink, brings_null, changes_rows, has_materializer, has_ties, is_forced, is_large, is_large_with, is_needed, is_off, is_refused, or_else, ranks_rows, refusal, sink_way, tells_more, ties_at, ties_by, way_into}

neither : (a b : Bool) → (a || b) ≡ false → (a ≡ false) × (b ≡ false)
neither true b e = absurd (cc)
neither false b e = (refl, e)

both : (a b : Bool) → (a && b) ≡ true → (a ≡ true) × (b ≡ true)
both true b e = (refl, e)
both false b e = absurd (cc)

-- ---- ties

untied : (inferred : Inferred) (o : Op) (inputs : List ℕ) → ranks_rows o ≡ false → ties_by inferred o inputs ≡ false
untied inferred (op.TopN partition order bound ranked) inputs e = absurd (cc)
untied inferred _ inputs e = refl

no_ties : (inferred : Inferred) (nodes : List Node) → list_any (λ node. ranks_rows node.op) nodes ≡ false → has_ties inferred nodes ≡ false
no_ties inferred [] e = refl
no_ties inferred (node ∷ nodes) e =
    let p = neither (ranks_rows node.op) (list_any (λ (n : Node). ranks_rows n.op) nodes) e in
    ap (λ b. b || list_any (ties_at inferred) nodes) (untied inferred node.op node.inputs p.0) ∙ no_ties inferred nodes p.1

-- ---- NULL

or_true : (b : Bool) → (b || true) ≡ true
or_true true = refl
or_true false = refl

nulls_kept : (columns sinks : List ColTy) → list_all (λ column. column.nullable) sinks ≡ true → keep_nulls columns sinks ≡ true
nulls_kept [] sinks e = refl
nulls_kept (column ∷ columns) [] e = refl
nulls_kept (column ∷ columns) (sink ∷ sinks) e =
    let p = both sink.nullable (list_all (λ (c : ColTy). c.nullable) sinks) e in
    ap (λ b. (not column.nullable || b) && keep_nulls columns sinks) p.0 ∙ ap (λ b. b && keep_nulls columns sinks) (or_true (not column.nullable)) ∙ nulls_kept columns sinks p.1

-- ---- inserts alone

edge_alone : (kinds : KindSet) (update : Update) → has_more_than_inserts kinds ≡ false → has_more_than_inserts (edge_kinds kinds update) ≡ false
edge_alone kinds Absent e = e
edge_alone kinds (After key) e = (neither kinds.ub (kinds.ua || kinds.d) e).1
edge_alone kinds Both e = e

modes_alone : (flows : List Flow) (updates : List Update) → list_any (λ flow. has_more_than_inserts flow.sent) flows ≡ false → list_any tells_more (modes_of flows updates) ≡ false
modes_alone [] updates e = refl
modes_alone (flow ∷ flows) [] e = refl
modes_alone (flow ∷ flows) (update ∷ updates) e =
    let p = neither (has_more_than_inserts flow.sent) (list_any (λ (f : Flow). has_more_than_inserts f.sent) flows) e in
    ap (λ b. b || list_any tells_more (modes_of flows updates)) (edge_alone flow.sent update p.0) ∙ modes_alone flows updates p.1

at_alone : (modes : List EdgeMode) (v : ℕ) → list_any tells_more modes ≡ false → tells_more (at no_mode modes v) ≡ false
at_alone modes zero e = refl
at_alone [] (suc v) e = refl
at_alone (first ∷ modes) (suc zero) e = (neither (tells_more first) (list_any tells_more modes) e).0
at_alone (first ∷ modes) (suc (suc v)) e = at_alone modes (suc v) (neither (tells_more first) (list_any tells_more modes) e).1

sink_alone : (modes : List EdgeMode) (o : Op) (inputs : List ℕ) (own : EdgeMode) → list_any tells_more modes ≡ false → tells_more own ≡ false → tells_more (with_sink Append modes o inputs own) ≡ false
sink_alone modes op.Sink [] own e f = refl
sink_alone modes op.Sink (input ∷ inputs) own e f = at_alone modes input e
sink_alone modes _ inputs own e f = f

all_alone : (modes : List EdgeMode) (ws : List Wire) (own : List EdgeMode) → list_any tells_more modes ≡ false → list_any tells_more own ≡ false → list_any tells_more (all_modes Append modes ws own) ≡ false
all_alone modes [] own e f = refl
all_alone modes (w ∷ ws) [] e f = refl
all_alone modes (w ∷ ws) (one ∷ own) e f =
    let p = neither (tells_more one) (list_any tells_more own) f in
    ap (λ b. b || list_any tells_more (all_modes Append modes ws own)) (sink_alone modes w.op w.inputs one e p.0) ∙ all_alone modes ws own e p.1

-- an append table over flows of inserts alone gets inserts alone
pub inserts_alone : (columns : ℕ → List ColTy) (sources : List TableDef) (sink : TableDef) (ws : List Wire) → sink.mode ≡ Append → list_any (λ flow. has_more_than_inserts flow.sent) (flows sources ws) ≡ false
    → list_any tells_more (edge_modes columns sources sink ws) ≡ false
inserts_alone columns sources sink ws is e =
    let modes : List EdgeMode = modes_of (flows sources ws) (updates columns sources sink ws) in
    let own : list_any tells_more modes ≡ false = modes_alone (flows sources ws) (updates columns sources sink ws) e in
    ap (λ declared. list_any tells_more (all_modes declared modes ws modes)) is ∙ all_alone modes ws modes own own

none_more : (b : Bool) → not b ≡ true → b ≡ false
none_more true e = absurd (cc)
none_more false e = refl

-- what comes to it changes no rows, and comes as it is
pub inserts_taken : (laid : Plan) → laid.sink.mode ≡ Append → (more : Bool) → more ≡ list_any (λ flow. has_more_than_inserts flow.sent) (flows laid.sources (wires laid.nodes)) → not more ≡ true → (setting : Materialize)
    → (changes_rows laid.sink.mode (inferred_of laid).modes ≡ false) × (sink_way (inferred_of laid) laid setting ≡ Direct)
inserts_taken laid is more told e setting =
    let inferred = inferred_of laid in (
      ap (λ mode. changes_rows mode inferred.modes) is ∙ inserts_alone (columns_in inferred.columns) laid.sources laid.sink (wires laid.nodes) is (sym told ∙ none_more more e),
      ap (λ mode. way_into inferred (is_forced setting) mode laid.sink.key (below_sink laid.nodes)) is,
    )

-- ---- the refusal

later : (refused : Bool) (code : ScriptCode) (others : Option ScriptCode) → refused ≡ false → or_else refused code others ≡ others
later true code others e = absurd (cc)
later false code others e = refl

now : (refused : Bool) (code : ScriptCode) (others : Option ScriptCode) → refused ≡ true → or_else refused code others ≡ Some code
now true code others e = refl
now false code others e = absurd (cc)

never : (off : Bool) → cond off false false ≡ false
never true = refl
never false = refl

pub plainly_large : (laid : Plan) (setting : Materialize) → 128 < length laid.nodes → list_any (λ node. ranks_rows node.op) laid.nodes ≡ false → list_all (λ column. column.nullable) (column_types laid.sink) ≡ true
    → changes_rows laid.sink.mode (inferred_of laid).modes ≡ false → sink_way (inferred_of laid) laid setting ≡ Direct → made laid setting ≡ Refused TooManyNodes
plainly_large laid setting many unranked nullable alone direct =
    let inferred = inferred_of laid in
    let way = sink_way inferred laid setting in
    let off = is_off setting in
    let nulls : brings_null inferred laid ≡ false = ap not (nulls_kept _ (column_types laid.sink) nullable) in
    let unneeded : cond off (is_needed way) false ≡ false = ap (λ w. cond off (is_needed w) false) direct ∙ never off in
    let large : is_large laid way ≡ true = ap (λ w. is_large_with (has_materializer w) (length laid.nodes)) direct ∙ lt-ltb 128 (length laid.nodes) many in
    let code : refusal inferred laid setting ≡ Some TooManyNodes =
    later _ _ _ (no_ties inferred laid.nodes unranked) ∙ later _ _ _ alone ∙ later _ _ _ (ap is_refused direct) ∙ later _ _ _ nulls ∙ later _ _ _ unneeded ∙ now _ _ _ large in
    ap (λ c. made_by laid c (sink_top laid setting)) code
