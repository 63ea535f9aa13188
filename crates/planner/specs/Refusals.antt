-- Which plans of scripts are refused, by what is inferred of them and by the script's setting for materializers.
use Rattle.std.specs.Prelude.{ℕ, nat_le, nat_lt, Bool, true, false, not, cond, List, [], ◌++◌, length, map, Option, None, Some}
use Rattle.std.specs.List.{list_any}
use Rattle.ct_value.specs.declared.codes.ScriptCode.{ScriptCode}
use Rattle.ct_value.specs.declared.codes.ScriptCode.TheVariants.{Ties, SinkMode, SinkKeyNotUnique, SinkNull, MaterializeOff, TooManyNodes}
use Rattle.ct_change.specs.declared.kind.Declared.{Declared}
use Rattle.ct_change.specs.declared.kind.Declared.TheVariants.{Append, Retract, Upsert}
use Rattle.ct_catalog.specs.declared.settings.Materialize.{Materialize}
use Rattle.ct_catalog.specs.declared.settings.Materialize.TheVariants as setting
use Rattle.rel_algebra.specs.declared.sort.SortCol.{SortCol}
use Rattle.phys_plan.specs.declared.node.KeyInfo.{KeyInfo}
use Rattle.phys_plan.specs.declared.node.Node.{Node}
use Rattle.phys_plan.specs.declared.node.Op.{Op}
use Rattle.phys_plan.specs.declared.node.Op.TheVariants as op
use Rattle.phys_plan.specs.declared.plan.Plan.{Plan}
use Rattle.column_sets.specs.Sets.{has_within}
use Rattle.phys_plan.specs.Reading.{numbered, first_input}
use Rattle.phys_plan.specs.Columns.{columns_in}
use Rattle.mode_infer.specs.declared.modes.EdgeMode.{EdgeMode}
use Rattle.ct_change.specs.Kinds.{has_more_than_inserts}
use Rattle.plan_inferred.specs.declared.ways.Way.{Way}
use Rattle.plan_inferred.specs.declared.ways.Way.TheVariants.{Forced, NewRows, Direct, Materialized, Refused}
use Rattle.ct_catalog.specs.Columns.{column_types}
use Rattle.plan_shape.specs.Shape.{most_nodes}
use Rattle.plan_inferred.specs.declared.inferred.Inferred.{Inferred}
use Rattle.plan_inferred.specs.Rules.{way_at}
use Rattle.plan_check.specs.Types.{keep_nulls}

-- ---- ties: no key of a Top-N's input lies in its partition and its order, so that rows may stand at one rank

abbrev pub order_columns : List SortCol → List ℕ
order_columns order = map (λ sort. sort.col) order

-- whether it ranks rows
abbrev pub ranks_rows : Op → Bool
ranks_rows (op.TopN partition order bound ranked) = true
ranks_rows _ = false

abbrev pub names_rows : Option KeyInfo → List ℕ → Bool
names_rows None columns = false
names_rows (Some keys) columns = has_within keys.unique columns

abbrev pub ties_by : Inferred → Op → List ℕ → Bool
ties_by inferred (op.TopN partition order bound ranked) inputs = not (names_rows (numbered inferred.keys (first_input inputs)) (partition ++ order_columns order))
ties_by inferred _ inputs = false

abbrev pub ties_at : Inferred → Node → Bool
ties_at inferred node = ties_by inferred node.op node.inputs

abbrev pub has_ties : Inferred → List Node → Bool
has_ties inferred nodes = list_any (ties_at inferred) nodes

-- ---- an append table, and an edge that carries more than inserts

abbrev pub tells_more : EdgeMode → Bool
tells_more mode = has_more_than_inserts mode.kinds

abbrev pub changes_rows : Declared → List EdgeMode → Bool
changes_rows Append modes = list_any tells_more modes
changes_rows Retract modes = false
changes_rows Upsert modes = false

-- ---- the way in which an upsert table takes what comes

-- the node below the sink, which is the last
abbrev pub inputs_in : Option Node → List ℕ
inputs_in None = []
inputs_in (Some node) = node.inputs

abbrev pub below_sink : List Node → ℕ
below_sink nodes = first_input (inputs_in (numbered nodes (length nodes)))

abbrev pub is_forced : Materialize → Bool
is_forced setting.None = false
is_forced setting.Auto = false
is_forced setting.Force = true

abbrev pub is_off : Materialize → Bool
is_off setting.None = true
is_off setting.Auto = false
is_off setting.Force = false

abbrev pub way_with : Inferred → Bool → Option (List ℕ) → ℕ → Way
way_with inferred force None input = Refused
way_with inferred force (Some key) input = way_at inferred force key input

-- tables of other modes take what comes as it is
abbrev pub way_into : Inferred → Bool → Declared → Option (List ℕ) → ℕ → Way
way_into inferred force Append key input = Direct
way_into inferred force Retract key input = Direct
way_into inferred force Upsert key input = way_with inferred force key input

abbrev pub sink_way : Inferred → Plan → Materialize → Way
sink_way inferred plan setting = way_into inferred (is_forced setting) plan.sink.mode plan.sink.key (below_sink plan.nodes)

abbrev pub is_refused : Way → Bool
is_refused Forced = false
is_refused NewRows = false
is_refused Direct = false
is_refused Materialized = false
is_refused Refused = true

-- a materializer is needed where the script has none
abbrev pub is_needed : Way → Bool
is_needed Forced = false
is_needed NewRows = false
is_needed Direct = false
is_needed Materialized = true
is_needed Refused = false

-- ---- NULL where it may not stand, and the number of nodes

abbrev pub brings_null : Inferred → Plan → Bool
brings_null inferred plan = not (keep_nulls (columns_in inferred.columns (below_sink plan.nodes)) (column_types plan.sink))

-- behind a materializer
abbrev pub has_materializer : Way → Bool
has_materializer Forced = true
has_materializer NewRows = false
has_materializer Direct = false
has_materializer Materialized = true
has_materializer Refused = false

-- more than so many nodes, with the materializer where there is one
abbrev pub is_large_with : Bool → ℕ → Bool
is_large_with true nodes = nat_le most_nodes nodes
is_large_with false nodes = nat_lt most_nodes nodes

abbrev pub is_large : Plan → Way → Bool
is_large plan way = is_large_with (has_materializer way) (length plan.nodes)

-- ---- the first refusal

abbrev pub or_else : Bool → ScriptCode → Option ScriptCode → Option ScriptCode
or_else refused code later = cond refused (Some code) later

abbrev pub first_refusal : Inferred → Plan → Bool → Way → Option ScriptCode
first_refusal inferred plan off way =
    or_else (has_ties inferred plan.nodes) Ties
    (or_else (changes_rows plan.sink.mode inferred.modes) SinkMode
    (or_else (is_refused way) SinkKeyNotUnique
    (or_else (brings_null inferred plan) SinkNull
    (or_else (cond off (is_needed way) false) MaterializeOff
    (or_else (is_large plan way) TooManyNodes None)))))

abbrev pub refusal : Inferred → Plan → Materialize → Option ScriptCode
refusal inferred plan setting = first_refusal inferred plan (is_off setting) (sink_way inferred plan setting)
