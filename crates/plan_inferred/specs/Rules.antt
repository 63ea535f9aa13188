-- The rules of sound plans that speak of what is inferred, each said of one node by its number, from 1. A number without a node
-- meets them all.
use Rattle.std.specs.Prelude.{ℕ, Bool, true, false, not, ◌&&◌, ◌||◌, cond, List, [], ◌∷◌, Option, None, Some}
use Rattle.std.specs.List.{list_all}
use Rattle.ct_change.specs.declared.kind.Declared.{Declared}
use Rattle.ct_change.specs.declared.kind.Declared.TheVariants.{Append, Retract, Upsert}
use Rattle.phys_plan.specs.declared.edge.Edge.{Edge}
use Rattle.phys_plan.specs.declared.edge.Exchange.{Exchange}
use Rattle.phys_plan.specs.declared.edge.Exchange.TheVariants.{Forward}
use Rattle.ct_change.specs.declared.update.Update.{Update}
use Rattle.ct_change.specs.declared.update.Update.TheVariants.{Absent, After, Both}
use Rattle.phys_plan.specs.declared.node.KeyInfo.{KeyInfo}
use Rattle.phys_plan.specs.declared.node.Node.{Node}
use Rattle.phys_plan.specs.declared.node.Op.{Op}
use Rattle.phys_plan.specs.declared.node.Op.TheVariants as op
use Rattle.phys_plan.specs.declared.plan.Plan.{Plan}
use Rattle.phys_plan.specs.Reading.{numbered, first_input}
use Rattle.mode_infer.specs.declared.kinds.Flow.{Flow}
use Rattle.mode_infer.specs.declared.modes.EdgeMode.{EdgeMode}
use Rattle.ct_change.specs.Kinds.{has_more_than_inserts}
use Rattle.mode_infer.specs.Kinds.{asked, needs_old_rows}
pub use Rattle.mode_infer.specs.Kinds.{by_columns}
use Rattle.mode_infer.specs.Updates.{is_input, port_of}
use Rattle.plan_inferred.specs.declared.ways.Way.{Way}
use Rattle.plan_inferred.specs.declared.ways.Way.TheVariants.{Forced, NewRows, Direct, Materialized, Refused}
use Rattle.plan_inferred.specs.Ways.{way_of}
use Rattle.plan_inferred.specs.declared.inferred.Inferred.{Inferred}
use Rattle.plan_inferred.specs.Same.{same_keys, same_kinds, same_update, same_exchange}

-- ---- Keys: a node says the keys that are inferred

abbrev pub says_keys : Option KeyInfo → Option Node → Bool
says_keys keys None = true
says_keys None (Some node) = false
says_keys (Some keys) (Some node) = same_keys keys node.keys

abbrev pub has_keys : Inferred → Plan → ℕ → Bool
has_keys inferred plan v = says_keys (numbered inferred.keys v) (numbered plan.nodes v)

-- ---- Kinds: its edge carries the kinds that are inferred

abbrev pub says_kinds : Option EdgeMode → Option Edge → Bool
says_kinds mode None = true
says_kinds None (Some edge) = false
says_kinds (Some mode) (Some edge) = same_kinds mode.kinds edge.kinds

abbrev pub has_kinds : Inferred → Plan → ℕ → Bool
has_kinds inferred plan v = says_kinds (numbered inferred.modes v) (numbered plan.edges v)

-- ---- UpdateKind: its edge tells updates as it is inferred, and new rows alone don't come to an operator that needs the old ones

abbrev pub says_update : Option EdgeMode → Option Edge → Bool
says_update mode None = true
says_update None (Some edge) = false
says_update (Some mode) (Some edge) = same_update mode.update edge.update

abbrev pub tells_old_rows : Update → Bool
tells_old_rows Absent = true
tells_old_rows (After key) = false
tells_old_rows Both = true

abbrev pub brings_old_rows : Option Edge → Bool
brings_old_rows None = true
brings_old_rows (Some edge) = tells_old_rows edge.update

abbrev pub has_old_rows : List Edge → Option Node → Bool
has_old_rows edges None = true
has_old_rows edges (Some node) = not (needs_old_rows node.op) || list_all (λ input. brings_old_rows (numbered edges input)) node.inputs

abbrev pub has_update : Inferred → Plan → ℕ → Bool
has_update inferred plan v = says_update (numbered inferred.modes v) (numbered plan.edges v) && has_old_rows plan.edges (numbered plan.nodes v)

-- ---- Exchanged: its edge goes as its consumer asks for it

abbrev pub exchange_by : ℕ → Option Node → Exchange
exchange_by v None = Forward
exchange_by v (Some node) = by_columns (asked node.op (port_of v node.inputs))

-- the first node that has a number among its inputs
abbrev pub consumer : ℕ → List Node → Option Node
consumer v [] = None
consumer v (node ∷ nodes) = cond (is_input v node.inputs) (Some node) (consumer v nodes)

abbrev pub says_exchange : Exchange → Option Edge → Bool
says_exchange exchange None = true
says_exchange exchange (Some edge) = same_exchange exchange edge.exchange

abbrev pub is_exchanged : Plan → ℕ → Bool
is_exchanged plan v = says_exchange (exchange_by v (consumer v plan.nodes)) (numbered plan.edges v)

-- ---- SinkKey: what comes to a sink suits its table

-- as they come
abbrev pub is_direct : Way → Bool
is_direct Forced = false
is_direct NewRows = true
is_direct Direct = true
is_direct Materialized = false
is_direct Refused = false

-- behind a materializer, be it asked for or needed
abbrev pub is_shown : Way → Bool
is_shown Forced = true
is_shown NewRows = false
is_shown Direct = false
is_shown Materialized = true
is_shown Refused = false

-- the way in which a sink with this key takes the changes of a node
abbrev pub way_from : Bool → List ℕ → Option Flow → Option (Option (List ℕ)) → Option KeyInfo → Way
way_from force key (Some flow) (Some update_key) (Some keys) = way_of force key flow.sent update_key keys
way_from force key _ _ _ = Refused

abbrev pub way_at : Inferred → Bool → List ℕ → ℕ → Way
way_at inferred force key input = way_from force key (numbered inferred.flows input) (numbered inferred.update_keys input) (numbered inferred.keys input)

-- a materializer shows one of several rows under a key, so that a key of the rows below it has to hold in answers, or everywhere;
-- other changes go as they are
abbrev pub comes_by : Inferred → List ℕ → ℕ → Op → List ℕ → Bool
comes_by inferred key input (op.Materialize shown) inputs = is_shown (way_at inferred true key (first_input inputs))
comes_by inferred key input _ inputs = is_direct (way_at inferred false key input)

abbrev pub comes_keyed : Inferred → List ℕ → ℕ → Option Node → Bool
comes_keyed inferred key input None = false
comes_keyed inferred key input (Some node) = comes_by inferred key input node.op node.inputs

abbrev pub comes_with_key : Inferred → Option (List ℕ) → ℕ → Option Node → Bool
comes_with_key inferred None input _ = false
comes_with_key inferred (Some key) input node = comes_keyed inferred key input node

abbrev pub inserts_alone : Option EdgeMode → Bool
inserts_alone None = true
inserts_alone (Some mode) = not (has_more_than_inserts mode.kinds)

abbrev pub suits_table : Inferred → List Node → Declared → Option (List ℕ) → ℕ → Bool
suits_table inferred nodes Append key input = inserts_alone (numbered inferred.modes input)
suits_table inferred nodes Retract key input = true
suits_table inferred nodes Upsert key input = comes_with_key inferred key input (numbered nodes input)

abbrev pub fills : Inferred → Plan → Op → List ℕ → Bool
fills inferred plan op.Sink inputs = suits_table inferred plan.nodes plan.sink.mode plan.sink.key (first_input inputs)
fills inferred plan _ inputs = true

abbrev pub fills_sink : Inferred → Plan → Option Node → Bool
fills_sink inferred plan None = true
fills_sink inferred plan (Some node) = fills inferred plan node.op node.inputs

abbrev pub suits_sink : Inferred → Plan → ℕ → Bool
suits_sink inferred plan v = fills_sink inferred plan (numbered plan.nodes v)
