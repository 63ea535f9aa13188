-- The mode of each edge: the kinds that it carries, and how it tells updates.
use Rattle.std.specs.Prelude.{ℕ, ◌+◌, true, false, List, [], ◌∷◌}
use Rattle.ct_value.specs.declared.ty.ColTy.{ColTy}
use Rattle.ct_change.specs.declared.kind.KindSet.{KindSet}
use Rattle.ct_change.specs.declared.kind.Declared.{Declared}
use Rattle.ct_change.specs.declared.kind.Declared.TheVariants.{Append, Retract, Upsert}
use Rattle.ct_catalog.specs.declared.table.TableDef.{TableDef}
use Rattle.phys_plan.specs.declared.edge.Edge.{Edge}
use Rattle.ct_change.specs.declared.update.Update.{Update}
use Rattle.ct_change.specs.declared.update.Update.TheVariants.{Absent, After, Both}
use Rattle.phys_plan.specs.declared.node.Op.{Op}
use Rattle.phys_plan.specs.declared.node.Op.TheVariants as op
use Rattle.phys_plan.specs.Reading.{Wire, at}
use Rattle.mode_infer.specs.declared.modes.EdgeMode.{EdgeMode}
use Rattle.mode_infer.specs.declared.kinds.Flow.{Flow}
use Rattle.mode_infer.specs.Kinds.{flows, no_kinds, kind_set}
use Rattle.mode_infer.specs.UpdateKeys.{update_keys}
use Rattle.mode_infer.specs.Updates.{updates_behind}

-- the updates of all edges; `columns` are those that each node sends
abbrev pub updates : (ℕ → List ColTy) → List TableDef → TableDef → List Wire → List Update
updates columns sources sink ws = updates_behind sources sink (flows sources ws) (update_keys columns ws) 0 ws

-- an edge that tells new rows alone has no -U
abbrev pub edge_kinds : KindSet → Update → KindSet
edge_kinds kinds Absent = kinds
edge_kinds kinds (After key) = kind_set kinds.i false kinds.ua kinds.d
edge_kinds kinds Both = kinds

abbrev pub mode : KindSet → Update → EdgeMode
mode kinds update = record { kinds = edge_kinds kinds update; update = update }

abbrev pub modes_of : List Flow → List Update → List EdgeMode
modes_of [] updates = []
modes_of (flow ∷ flows) [] = []
modes_of (flow ∷ flows) (update ∷ updates) = mode flow.sent update ∷ modes_of flows updates

-- ---- the sink

abbrev pub no_mode : EdgeMode
no_mode = record { kinds = no_kinds; update = Absent }

-- an upsert sink prints both halves of an update, as +I and -D
abbrev pub upsert_kinds : KindSet → Update → KindSet
upsert_kinds kinds Absent = kinds
upsert_kinds kinds (After key) = kinds
upsert_kinds kinds Both = kind_set true false false true

-- the kinds that a sink prints of what comes over an edge
abbrev pub printed : Declared → EdgeMode → KindSet
printed Append input = input.kinds
printed Retract input = input.kinds
printed Upsert input = upsert_kinds input.kinds input.update

abbrev pub first_mode : List EdgeMode → List ℕ → EdgeMode
first_mode modes [] = no_mode
first_mode modes (input ∷ inputs) = at no_mode modes input

-- the edge of a sink has the kinds that it prints, and no updates
abbrev pub sink_mode : Declared → List EdgeMode → List ℕ → EdgeMode
sink_mode declared modes inputs = record { kinds = printed declared (first_mode modes inputs); update = Absent }

-- the mode of a node's edge, from the one that it has where a sink counts like any other node
abbrev pub with_sink : Declared → List EdgeMode → Op → List ℕ → EdgeMode → EdgeMode
with_sink declared modes op.Sink inputs own = sink_mode declared modes inputs
with_sink declared modes _ inputs own = own

-- ---- all edges

-- each with its node; `modes` are those that all have where a sink counts like any other node
abbrev pub all_modes : Declared → List EdgeMode → List Wire → List EdgeMode → List EdgeMode
all_modes declared modes [] own = []
all_modes declared modes (w ∷ ws) [] = []
all_modes declared modes (w ∷ ws) (one ∷ own) = with_sink declared modes w.op w.inputs one ∷ all_modes declared modes ws own

abbrev pub with_sinks : Declared → List Wire → List EdgeMode → List EdgeMode
with_sinks declared ws modes = all_modes declared modes ws modes

-- the modes of the edges of a plan's nodes; `columns` are those that each node sends
abbrev pub edge_modes : (ℕ → List ColTy) → List TableDef → TableDef → List Wire → List EdgeMode
edge_modes columns sources sink ws = with_sinks sink.mode ws (modes_of (flows sources ws) (updates columns sources sink ws))

-- edges that are numbered from here, each with its mode in a table of those of all
abbrev pub moded_from : ℕ → List EdgeMode → List Edge → List Edge
moded_from v table [] = []
moded_from v table (edge ∷ edges) = record { exchange = edge.exchange; kinds = (at no_mode table v).kinds; update = (at no_mode table v).update } ∷ moded_from (v + 1) table edges

abbrev pub moded : List EdgeMode → List Edge → List Edge
moded table edges = moded_from 1 table edges
