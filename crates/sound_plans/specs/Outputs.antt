-- What a node of a plan sends, and the edge of the network that carries it.
use Rattle.std.specs.Prelude.{◌≡◌, ℕ, ◌<◌, true, List, [], ◌∷◌, length, map, slice_index_or, Option, None, Some, unwrap_or}
use Rattle.std.specs.List.{AllByRecursion}
use Rattle.ct_value.specs.declared.ty.ColTy.{ColTy}
use Rattle.ct_field.specs.Typed.{row_fits}
use Rattle.ct_change.specs.declared.kind.KindSet.{KindSet}
use Rattle.ct_catalog.specs.declared.table.TableDef.{TableDef}
use Rattle.phys_plan.specs.declared.edge.Edge.{Edge as PlanEdge}
use Rattle.ct_change.specs.declared.update.Update.{Update}
use Rattle.phys_plan.specs.declared.edge.Exchange.TheVariants.{Forward, Hash}
use Rattle.ct_change.specs.declared.update.Update.TheVariants.{Absent, After, Both}
use Rattle.phys_plan.specs.declared.node.KeyInfo.{KeyInfo}
use Rattle.op_rules.specs.Edges.{meaning_of, partials, Edge}
use Rattle.column_sets.specs.Sets.{is_within}
use Rattle.phase_rules.specs.LocalGrouping.{LocalGrouping, partials_of}
use Rattle.plan_rules.specs.Plans.{exchange_of, route_by, meaning_by, change_fits}
use Rattle.ct_catalog.specs.Columns.{table_mode}
use Rattle.plan_rules.specs.Around.{Around, Side, no_kinds}
use Rattle.plan_rules.specs.Phases.{is_sent}
use Rattle.upsert_keys.specs.Seen.{seen_over}
use Rattle.phys_plan.specs.Reading.{no_keys}
use Rattle.upsert_keys.specs.declared.seen.Seen.{Seen}

-- what a node sends: its columns, its edge and its keys; the kinds that it sends as long as no edge leaves out old rows, and its
-- update key
pub record Output : Type 0 where
  pub columns : List ColTy
  pub edge : PlanEdge
  pub keys : KeyInfo
  pub sent : KindSet
  pub update_key : Option (List ℕ)

-- the edge of the network, in so many subtasks
abbrev pub edge_of : ℕ → Output → Edge
edge_of many out = record {
  meaning = meaning_by out.edge.update;
  exchange = exchange_of out.edge.exchange;
  route = route_by many out.columns (exchange_of out.edge.exchange);
  kinds = out.edge.kinds;
  fits = change_fits (meaning_by out.edge.update) out.columns;
  holds = λ row. row_fits out.columns row;
  unique = out.keys.unique;
  local = out.keys.local;
  fixing = out.keys.fixing;
}

-- that of a sink, whose changes are read as its table declares
abbrev pub printed_edge : ℕ → TableDef → Output → Edge
printed_edge many sink out = record {
  meaning = meaning_of (table_mode sink);
  exchange = exchange_of out.edge.exchange;
  route = route_by many out.columns (exchange_of out.edge.exchange);
  kinds = out.edge.kinds;
  fits = change_fits (meaning_of (table_mode sink)) out.columns;
  holds = λ row. row_fits out.columns row;
  unique = out.keys.unique;
  local = out.keys.local;
  fixing = out.keys.fixing;
}

-- that of a local group, over which its partial rows go
abbrev pub partial_edge : ℕ → LocalGrouping → Output → Edge
partial_edge many l out = record {
  meaning = partials (partials_of l);
  exchange = exchange_of out.edge.exchange;
  route = route_by many out.columns (exchange_of out.edge.exchange);
  kinds = out.edge.kinds;
  fits = is_sent l;
  holds = λ row. row_fits out.columns row;
  unique = out.keys.unique;
  local = out.keys.local;
  fixing = out.keys.fixing;
}

-- what comes to a local group, as it would come by key columns if no local group stood there
abbrev pub without_local : List ℕ → Output → Output
without_local key input = record {
  columns = input.columns;
  edge = record { exchange = Hash key; kinds = input.edge.kinds; update = input.edge.update };
  keys = no_keys;
  sent = input.sent;
  update_key = input.update_key;
}

-- of a node that isn't there
abbrev pub no_output : Output
no_output = record { columns = []; edge = record { exchange = Forward; kinds = no_kinds; update = Absent }; keys = no_keys; sent = no_kinds; update_key = None }

-- the edges that feed the ports of a node
abbrev pub edges_of : ℕ → List Output → ℕ → Edge
edges_of many inputs port = edge_of many (slice_index_or inputs port no_output)

-- what its consumer sees of its keys
abbrev pub seen : Output → Seen
seen out = seen_over out.edge.exchange out.columns out.keys

-- ---- columns are there

abbrev pub AreWithin : ℕ → List ℕ → Type 0
AreWithin width columns = AllByRecursion (λ column. column < width) columns

-- where an edge tells of a row that went its key alone, that tells the sets which fix a row's subtask
abbrev pub AreTold : Update → List (List ℕ) → Type 0
AreTold Absent sets = Unit {0}
AreTold (After key) sets = AllByRecursion (λ set. is_within set key ≡ true) sets
AreTold Both sets = Unit {0}

-- the columns of its keys and of its update key are among those that it sends, and a key that is told alone tells the subtask; rows
-- come, and where old rows go new ones come
pub record IsProper (out : Output) : Type 0 where
  pub unique : AllByRecursion (AreWithin (length out.columns)) out.keys.unique
  pub local : AllByRecursion (AreWithin (length out.columns)) out.keys.local
  pub fixing : AllByRecursion (AreWithin (length out.columns)) out.keys.fixing
  pub update_key : (key : List ℕ) → out.update_key ≡ Some key → AreWithin (length out.columns) key
  pub told : AreTold out.edge.update out.keys.fixing
  pub inserts : out.sent.i ≡ true
  pub replaces : out.sent.ub ≡ true → out.sent.ua ≡ true

-- ---- what is around a node

abbrev pub side_of : Output → Side
side_of input = record { kinds = input.edge.kinds; input = input.edge.update; columns = input.columns }

abbrev pub first_kinds : List Output → KindSet
first_kinds [] = no_kinds
first_kinds (input ∷ inputs) = input.edge.kinds

abbrev pub first_update : List Output → Update
first_update [] = Both
first_update (input ∷ inputs) = input.edge.update

abbrev pub first_columns_of : List Output → List ColTy
first_columns_of [] = []
first_columns_of (input ∷ inputs) = input.columns

abbrev pub others_of : List Output → List Side
others_of [] = []
others_of (input ∷ inputs) = map side_of inputs

abbrev pub around_sent : Option LocalGrouping → TableDef → List Output → Output → Around
around_sent partial sink inputs own = record {
  kinds = first_kinds inputs;
  input = first_update inputs;
  own = own.edge.update;
  columns = first_columns_of inputs;
  partial = partial;
  others = others_of inputs;
  inputs = length inputs;
  declared = sink.mode;
  sink_key = unwrap_or sink.key [];
}

-- where rows come by its first input
abbrev pub around_by : TableDef → List Output → Output → Around
around_by sink inputs own = around_sent None sink inputs own
