-- A plan read as a network: its wiring by numbers, its edges and its tables.
use Rattle.std.specs.Prelude.{◌≡◌, ℕ, zero, suc, ◌<◌, ◌≤◌, ◌==◌, Bool, true, false, cond, List, [], ◌∷◌, length, slice_get, slice_index_or, Option, Some, None, option_map, unwrap_or}
use Rattle.std.specs.List.{Contains}
use Rattle.ct_value.specs.declared.ty.ColTy.{ColTy}
use Rattle.ct_value.specs.declared.row.Row.{Row}
use Rattle.ct_field.specs.Typed.{row_fits}
use Rattle.ct_change.specs.declared.kind.KindSet.{KindSet}
use Rattle.ct_change.specs.declared.change.Change.{Change}
use Rattle.ct_change.specs.Changelog.{Rows, adds}
use Rattle.ct_catalog.specs.declared.table.TableDef.{TableDef}
use Rattle.ct_catalog.specs.Columns.{column_types, table_mode}
use Rattle.phys_plan.specs.declared.edge.Edge.{Edge as PlanEdge}
use Rattle.phys_plan.specs.declared.edge.Exchange.{Exchange as PlanExchange}
use Rattle.phys_plan.specs.declared.edge.Exchange.TheVariants.{Forward, Hash}
use Rattle.ct_change.specs.declared.update.Update.{Update}
use Rattle.ct_change.specs.declared.update.Update.TheVariants.{Absent, After, Both}
use Rattle.phys_plan.specs.declared.node.Op.{Op}
use Rattle.phys_plan.specs.declared.node.Op.TheVariants.{Scan, BatchGroup, LocalGroup}
use Rattle.phys_plan.specs.declared.node.Node.{Node}
use Rattle.phys_plan.specs.declared.plan.Plan.{Plan}
use Rattle.op_rules.specs.History.{Arrival}
use Rattle.op_rules.specs.Rules.{Answer}
use Rattle.op_rules.specs.Edges.{Meaning, bag, last_rows, partials, meaning_of, Exchange, forward, hash, Edge, IsKeyedBy, IsPartial}
use Rattle.route.specs.Routing.{route_of, types_at}
use Rattle.stream_model.specs.KeysTold.{is_typed, told_fits}
use Rattle.stream_model.specs.Tables.{Table}
use Rattle.stream_model.specs.Network.{Feed, Network, IsWired}
use Rattle.phys_plan.specs.Reading.{numbered, first_input}
use Rattle.phase_rules.specs.LocalGrouping.{LocalGrouping}
use Rattle.plan_rules.specs.Around.{no_kinds, mode_read}
use Rattle.plan_rules.specs.Phases.{local_by, meaning_sent, fits_sent}

-- ---- nodes and edges by number, from 1

abbrev pub inputs_in : Option Node → List ℕ
inputs_in None = []
inputs_in (Some node) = node.inputs

abbrev pub scan_of : Op → Option ℕ
scan_of (Scan source) = Some source
scan_of op = None

abbrev pub scan_in : Option Node → Option ℕ
scan_in None = None
scan_in (Some node) = scan_of node.op

-- only groups in bundles and local groups keep bundles
abbrev pub bundle_of : ℕ → Op → Option ℕ
bundle_of size (BatchGroup keys aggs) = Some size
bundle_of size (LocalGroup keys aggs) = Some size
bundle_of size op = None

abbrev pub bundle_in : ℕ → Option Node → Option ℕ
bundle_in size None = None
bundle_in size (Some node) = bundle_of size node.op

-- the first port that an edge feeds
abbrev pub port_of : ℕ → List ℕ → Option ℕ
port_of e [] = None
port_of e (input ∷ inputs) = cond (input == e) (Some 0) (option_map suc (port_of e inputs))

abbrev pub feed_at : ℕ → Option ℕ → Option Feed → Option Feed
feed_at v (Some port) others = Some (record { node = v; port = port })
feed_at v None others = others

-- the first port that an edge feeds, among nodes that are numbered from here
abbrev pub feed_from : ℕ → ℕ → List Node → Option Feed
feed_from v e [] = None
feed_from v e (node ∷ nodes) = feed_at v (port_of e node.inputs) (feed_from (suc v) e nodes)

-- ---- edges

abbrev pub exchange_of : PlanExchange → Exchange
exchange_of Forward = forward
exchange_of (Hash columns) = hash columns

abbrev pub exchange_in : Option PlanEdge → Exchange
exchange_in None = forward
exchange_in (Some edge) = exchange_of edge.exchange

-- the subtask of the values of the exchange columns, by their text
abbrev pub route_by : ℕ → List ColTy → Exchange → Row → ℕ
route_by parallelism types forward key = 0
route_by parallelism types (hash columns) key = route_of parallelism (types_at columns types) key

abbrev pub meaning_by : Update → Meaning
meaning_by Absent = bag
meaning_by (After columns) = last_rows columns
meaning_by Both = bag

abbrev pub meaning_in : Option PlanEdge → Meaning
meaning_in None = bag
meaning_in (Some edge) = meaning_by edge.update

-- the key by which changes that are read so are last rows
abbrev pub key_read : Meaning → Option (List ℕ)
key_read bag = None
key_read (last_rows key) = Some key
key_read (partials p) = None

-- where there is such a key, a removal tells that alone
abbrev pub key_alone : Option (List ℕ) → Bool → Option (List ℕ)
key_alone None comes = None
key_alone (Some key) true = None
key_alone (Some key) false = Some key

-- whether the row of a change that is read so has these columns; where a removal tells its key alone, the columns of that
abbrev pub change_fits : Meaning → List ColTy → Change → Bool
change_fits meaning columns change = told_fits (key_alone (key_read meaning) (adds change.kind)) columns change.row

abbrev pub kinds_in : Option PlanEdge → KindSet
kinds_in None = no_kinds
kinds_in (Some edge) = edge.kinds

abbrev pub update_in : Option PlanEdge → Update
update_in None = Both
update_in (Some edge) = edge.update

abbrev pub keys_in : (Node → List (List ℕ)) → Option Node → List (List ℕ)
keys_in keys None = []
keys_in keys (Some node) = keys node

-- ---- tables

-- the columns, from this one on, in which NULL may not stand
abbrev pub required_from : ℕ → List ColTy → List ℕ
required_from column [] = []
required_from column (ty ∷ types) = cond ty.nullable (required_from (suc column) types) (column ∷ required_from (suc column) types)

-- so many columns, from this one on
abbrev pub columns_from : ℕ → ℕ → List ℕ
columns_from column zero = []
columns_from column (suc n) = column ∷ columns_from (suc column) n

-- a table with a key is spread by it, another by all columns
abbrev pub spread_of : TableDef → List ℕ
spread_of table = unwrap_or table.key (columns_from 0 (length table.cols))

abbrev pub table_of : ℕ → TableDef → Table
table_of parallelism table = record {
  mode = table_mode table;
  key = table.key;
  required = required_from 0 (column_types table);
  spread = spread_of table;
  route = route_of parallelism (types_at (spread_of table) (column_types table));
  fits = λ change. is_typed (table_mode table) (column_types table) change;
}

-- ---- the network

-- what a node does: what its subtasks emit, and its batch answer
pub record Doing : Type 0 where
  pub opening : ℕ → List Change
  pub emits : List Arrival → List Arrival → Answer
  pub range_types : List ColTy
  pub part : ℕ → (ℕ → Rows) → Option Rows
  pub batch : (ℕ → Rows) → Option Rows

-- by the columns that each node sends, and by what each does
-- the local grouping of a node over what its input sends; none of one that sends rows
abbrev pub local_in : (ℕ → List ColTy) → Plan → Option Node → Option LocalGrouping
local_in columns plan None = None
local_in columns plan (Some node) =
    let input = first_input node.inputs in
    local_by node.op (columns input) (mode_read (kinds_in (numbered plan.edges input)) (update_in (numbered plan.edges input)))

module _ (columns : ℕ → List ColTy) (doing : ℕ → Doing) (plan : Plan) where
  abbrev pub node_at : ℕ → Option Node
  node_at v = numbered plan.nodes v

  abbrev pub edge_at : ℕ → Option PlanEdge
  edge_at e = numbered plan.edges e

  -- the sink's changes are read as its table declares
  abbrev pub network_meaning : ℕ → Meaning
  network_meaning e = cond (e == length plan.nodes) (meaning_of (table_mode plan.sink)) (meaning_sent (local_in columns plan (node_at e)) (meaning_in (edge_at e)))

  abbrev pub network_edge : ℕ → Edge
  network_edge e = record {
    meaning = network_meaning e;
    exchange = exchange_in (edge_at e);
    route = route_by plan.parallelism (columns e) (exchange_in (edge_at e));
    kinds = kinds_in (edge_at e);
    fits = fits_sent (local_in columns plan (node_at e)) (change_fits (network_meaning e) (columns e));
    holds = λ row. row_fits (columns e) row;
    unique = keys_in (λ node. node.keys.unique) (node_at e);
    local = keys_in (λ node. node.keys.local) (node_at e);
    fixing = keys_in (λ node. node.keys.fixing) (node_at e);
  }

  abbrev pub network_of : Network
  network_of = record {
    subtasks = plan.parallelism;
    count = length plan.nodes;
    tables = λ table. option_map (table_of plan.parallelism) (slice_get plan.sources table);
    table_count = length plan.sources;
    scans = λ v. scan_in (node_at v);
    ports = λ v. length (inputs_in (node_at v));
    source = λ v port. slice_index_or (inputs_in (node_at v)) port 0;
    fed = λ e. feed_from 1 e plan.nodes;
    edge = network_edge;
    bundle = λ v. bundle_in plan.mini_batch (node_at v);
    opening = λ v. (doing v).opening;
    emits = λ v. (doing v).emits;
    range_types = λ v. (doing v).range_types;
    part = λ v. (doing v).part;
    batch = λ v. (doing v).batch;
  }

-- the node has this number at one of its inputs
pub record HasInput (plan : Plan) (v port input : ℕ) : Type 0 where
  pub node : Node
  pub is_node : numbered plan.nodes v ≡ Some node
  pub is_input : slice_get node.inputs port ≡ Some input

-- the shape of a plan
pub record HasShape (plan : Plan) : Type 0 where
  pub parallel : 0 < plan.parallelism
  -- each input is a node with a smaller number
  pub before : (v port input : ℕ) → HasInput plan v port input → (0 < input) × (input < v)
  -- a node is the input of one node at most, once
  pub once : (v w p q input : ℕ) → HasInput plan v p input → HasInput plan w q input → (v ≡ w) × (p ≡ q)
  -- a scan has no input, scans a table and isn't the last node; another node has an input
  pub scans : (v source : ℕ) (node : Node) → numbered plan.nodes v ≡ Some node → scan_of node.op ≡ Some source → (node.inputs ≡ []) × (source < length plan.sources) × (v < length plan.nodes)
  pub others : (v : ℕ) (node : Node) → numbered plan.nodes v ≡ Some node → scan_of node.op ≡ None → 0 < length node.inputs
  pub last : (node : Node) × (numbered plan.nodes (length plan.nodes) ≡ Some node) × (scan_of node.op ≡ None)

-- nothing but a node with inputs, before the last, opens with changes; an edge of last rows keeps each key in one channel, and partial
-- rows have no keys at every moment
pub record FitsShape (columns : ℕ → List ColTy) (doing : ℕ → Doing) (plan : Plan) : Type 0 where
  pub scans_open : (v source j : ℕ) → scan_in (numbered plan.nodes v) ≡ Some source → (doing v).opening j ≡ []
  pub opens : (v j : ℕ) → length plan.nodes ≤ v → (doing v).opening j ≡ []
  pub keyed : (e : ℕ) → IsKeyedBy (network_edge columns doing plan e).meaning (network_edge columns doing plan e).exchange
  pub unkeyed : (e : ℕ) → IsPartial (network_edge columns doing plan e).meaning → (key : List ℕ) → Contains (network_edge columns doing plan e).local key → ⊥

abbrev pub PlansAreWired : Type 0
PlansAreWired = (columns : ℕ → List ColTy) (doing : ℕ → Doing) (plan : Plan) → HasShape plan → FitsShape columns doing plan → IsWired (network_of columns doing plan)
