-- What is asked of a plan so that a job of it can be opened, and how far the opening is.
use Rattle.std.specs.Prelude.{◌≡◌, ℕ, ◌+◌, ◌*◌, ◌/◌, ◌%◌, ◌<◌, ◌≤◌, ◌^◌, nat_lt, Bool, true, cond, IsTrue, List, [], length, get_or, take, Option, Some, None}
use Rattle.std.specs.List.{All, AllByRecursion, filter}
use Rattle.ct_value.specs.declared.ty.ColTy.{ColTy}
use Rattle.ct_field.specs.Numbers.{is_type}
use Rattle.ct_change.specs.declared.change.Change.{Change}
use Rattle.op_rules.specs.Edges.{goes}
use Rattle.op_rules.specs.History.{Arrival}
use Rattle.op_rules.specs.Rules.{Rule}
use Rattle.op_rules.specs.Tasks.{total}
use Rattle.phys_plan.specs.declared.edge.Edge.{Edge as PlanEdge}
use Rattle.phys_plan.specs.declared.edge.Exchange.{Exchange as PlanExchange}
use Rattle.phys_plan.specs.declared.edge.Exchange.TheVariants.{Forward, Hash}
use Rattle.phys_plan.specs.declared.node.Node.{Node}
use Rattle.phys_plan.specs.declared.node.Op.{Op}
use Rattle.phys_plan.specs.declared.node.Op.TheVariants.{LocalGroup}
use Rattle.phys_plan.specs.declared.plan.Plan.{Plan}
use Rattle.stream_model.specs.Network.{Network, IsWired, MeetsFacts}
use Rattle.stream_model.specs.Machine.{opened}
use Rattle.plan_rules.specs.Columns.{AreColumns}
use Rattle.plan_rules.specs.Plans.{Doing, network_of, spread_of}
use Rattle.phys_plan.specs.Reading.{numbered}
use Rattle.ct_catalog.specs.declared.table.TableDef.{TableDef}
use Rattle.ct_catalog.specs.Columns.{column_types}
use Rattle.session_channels.specs.declared.channels.Channels.{Channels}
use Rattle.session_channels.specs.declared.exchange.KeyRoute.{KeyRoute}
use Rattle.session_channels.specs.declared.exchange.Route.{Route}
use Rattle.session_channels.specs.declared.exchange.Route.TheVariants as r
use Rattle.session_channels.specs.Sending.{Carry}
use Rattle.session_subtasks.specs.declared.subtask.Subtask.{Subtask}
use Rattle.session_core.specs.declared.wiring.TableWiring.{TableWiring}
use Rattle.session_core.specs.declared.wiring.Wiring.{Wiring}
use Rattle.session_core.specs.Kept.{AllFit}
use Rattle.session_core.specs.LaidOut.{IsLaidOut, scans_below}
use Rattle.session_subtasks.specs.Subtasks.{RunsAs}
use Rattle.session_open.specs.declared.fault.OpenFault.{OpenFault}
use Rattle.session_open.specs.declared.fault.OpenFault.TheVariants.{Limit, Memory}

-- ---- plans

-- rows of these columns can be spread by the values of some: these are there, and all have types that columns have
pub record AreRoutable (types : List ColTy) (columns : List ℕ) : Type 0 where
  pub within : All (λ column. column < length types) columns
  pub typed : All (λ column. IsTrue (is_type column.ty)) types

abbrev pub IsExchange : List ColTy → PlanExchange → Type 0
IsExchange types Forward = Unit {0}
IsExchange types (Hash columns) = AreRoutable types columns

-- the types by which an edge spreads what its node sends: those of the node's columns, of a local group those of its key columns alone
abbrev pub types_by : Op → List ColTy → List ColTy
types_by (LocalGroup keys aggs) columns = take keys columns
types_by operator columns = columns

abbrev pub spread_types : Option Node → List ColTy → List ColTy
spread_types None columns = columns
spread_types (Some node) columns = types_by node.op columns

-- a plan of few nodes in few subtasks, with the columns that each node sends by its number, from 0;
-- changes can be spread by the columns of its tables and edges
pub record MayOpen (plan : Plan) (columns : List (List ColTy)) : Type 0 where
  pub few : length plan.nodes < 999
  pub some : 0 < plan.parallelism
  pub narrow : plan.parallelism < 17
  pub ports : All (λ node. length node.inputs < 2 ^ 32) plan.nodes
  pub typed : length columns ≡ length plan.nodes + 1
  pub exchanged : (e : ℕ) (edge : PlanEdge) → numbered plan.edges e ≡ Some edge → IsExchange (spread_types (numbered plan.nodes e) (get_or columns e [])) edge.exchange
  pub spread : All (λ table. AreRoutable (column_types table) (spread_of table)) plan.sources

-- a network of a plan, for which operators are made, and whose nodes meet their facts
pub record IsOpenable (runs : Plan → List (List ColTy) → Network → Type 0) (plan : Plan) (kept : List (List ColTy)) (columns : ℕ → List ColTy) (doing : ℕ → Doing) : Type 0 where
  pub columns_are : AreColumns kept columns
  pub runs_as : runs plan kept (network_of columns doing plan)
  pub wired : IsWired (network_of columns doing plan)
  pub facts : MeetsFacts (network_of columns doing plan)

-- ---- routes

pub record IsKeyRoute (types : List ColTy) (columns : List ℕ) (key : KeyRoute) : Type 0 where
  pub columns_are : key.columns ≡ columns
  pub types_are : key.types ≡ types

-- the route of an exchange of rows of these columns
abbrev pub IsRouteOf : List ColTy → PlanExchange → Route → Type 0
IsRouteOf types Forward r.Forward = Unit {0}
IsRouteOf types Forward (r.Hash key) = ⊥
IsRouteOf types (Hash columns) r.Forward = ⊥
IsRouteOf types (Hash columns) (r.Hash key) = IsKeyRoute types columns key

abbrev pub IsRouteIn : List ColTy → Option PlanEdge → Route → Type 0
IsRouteIn types None r.Forward = Unit {0}
IsRouteIn types None (r.Hash key) = ⊥
IsRouteIn types (Some edge) route = IsRouteOf types edge.exchange route

-- ---- operators

module _ {O : Type 0} (rule_is : O → Rule) (is_broken : O → Bool) (stands : O → List Arrival → Type 0) (takes_pieces : O → Bool) where
  -- the operator of a node, which took nothing; none where the node has no ports, and opens with nothing
  abbrev pub IsMade : Network → ℕ → Option O → Type 0
  IsMade g v None = (g.ports v ≡ 0) × ((j : ℕ) → g.opening v j ≡ [])
  IsMade g v (Some op) = (0 < g.ports v) × RunsAs rule_is is_broken stands takes_pieces g v op []

  -- a subtask with it, which holds nothing
  abbrev pub IsStarted : Network → ℕ → Option (Subtask O) → Type 0
  IsStarted g v None = (g.ports v ≡ 0) × ((j : ℕ) → g.opening v j ≡ [])
  IsStarted g v (Some subtask) = (0 < g.ports v) × RunsAs rule_is is_broken stands takes_pieces g v subtask.operator [] × (subtask.held ≡ [])

  -- the same, and what the subtask opens with
  pub record IsOpenedAs (g : Network) (v j : ℕ) (op : Option (Subtask O)) (sent : List Change) : Type 0 where
    pub made : IsStarted g v op
    pub sent_is : sent ≡ g.opening v j

-- ---- the changes with which subtasks open, one subtask behind the other

-- how many changes a subtask opens with, the subtasks of node 0 counted first, then those of node 1
abbrev pub opens_with : Network → ℕ → ℕ
opens_with g place = length (g.opening (place / g.subtasks) (place % g.subtasks))

-- what is in flight when so many subtasks sent what they open with
abbrev pub flight_until : Network → ℕ → ℕ → ℕ → ℕ → List Change
flight_until g places e i j = cond (nat_lt (e * g.subtasks + i) places) (filter (λ change. goes (g.edge e) i j change.row) (g.opening e i)) []

-- the channels after so many subtasks sent what they open with
pub record HaveOpened (g : Network) (limit places : ℕ) (channels : Channels) : Type 0 where
  pub width : channels.width ≡ g.subtasks
  pub edges : channels.edges ≡ g.count + 1
  pub flight : Carry channels (flight_until g places)
  pub sent : channels.sent ≡ total places (opens_with g)
  pub within : channels.sent ≤ limit

-- a subtask may send what it opens with, behind the others
pub record MayStart (w : Wiring) (channels : Channels) (v j : ℕ) (changes : List Change) (g : Network) (limit : ℕ) : Type 0 where
  pub laid : IsLaidOut w g limit
  pub opened : HaveOpened g limit (v * g.subtasks + j) channels
  pub node : v < g.count + 1
  pub subtask : j < g.subtasks
  pub changes_are : changes ≡ g.opening v j
  pub fit : AllByRecursion (λ change. (g.edge v).fits change ≡ true) changes

-- a plan whose wiring is laid out, whose operators can be made, and whose opening rows have their edges' columns
pub record Opens (runs : Plan → List (List ColTy) → Network → Type 0) (plan : Plan) (kept : List (List ColTy)) (w : Wiring) (g : Network) (limit : ℕ) : Type 0 where
  pub laid : IsLaidOut w g limit
  pub runs_as : runs plan kept g
  pub count_is : g.count ≡ length plan.nodes
  pub subtasks_are : g.subtasks ≡ plan.parallelism
  pub fits : AllFit g (opened g)

-- so it is of each network that opens like a plan, where so many subtasks sent what they open with
abbrev pub ForOpened : (Plan → List (List ColTy) → Network → Type 0) → Plan → List (List ColTy) → Wiring → ℕ → Channels → (Network → ℕ → Type 0) → Type 0
ForOpened runs plan columns w places channels P = (g : Network) (limit : ℕ) → Opens runs plan columns w g limit → HaveOpened g limit places channels → P g limit

-- ---- tables

-- how a table's changes are spread, and the numbers of its scans, in each network of the plan
abbrev pub IsTableLaid : Plan → ℕ → TableWiring → TableDef → Type 0
IsTableLaid plan number kept table = IsKeyRoute (column_types table) (spread_of table) kept.spread
    × ((of : ℕ → List ColTy) (doing : ℕ → Doing) → kept.scans ≡ scans_below (network_of of doing plan) number (length plan.nodes))

-- ---- faults

-- the opening rows are more than the limit, or memory was wanting
abbrev pub IsTooMany : ℕ → ℕ → OpenFault → Type 0
IsTooMany limit count Limit = limit < count
IsTooMany limit count Memory = Unit {0}
