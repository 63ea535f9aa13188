-- A network's wiring, laid out for look-ups.
use Rattle.std.specs.Prelude.{◌≡◌, ℕ, zero, suc, ◌+◌, ◌<◌, ◌≤◌, ◌^◌, true, cond, List, [], ◌∷◌, ◌++◌, map, length, get_or, slice_get, Option, Some, None}
use Rattle.std.specs.List.{All}
use Rattle.ct_value.specs.declared.ty.ColTy.{ColTy}
use Rattle.ct_change.specs.declared.change.Change.{Change}
use Rattle.stream_model.specs.Tables.{Table}
use Rattle.stream_model.specs.Network as network
use Rattle.stream_model.specs.Network.{Network, IsWired}
use Rattle.stream_model.specs.Machine.{is_place, is_scan_of}
use Rattle.stream_model.specs.Drain as drain
use Rattle.stream_model.specs.Drain.{delivers, flushes, stages}
use Rattle.session_channels.specs.Routes.{SpreadsBy}
use Rattle.session_channels.specs.Sending.{AllRoute}
use Rattle.session_core.specs.declared.wiring.Feed.{Feed}
use Rattle.session_core.specs.declared.wiring.Lane.{Lane}
use Rattle.session_core.specs.declared.wiring.Stage.{Stage}
use Rattle.session_core.specs.declared.wiring.Stage.TheVariants.{Deliver, Flush}
use Rattle.session_core.specs.declared.wiring.TableWiring.{TableWiring}
use Rattle.session_core.specs.declared.wiring.Wiring.{Wiring}

-- a port, as the network has it
abbrev pub port_of : Feed → network.Feed
port_of feed = record { node = feed.node; port = feed.port }

abbrev pub feed_of : Option Feed → Option network.Feed
feed_of None = None
feed_of (Some feed) = Some (port_of feed)

-- a stage of a drain, as the machine has it
abbrev pub stage_of : Stage → drain.Stage
stage_of (Deliver lane) = delivers lane.edge lane.from lane.to
stage_of (Flush node subtask) = flushes node subtask

-- the subtask that takes what a stage of a drain delivers, or whose bundle is flushed: its node, and its number there
abbrev pub fed_at : ℕ → Option network.Feed → Option (ℕ × ℕ)
fed_at j None = None
fed_at j (Some feed) = Some (feed.node, j)

abbrev pub taker_of : Network → drain.Stage → Option (ℕ × ℕ)
taker_of g (delivers e i j) = fed_at j (g.fed e)
taker_of g (flushes v j) = Some (v, j)

-- the scans of a table among the nodes below a number, in order
abbrev pub scans_below : Network → ℕ → ℕ → List ℕ
scans_below g table zero = []
scans_below g table (suc n) = cond (is_scan_of g table n) (scans_below g table n ++ n ∷ []) (scans_below g table n)

-- a table's changes are spread as the network says
pub record IsTable (g : Network) (number : ℕ) (kept : TableWiring) (table : Table) : Type 0 where
  pub spread : table.spread ≡ kept.spread.columns
  pub spreads : SpreadsBy g.subtasks kept.spread table.route
  pub wide : (change : Change) → table.fits change ≡ true → length kept.spread.types ≤ length change.row
  pub scans : kept.scans ≡ scans_below g number g.count

abbrev pub IsTableIn : Network → ℕ → Option TableWiring → Option Table → Type 0
IsTableIn g number None None = Unit {0}
IsTableIn g number None (Some table) = ⊥
IsTableIn g number (Some kept) None = ⊥
IsTableIn g number (Some kept) (Some table) = IsTable g number kept table

-- a channel's numbers are there
pub record IsThere (g : Network) (lane : Lane) : Type 0 where
  pub edge : lane.edge < g.count + 1
  pub from : lane.from < g.subtasks
  pub to : lane.to < g.subtasks

-- the channel of a stage is there
abbrev pub IsStageThere : Network → Stage → Type 0
IsStageThere g (Deliver lane) = IsThere g lane
IsStageThere g (Flush node subtask) = Unit {0}

-- there is such a subtask, and its node keeps bundles
pub record HasBundle (g : Network) (v j : ℕ) : Type 0 where
  pub place : is_place g v j ≡ true
  pub size : ℕ
  pub bundled : g.bundle v ≡ Some size

-- a network, and a limit on the changes sent, laid out
pub record IsLaidOut (w : Wiring) (g : Network) (limit : ℕ) : Type 0 where
  pub wired : IsWired g
  pub subtasks : w.parallelism ≡ g.subtasks
  pub nodes : w.nodes ≡ g.count
  pub limit_is : w.limit ≡ limit
  pub small : limit < 2 ^ 32
  pub feeds_many : length w.feeds.items ≡ g.count + 1
  pub feeds : (e : ℕ) → feed_of (get_or w.feeds.items e None) ≡ g.fed e
  pub routes_many : length w.routes.items ≡ g.count + 1
  pub routes : AllRoute g.subtasks w.routes.items g.edge
  pub tables_many : length w.tables.items ≡ g.table_count
  pub tables : (table : ℕ) → IsTableIn g table (slice_get w.tables.items table) (g.tables table)
  pub types_many : length w.types.items ≡ g.count + 1
  pub types : (v : ℕ) (types : List ColTy) → slice_get w.types.items v ≡ Some types → types ≡ g.range_types v
  pub bundles : (v : ℕ) → get_or w.bundles.items v None ≡ g.bundle v
  pub stages_are : map stage_of w.stages.items ≡ stages g
  pub stages_there : All (IsStageThere g) w.stages.items
