-- How an edge's routing is kept.
use Rattle.std.specs.Prelude.{◌≡◌, ◌≤◌, ℕ, true, length}
use Rattle.ct_value.specs.declared.row.Row.{Row}
use Rattle.ct_change.specs.declared.change.Change.{Change}
use Rattle.op_rules.specs.Edges.{Edge, forward, hash}
use Rattle.route.specs.Routing.{route_of, types_at}
use Rattle.session_channels.specs.declared.exchange.KeyRoute.{KeyRoute}
use Rattle.session_channels.specs.declared.exchange.Route.{Route}
use Rattle.session_channels.specs.declared.exchange.Route.TheVariants.{Forward, Hash}

-- a row has the columns by whose types its subtask is found
abbrev pub IsWide : Route → Row → Type 0
IsWide Forward row = Unit {0}
IsWide (Hash key) row = length key.types ≤ length row

-- rows are spread over so many subtasks by the values of a key
pub record SpreadsBy (many : ℕ) (key : KeyRoute) (route : Row → ℕ) : Type 0 where
  pub routes : (row : Row) → route row ≡ route_of many (types_at key.columns key.types) row

-- what is kept for an edge is its exchange and its routing, and its changes have columns for the types
pub record RoutesHash (many : ℕ) (key : KeyRoute) (edge : Edge) : Type 0 where
  pub exchange : edge.exchange ≡ hash key.columns
  pub spreads : SpreadsBy many key edge.route
  pub wide : (change : Change) → edge.fits change ≡ true → length key.types ≤ length change.row

abbrev pub RoutesFor : ℕ → Route → Edge → Type 0
RoutesFor many Forward edge = edge.exchange ≡ forward
RoutesFor many (Hash key) edge = RoutesHash many key edge
