-- What is in flight after changes were sent.
use Rattle.std.specs.Prelude.{◌≡◌, ℕ, ◌+◌, ◌<◌, List, [], ◌∷◌, ◌++◌, slice_get, take, Some}
use Rattle.std.specs.List.{filter, fold}
use Rattle.ct_value.specs.declared.row.Row.{Row}
use Rattle.ct_change.specs.declared.change.Change.{Change}
use Rattle.op_rules.specs.Edges.{Edge, goes}
use Rattle.stream_model.specs.Machine as machine
use Rattle.session_channels.specs.declared.channels.Channels.{Channels}
use Rattle.session_channels.specs.declared.exchange.Route.{Route}
use Rattle.session_channels.specs.Lanes.{flight_in}
use Rattle.session_channels.specs.Routes.{IsWide, RoutesFor}

-- the channels hold what is in flight
pub record Carry (channels : Channels) (flight : ℕ → ℕ → ℕ → List Change) : Type 0 where
  pub at : (e i j : ℕ) → e < channels.edges → i < channels.width → j < channels.width → flight_in channels.width channels.lanes.items e i j ≡ flight e i j

-- what is in flight after a subtask sent changes through an edge, as the machine has it
abbrev pub sent_by : Edge → (ℕ → ℕ → ℕ → List Change) → ℕ → ℕ → List Change → ℕ → ℕ → ℕ → List Change
sent_by of flight v i changes = machine.put flight v i (λ j. flight v i j ++ filter (λ change. goes of i j change.row) changes)

-- what is in flight after the scans of these numbers sent a change
abbrev pub scanned_by : (ℕ → Edge) → ℕ → Change → (ℕ → ℕ → ℕ → List Change) → List ℕ → ℕ → ℕ → ℕ → List Change
scanned_by edges i change flight scans = fold (λ f v. sent_by (edges v) f v i (change ∷ [])) flight scans

-- the route of each number is that edge's
abbrev pub AllRoute : ℕ → List Route → (ℕ → Edge) → Type 0
AllRoute many routes edges = (e : ℕ) (route : Route) → slice_get routes e ≡ Some route → RoutesFor many route (edges e)

-- a row may go through the edge of this number
pub record MayScan (edges : ℕ) (routes : List Route) (e : ℕ) (row : Row) : Type 0 where
  pub edge : e < edges
  pub route : Route
  pub is : slice_get routes e ≡ Some route
  pub wide : IsWide route row

-- behind changes that a subtask sent through an edge it sent one more
abbrev pub SendsMore : Channels → Channels → Route → ℕ → ℕ → Change → Type 0
SendsMore old new route e i change = (of : Edge) (flight : ℕ → ℕ → ℕ → List Change) (before : List Change) → RoutesFor old.width route of → Carry old (sent_by of flight e i before) → Carry new (sent_by of flight e i (before ++ change ∷ []))

-- behind so many first scans the next one sent a change
abbrev pub ScansMore : Channels → Channels → List Route → List ℕ → ℕ → ℕ → Change → Type 0
ScansMore old new routes scans number i change = (edges : ℕ → Edge) (flight : ℕ → ℕ → ℕ → List Change) → AllRoute old.width routes edges → Carry old (scanned_by edges i change flight (take number scans)) → Carry new (scanned_by edges i change flight (take (number + 1) scans))
