-- What is kept of a state of the machine.
use Rattle.std.specs.Prelude.{◌≡◌, ℕ, ◌+◌, ◌<◌, ◌≤◌, ◌==◌, true, cond, List, [], ◌∷◌, ◌++◌, length, Some, Ok}
use Rattle.std.specs.List.{AllByRecursion}
use Rattle.ct_change.specs.declared.change.Change.{Change}
use Rattle.stream_model.specs.Tables.{Table, scanned_at}
use Rattle.stream_model.specs.Network as network
use Rattle.stream_model.specs.Network.{Network, IsNode}
use Rattle.stream_model.specs.Machine.{State, put, is_channel, hand_on, scanned, take_within}
use Rattle.stream_model.specs.Runs.{counts}
use Rattle.stream_model.specs.declared.events.PrintItem.{PrintItem}
use Rattle.session_channels.specs.Sending.{Carry}
use Rattle.session_core.specs.declared.wiring.Feed.{Feed}
use Rattle.session_core.specs.declared.wiring.Wiring.{Wiring}
use Rattle.session_core.specs.declared.traffic.Traffic.{Traffic}
use Rattle.session_core.specs.LaidOut.{IsLaidOut, port_of}

-- the channels hold what is in flight, the counts are the state's, of no table more changes were taken than of all, and the items
-- not yet handed out stand behind those that were
pub record Carries (t : Traffic) (g : Network) (limit : ℕ) (handed : List PrintItem) (s : State) : Type 0 where
  pub width : t.channels.width ≡ g.subtasks
  pub edges : t.channels.edges ≡ g.count + 1
  pub flight : Carry t.channels s.flight
  pub sends : t.channels.sent ≡ s.sends
  pub within : s.sends ≤ limit
  pub took : t.took ≡ s.took
  pub few : s.took ≤ limit
  pub counted : t.counts.items ≡ counts g s
  pub shares : (table : ℕ) → length (s.taken table) ≤ s.took
  pub printed : s.printed ≡ handed ++ t.printed

-- the state in which the front of a channel is taken
abbrev pub fetched : ℕ → ℕ → ℕ → List Change → State → State
fetched e i j rest s = record s { flight = put s.flight e i (λ k. cond (k == j) rest (s.flight e i k)) }

-- the front of a channel was taken
pub record Fetches (new : Traffic) (e i j : ℕ) (feed : Feed) (change : Change) (g : Network) (limit : ℕ) (handed : List PrintItem) (s : State) : Type 0 where
  pub fed : g.fed e ≡ Some (port_of feed)
  pub channel : is_channel g e i j ≡ true
  pub rest : List Change
  pub front : s.flight e i j ≡ change ∷ rest
  pub carries : Carries new g limit handed (fetched e i j rest s)

-- what was sent has the columns of its edges
abbrev pub AllFit : Network → State → Type 0
AllFit g s = (v i : ℕ) → IsNode g v → i < g.subtasks → AllByRecursion (λ change. (g.edge v).fits change ≡ true) (s.sent v i)

-- a subtask of a node with ports hands on changes that have the columns of its edge
pub record MayHandOn (w : Wiring) (t : Traffic) (v j : ℕ) (changes : List Change) (g : Network) (limit : ℕ) (handed : List PrintItem) (s : State) : Type 0 where
  pub laid : IsLaidOut w g limit
  pub carries : Carries t g limit handed s
  pub node : 0 < g.ports v
  pub subtask : j < g.subtasks
  pub fit : (after : State) → hand_on g limit v j changes s ≡ Ok after → AllFit g after

-- the scans of a table send a change that has the columns of the table and of their edges
pub record MayScan (w : Wiring) (t : Traffic) (number : ℕ) (change : Change) (table : Table) (g : Network) (limit : ℕ) (handed : List PrintItem) (s : State) : Type 0 where
  pub laid : IsLaidOut w g limit
  pub carries : Carries t g limit handed s
  pub is : g.tables number ≡ Some table
  pub fits : table.fits change ≡ true
  pub fit : (after : State) → take_within g limit s number change (scanned_at table change) ≡ Ok after → AllFit g after

-- what the channels carry changed, and nothing of what was consumed
pub record StaysConsumed (old new : State) : Type 0 where
  pub pieces : new.pieces ≡ old.pieces
  pub bundle : new.bundle ≡ old.bundle
  pub taken : new.taken ≡ old.taken

-- an edge that feeds a port holds no change
abbrev pub IsEdgeQuiet : Network → State → ℕ → Type 0
IsEdgeQuiet g s e = (i j : ℕ) (feed : network.Feed) → g.fed e ≡ Some feed → i < g.subtasks → j < g.subtasks → s.flight e i j ≡ []

-- no channel holds a change
abbrev pub IsFlightQuiet : Network → State → Type 0
IsFlightQuiet g s = (e : ℕ) → IsEdgeQuiet g s e

-- ---- what holds in some state, and what in each

-- what is kept agrees with some state of a network that is laid out
abbrev pub CarriesSome : Wiring → Traffic → Type 0
CarriesSome w t = (g : Network) × (limit : ℕ) × (handed : List PrintItem) × (s : State) × IsLaidOut w g limit × Carries t g limit handed s

-- so it is in each state with which what is kept agrees
abbrev pub ForCarried : Wiring → Traffic → (Network → ℕ → List PrintItem → State → Type 0) → Type 0
ForCarried w t P = (g : Network) (limit : ℕ) (handed : List PrintItem) (s : State) → IsLaidOut w g limit → Carries t g limit handed s → P g limit handed s

abbrev pub ForSome : (Network → ℕ → List PrintItem → State → Type 0) → Type 0
ForSome P = (g : Network) × (limit : ℕ) × (handed : List PrintItem) × (s : State) × P g limit handed s

abbrev pub ForEach : (Network → ℕ → List PrintItem → State → Type 0) → (Network → ℕ → List PrintItem → State → Type 0) → Type 0
ForEach P Q = (g : Network) (limit : ℕ) (handed : List PrintItem) (s : State) → P g limit handed s → Q g limit handed s

-- what a subtask emitted was handed on
abbrev pub HasHandedOn : Traffic → ℕ → ℕ → List Change → Network → ℕ → List PrintItem → State → Type 0
HasHandedOn new v j changes g limit handed s = (after : State) × (hand_on g limit v j changes s ≡ Ok after) × StaysConsumed s after × Carries new g limit handed after

-- the scans of a table sent a change
abbrev pub HasScanned : Traffic → ℕ → Change → Table → Network → ℕ → List PrintItem → State → Type 0
HasScanned new number change table g limit handed s = (take_within g limit s number change (scanned_at table change) ≡ Ok (scanned g number (scanned_at table change) change s))
    × Carries new g limit handed (scanned g number (scanned_at table change) change s)
