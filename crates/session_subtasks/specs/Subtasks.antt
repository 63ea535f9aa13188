-- One subtask of a node: what it stands for, when it may take a change or fold its bundle, and what it has done then.
use Rattle.std.specs.Prelude.{◌≡◌, ℕ, ◌+◌, ◌<◌, ◌^◌, nat_le, Bool, true, false, List, [], ◌∷◌, ◌++◌, length, map, Option, Some, None, Ok, Err}
use Rattle.ct_value.specs.declared.row.Row.{Row}
use Rattle.ct_change.specs.declared.change.Change.{Change}
use Rattle.op_rules.specs.History.{Arrival, arrival}
use Rattle.op_rules.specs.Rules.{Rule, Answer}
use Rattle.op_rules.specs.Ports.{TakesAll}
use Rattle.op_rules.specs.Tasks.{IsReady}
use Rattle.stream_model.specs.Network.{Network, task}
use Rattle.stream_model.specs.Machine.{size_of}
use Rattle.session_subtasks.specs.declared.subtask.Subtask.{Subtask}

-- a subtask of a node may rely on what it consumed, with this arrival
pub record MayTake (g : Network) (v j : ℕ) (before : List Arrival) (a : Arrival) : Type 0 where
  pub ready : IsReady (task g v) j (before ++ a ∷ [])
  pub few : length before + 1 < 2 ^ 32

-- whether a node's bundle is full with these arrivals; where it keeps none, one is enough
abbrev pub is_full : Network → ℕ → List Arrival → Bool
is_full g v bundle = nat_le (size_of (g.bundle v)) (length bundle)

-- whether a bundle holds something
abbrev pub holds_some : List Arrival → Bool
holds_some [] = false
holds_some (a ∷ others) = true

-- a bundle is due, and its rule is out of range at this row
abbrev pub IsOutOf : Bool → Answer → Row → Type 0
IsOutOf due answer row = (due ≡ true) × (answer ≡ Err row)

module _ {O : Type 0} (rule_is : O → Rule) (is_broken : O → Bool) (stands : O → List Arrival → Type 0) (takes_pieces : O → Bool) where
  -- an operator runs as a node of the network, takes what its edges carry, is whole and stands for this history; where the node keeps
  -- bundles, it takes pieces
  pub record RunsAs (g : Network) (v : ℕ) (op : O) (history : List Arrival) : Type 0 where
    pub emits : (rule_is op).emits ≡ g.emits v
    pub opens : (rule_is op).opening ≡ g.opening v
    pub takes : TakesAll (rule_is op) (task g v)
    pub whole : is_broken op ≡ false
    pub stands_for : stands op history
    pub pieces : (size : ℕ) → g.bundle v ≡ Some size → takes_pieces op ≡ true

  -- a subtask of a node with ports stands for what it folded, and holds the changes of its bundle in order; none where the node keeps
  -- no bundles
  pub record StandsAs (g : Network) (v : ℕ) (subtask : Subtask O) (history bundle : List Arrival) : Type 0 where
    pub node : 0 < g.ports v
    pub runs : RunsAs g v subtask.operator history
    pub held : map (λ a. a.change) bundle ≡ subtask.held
    pub alone : g.bundle v ≡ None → bundle ≡ []
    pub few : length (history ++ bundle) < 2 ^ 32

  -- a bundle stays, as it isn't due; or it is folded as one piece, and this is emitted for it
  abbrev pub HasRun : Bool → Network → ℕ → Subtask O → List Arrival → List Arrival → Option (List Change) → Type 0
  HasRun due g v new history bundle None = (due ≡ false) × StandsAs g v new history bundle
  HasRun due g v new history bundle (Some sent) = (due ≡ true) × (g.emits v history bundle ≡ Ok sent) × StandsAs g v new (history ++ bundle) []

  -- a subtask of some node may take a change, where its node's bundles have this size
  pub record MayConsume (subtask : Subtask O) (size : Option ℕ) (port : ℕ) (change : Change) (g : Network) (v j : ℕ) (history bundle : List Arrival) (from : ℕ) : Type 0 where
    pub stands_as : StandsAs g v subtask history bundle
    pub size_is : size ≡ g.bundle v
    pub may : MayTake g v j (history ++ bundle) (arrival port from change)

  -- a subtask of some node that keeps bundles may fold what it holds
  pub record MayFlush (subtask : Subtask O) (g : Network) (v j : ℕ) (history bundle : List Arrival) : Type 0 where
    pub stands_as : StandsAs g v subtask history bundle
    pub size : ℕ
    pub bundled : g.bundle v ≡ Some size
    pub ready : IsReady (task g v) j (history ++ bundle)

  -- there is such a node
  abbrev pub MaySomeTake : Subtask O → Option ℕ → ℕ → Change → Type 0
  MaySomeTake subtask size port change = (g : Network) × (v : ℕ) × (j : ℕ) × (history : List Arrival) × (bundle : List Arrival) × (from : ℕ) × MayConsume subtask size port change g v j history bundle from

  abbrev pub MaySomeFlush : Subtask O → Type 0
  MaySomeFlush subtask = (g : Network) × (v : ℕ) × (j : ℕ) × (history : List Arrival) × (bundle : List Arrival) × MayFlush subtask g v j history bundle

  -- so it is wherever it may take the change
  abbrev pub ForTaken : Subtask O → Option ℕ → ℕ → Change → (Network → ℕ → List Arrival → List Arrival → Type 0) → Type 0
  ForTaken subtask size port change P = (g : Network) (v j : ℕ) (history bundle : List Arrival) (from : ℕ) → MayConsume subtask size port change g v j history bundle from → P g v history (bundle ++ arrival port from change ∷ [])

  -- so it is wherever it may fold
  abbrev pub ForFlushed : Subtask O → (Network → ℕ → List Arrival → List Arrival → Type 0) → Type 0
  ForFlushed subtask P = (g : Network) (v j : ℕ) (history bundle : List Arrival) → MayFlush subtask g v j history bundle → P g v history bundle
