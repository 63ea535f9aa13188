-- Runs from one state to another, what stops them, and the drain as a list of events.
use Rattle.std.specs.Prelude.{◌≡◌, ℕ, zero, suc, ◌+◌, ◌<◌, ◌≤◌, ◌⊎◌, Bool, false, ◌==◌, cond, List, [], ◌∷◌, ◌++◌, length, Option, Some, None, Result, Ok, Err}
use Rattle.ct_change.specs.declared.change.Change.{Change}
use Rattle.stream_model.specs.declared.events.Event.TheVariants.{Move, Flush}
use Rattle.stream_model.specs.declared.events.StepFault.{StepFault}
use Rattle.stream_model.specs.declared.events.StepFault.TheVariants.{Change as Refused, Order, Range, Limit, Memory}
use Rattle.stream_model.specs.declared.events.PrintItem.{PrintItem}
use Rattle.stream_model.specs.Network.{Feed, Network, IsWired, MeetsFacts}
use Rattle.stream_model.specs.Machine.{State, opened, is_channel, IsQuiet}
use Rattle.stream_model.specs.Runs.{Item, happens, quiet, step_item, after, AreTyped}
use Rattle.stream_model.specs.Theorem.{MayArrive}

-- ---- runs

-- items lead from a state to another, none of them stopped
abbrev pub Leads : Network → ℕ → State → List Item → State → Type 0
Leads g limit s [] t = s ≡ t
Leads g limit s (item ∷ items) t = (next : State) × (step_item g limit s item ≡ Ok next) × Leads g limit next items t

-- this fault is why there is no next state, or memory was wanting
abbrev pub StopsBy : Result State StepFault → StepFault → Type 0
StopsBy next Memory = Unit {0}
StopsBy next (Refused code) = next ≡ Err (Refused code)
StopsBy next (Order code) = next ≡ Err (Order code)
StopsBy next (Range v j row types) = next ≡ Err (Range v j row types)
StopsBy next Limit = next ≡ Err Limit

-- the first item that can't be stops with this fault, after these items were printed
abbrev pub StopsAlong : Network → ℕ → State → List Item → StepFault → List PrintItem → Type 0
StopsAlong g limit s [] fault printed = ⊥
StopsAlong g limit s (item ∷ items) fault printed = (StopsBy (step_item g limit s item) fault × (s.printed ≡ printed))
    ⊎ ((next : State) × (step_item g limit s item ≡ Ok next) × StopsAlong g limit next items fault printed)

-- in each state that items lead to, the front of each channel may be consumed, and it is no more than the limit-th change
pub record IsOpen (g : Network) (limit : ℕ) (t : State) : Type 0 where
  pub may : (e i j : ℕ) (feed : Feed) (change : Change) (rest : List Change) → g.fed e ≡ Some feed → i < g.subtasks → j < g.subtasks → t.flight e i j ≡ change ∷ rest → MayArrive g t e i j feed change
  pub few : t.sends ≤ limit

abbrev pub IsSafe : Network → ℕ → State → Type 0
IsSafe g limit s = (items : List Item) → AreTyped g items → (t : State) → Leads g limit s items t → IsOpen g limit t

-- ---- the drain

-- a drain goes by stages: a channel is delivered whole, or a bundle is flushed
pub data Stage : Type 0 where
  delivers : ℕ → ℕ → ℕ → Stage
  flushes : ℕ → ℕ → Stage

-- so many moves from one channel
abbrev pub moves : ℕ → ℕ → ℕ → ℕ → List Item
moves e i j zero = []
moves e i j (suc n) = happens (Move e i j) ∷ moves e i j n

abbrev pub stage_items : State → Stage → List Item
stage_items s (delivers e i j) = moves e i j (length (s.flight e i j))
stage_items s (flushes v j) = happens (Flush v j) ∷ []

-- these stages, one after the other
abbrev pub drain_stages : Network → ℕ → State → List Stage → List Item
drain_stages g limit s [] = []
drain_stages g limit s (stage ∷ stages) = stage_items s stage ++ drain_stages g limit (after g limit s (stage_items s stage)) stages

-- the channels of an edge, from one subtask to those from here on, so many
abbrev pub channels_to : Network → ℕ → ℕ → ℕ → ℕ → List Stage
channels_to g e i j zero = []
channels_to g e i j (suc n) = cond (is_channel g e i j) (delivers e i j ∷ channels_to g e i (j + 1) n) (channels_to g e i (j + 1) n)

abbrev pub channels_from : Network → ℕ → ℕ → ℕ → List Stage
channels_from g e i zero = []
channels_from g e i (suc n) = channels_to g e i 0 g.subtasks ++ channels_from g e (i + 1) n

abbrev pub feeds_node : ℕ → Option Feed → Bool
feeds_node v None = false
feeds_node v (Some feed) = feed.node == v

-- the channels into a node, by edges from here on, so many
abbrev pub channels_into : Network → ℕ → ℕ → ℕ → List Stage
channels_into g v e zero = []
channels_into g v e (suc n) = cond (feeds_node v (g.fed e)) (channels_from g e 0 g.subtasks ++ channels_into g v (e + 1) n) (channels_into g v (e + 1) n)

abbrev pub bundles_from : ℕ → ℕ → ℕ → List Stage
bundles_from v j zero = []
bundles_from v j (suc n) = flushes v j ∷ bundles_from v (j + 1) n

abbrev pub bundles_at : Network → ℕ → Option ℕ → List Stage
bundles_at g v None = []
bundles_at g v (Some size) = bundles_from v 0 g.subtasks

-- nodes from here on, so many: each input channel of a node is delivered whole, by edge and subtasks, then the bundle of each
-- subtask is flushed
abbrev pub stages_from : Network → ℕ → ℕ → List Stage
stages_from g v zero = []
stages_from g v (suc n) = (channels_into g v 1 g.count ++ bundles_at g v (g.bundle v)) ++ stages_from g (v + 1) n

-- node by node, in number order
abbrev pub stages : Network → List Stage
stages g = stages_from g 1 g.count

-- all stages, and then the job is told to be quiet
abbrev pub drain : Network → ℕ → State → List Item
drain g limit s = drain_stages g limit s (stages g) ++ quiet ∷ []

-- ---- laws

-- a drain stops for no other reason
abbrev pub IsDrainFault : StepFault → Type 0
IsDrainFault (Refused code) = ⊥
IsDrainFault (Order code) = ⊥
IsDrainFault (Range v j row types) = Unit {0}
IsDrainFault Limit = Unit {0}
IsDrainFault Memory = Unit {0}

pub record Drains (g : Network) (limit : ℕ) (s : State) : Type 0 where
  -- a drained state is quiet
  pub drained : (t : State) → Leads g limit s (drain g limit s) t → IsQuiet g t
  -- a drain stops only where a node is out of range, by the limit, or for want of memory
  pub stops : (fault : StepFault) (printed : List PrintItem) → StopsAlong g limit s (drain g limit s) fault printed → IsDrainFault fault

-- in every state of every run: it is safe, and it drains
abbrev pub RunsAreSafe : Type 0
RunsAreSafe = (g : Network) → IsWired g → MeetsFacts g → (limit : ℕ) → (opened g).sends ≤ limit → (items : List Item) → AreTyped g items → IsSafe g limit (after g limit (opened g) items)

abbrev pub RunsDrain : Type 0
RunsDrain = (g : Network) → IsWired g → (limit : ℕ) (items : List Item) → AreTyped g items → Drains g limit (after g limit (opened g) items)
