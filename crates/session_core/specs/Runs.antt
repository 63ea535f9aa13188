-- What the subtasks of a job stand for: one for each subtask of each node, kept as one list.
use Rattle.std.specs.Prelude.{◌≡◌, ℕ, ◌+◌, ◌*◌, ◌<◌, Bool, true, false, List, [], ◌∷◌, ◌++◌, get_or, Option, Some, None, Ok, Err}
use Rattle.ct_value.specs.declared.row.Row.{Row}
use Rattle.ct_change.specs.declared.change.Change.{Change}
use Rattle.op_rules.specs.History.{Arrival, arrival, joined}
use Rattle.op_rules.specs.Rules.{Rule, Answer}
use Rattle.op_rules.specs.Tasks.{IsReady}
use Rattle.stream_model.specs.declared.events.StepFault.{StepFault}
use Rattle.stream_model.specs.declared.events.StepFault.TheVariants.{Change as Refused, Order, Range, Limit, Memory}
use Rattle.stream_model.specs.Network.{Network, task}
use Rattle.stream_model.specs.Machine.{put}
use Rattle.session_subtasks.specs.declared.subtask.Subtask.{Subtask}
use Rattle.session_subtasks.specs.Subtasks.{StandsAs, HasRun, IsOutOf, ForTaken, ForFlushed, MaySomeTake, MaySomeFlush, MayTake, holds_some, is_full}
use Rattle.session_core.specs.declared.wiring.Wiring.{Wiring}
use Rattle.session_core.specs.LaidOut.{IsLaidOut}

-- the bundles with an arrival behind one of them
abbrev pub bundle_after : (ℕ → ℕ → List Arrival) → ℕ → ℕ → Arrival → ℕ → ℕ → List Arrival
bundle_after bundle v j a = put bundle v j (bundle v j ++ a ∷ [])

-- the pieces with a bundle behind them, as one more
abbrev pub pieces_after : (ℕ → ℕ → List (List Arrival)) → (ℕ → ℕ → List Arrival) → ℕ → ℕ → ℕ → ℕ → List (List Arrival)
pieces_after pieces bundle v j = put pieces v j (pieces v j ++ bundle v j ∷ [])

-- no bundle of a node holds anything
abbrev pub IsEmptyAt : ℕ → (ℕ → ℕ → List Arrival) → ℕ → Type 0
IsEmptyAt width bundle v = (j : ℕ) → j < width → bundle v j ≡ []

-- no bundle of any node does
abbrev pub AreEmpty : Network → ℕ → (ℕ → ℕ → List Arrival) → Type 0
AreEmpty g width bundle = (v : ℕ) → v < g.count + 1 → IsEmptyAt width bundle v

-- a bundle is due, and its node is out of range at this subtask, at this row; or memory was wanting
abbrev pub IsOutAt : Network → ℕ → ℕ → Bool → Answer → StepFault → Type 0
IsOutAt g v j due answer (Refused code) = ⊥
IsOutAt g v j due answer (Order code) = ⊥
IsOutAt g v j due answer (Range node subtask row types) = (due ≡ true) × (node ≡ v) × (subtask ≡ j) × (types ≡ g.range_types v) × (answer ≡ Err row)
IsOutAt g v j due answer Limit = ⊥
IsOutAt g v j due answer Memory = Unit {0}

module _ {O : Type 0} (rule_is : O → Rule) (is_broken : O → Bool) (stands : O → List Arrival → Type 0) (takes_pieces : O → Bool) where
  -- there is such a subtask, or the node has no ports
  abbrev pub HasRunning : Network → ℕ → Option (Subtask O) → List Arrival → List Arrival → Type 0
  HasRunning g v None history bundle = (g.ports v ≡ 0) × (bundle ≡ [])
  HasRunning g v (Some subtask) history bundle = StandsAs rule_is is_broken stands takes_pieces g v subtask history bundle

  -- each subtask of each node stands for the pieces that it folded, and for its bundle
  pub record AllRun (g : Network) (width : ℕ) (items : List (Option (Subtask O))) (pieces : ℕ → ℕ → List (List Arrival)) (bundle : ℕ → ℕ → List Arrival) : Type 0 where
    pub at : (v j : ℕ) → v < g.count + 1 → j < width → HasRunning g v (get_or items (v * width + j) None) (joined (pieces v j)) (bundle v j)

  -- so it is of each network whose subtasks these are, and of their bundles
  abbrev pub ForAllRun : ℕ → List (Option (Subtask O)) → (Network → (ℕ → ℕ → List Arrival) → Type 0) → Type 0
  ForAllRun width items P = (g : Network) (pieces : ℕ → ℕ → List (List Arrival)) (bundle : ℕ → ℕ → List Arrival) → AllRun g width items pieces bundle → P g bundle

  -- ---- one subtask

  -- ---- the subtask in a slot

  abbrev pub MayTakeIn : Option (Subtask O) → Option ℕ → ℕ → Change → Type 0
  MayTakeIn None size port change = ⊥
  MayTakeIn (Some subtask) size port change = MaySomeTake rule_is is_broken stands takes_pieces subtask size port change

  abbrev pub MayFlushIn : Option (Subtask O) → Type 0
  MayFlushIn None = Unit {0}
  MayFlushIn (Some subtask) = MaySomeFlush rule_is is_broken stands takes_pieces subtask

  -- the change joins its bundle, which is folded where it is full then
  abbrev pub HasTakenIn : Option (Subtask O) → Option (Subtask O) → Option ℕ → ℕ → Change → Option (List Change) → Type 0
  HasTakenIn None new size port change sent = ⊥
  HasTakenIn (Some subtask) new size port change sent = (after : Subtask O) × (new ≡ Some after) × ForTaken rule_is is_broken stands takes_pieces subtask size port change (λ g v history bundle. HasRun rule_is is_broken stands takes_pieces (is_full g v bundle) g v after history bundle sent)

  -- a bundle that holds something is folded; where there is no subtask, nothing happens
  abbrev pub HasFlushedIn : Option (Subtask O) → Option (Subtask O) → Option (List Change) → Type 0
  HasFlushedIn None new sent = (new ≡ None) × (sent ≡ None)
  HasFlushedIn (Some subtask) new sent = (after : Subtask O) × (new ≡ Some after) × ForFlushed rule_is is_broken stands takes_pieces subtask (λ g v history bundle. HasRun rule_is is_broken stands takes_pieces (holds_some bundle) g v after history bundle sent)

  -- its rule is out of range at this row
  abbrev pub IsOutTakingIn : Option (Subtask O) → Option ℕ → ℕ → Change → Row → Type 0
  IsOutTakingIn None size port change row = ⊥
  IsOutTakingIn (Some subtask) size port change row = ForTaken rule_is is_broken stands takes_pieces subtask size port change (λ g v history bundle. IsOutOf (is_full g v bundle) (g.emits v history bundle) row)

  abbrev pub IsOutFlushingIn : Option (Subtask O) → Row → Type 0
  IsOutFlushingIn None row = ⊥
  IsOutFlushingIn (Some subtask) row = ForFlushed rule_is is_broken stands takes_pieces subtask (λ g v history bundle. IsOutOf (holds_some bundle) (g.emits v history bundle) row)

  -- ---- one of many

  -- the same, and the others stay
  abbrev pub AllHaveRun : Bool → Network → ℕ → List (Option (Subtask O)) → (ℕ → ℕ → List (List Arrival)) → (ℕ → ℕ → List Arrival) → ℕ → ℕ → Option (List Change) → Type 0
  AllHaveRun due g width new pieces bundle v j None = (due ≡ false) × AllRun g width new pieces bundle
  AllHaveRun due g width new pieces bundle v j (Some sent) = (due ≡ true) × (0 < g.ports v) × (g.emits v (joined (pieces v j)) (bundle v j) ≡ Ok sent)
      × AllRun g width new (pieces_after pieces bundle v j) (put bundle v j [])

  -- the subtasks are those of some network, and one of them may take a change, where its node's bundles have this size
  pub record MayConsumeAt (width : ℕ) (items : List (Option (Subtask O))) (size : Option ℕ) (v j port : ℕ) (change : Change) (g : Network) (pieces : ℕ → ℕ → List (List Arrival)) (bundle : ℕ → ℕ → List Arrival) (from : ℕ) : Type 0 where
    pub node : 0 < g.ports v
    pub there : v < g.count + 1
    pub all : AllRun g width items pieces bundle
    pub size_is : size ≡ g.bundle v
    pub may : MayTake g v j (joined (pieces v j) ++ bundle v j) (arrival port from change)

  -- the subtasks are those of some network, and one of a node that keeps bundles may fold what it holds
  pub record MayFlushAt (width : ℕ) (items : List (Option (Subtask O))) (v j : ℕ) (g : Network) (pieces : ℕ → ℕ → List (List Arrival)) (bundle : ℕ → ℕ → List Arrival) : Type 0 where
    pub there : v < g.count + 1
    pub all : AllRun g width items pieces bundle
    pub size : ℕ
    pub bundled : g.bundle v ≡ Some size
    pub ready : IsReady (task g v) j (joined (pieces v j) ++ bundle v j)

  -- there is such a network
  abbrev pub MaySomeConsume : ℕ → List (Option (Subtask O)) → Option ℕ → ℕ → ℕ → ℕ → Change → Type 0
  MaySomeConsume width items size v j port change = (g : Network) × (pieces : ℕ → ℕ → List (List Arrival)) × (bundle : ℕ → ℕ → List Arrival) × (from : ℕ) × MayConsumeAt width items size v j port change g pieces bundle from

  abbrev pub MaySomeFlushAt : ℕ → List (Option (Subtask O)) → ℕ → ℕ → Type 0
  MaySomeFlushAt width items v j = (g : Network) × (pieces : ℕ → ℕ → List (List Arrival)) × (bundle : ℕ → ℕ → List Arrival) × MayFlushAt width items v j g pieces bundle

  -- so it is of each such network, of what the subtasks folded, and of the bundles with the change
  abbrev pub ForConsumed : ℕ → List (Option (Subtask O)) → Option ℕ → ℕ → ℕ → ℕ → Change → (Network → (ℕ → ℕ → List (List Arrival)) → (ℕ → ℕ → List Arrival) → Type 0) → Type 0
  ForConsumed width items size v j port change P = (g : Network) (pieces : ℕ → ℕ → List (List Arrival)) (bundle : ℕ → ℕ → List Arrival) (from : ℕ) → MayConsumeAt width items size v j port change g pieces bundle from
      → P g pieces (bundle_after bundle v j (arrival port from change))

  abbrev pub ForAllFlushed : ℕ → List (Option (Subtask O)) → ℕ → ℕ → (Network → (ℕ → ℕ → List (List Arrival)) → (ℕ → ℕ → List Arrival) → Type 0) → Type 0
  ForAllFlushed width items v j P = (g : Network) (pieces : ℕ → ℕ → List (List Arrival)) (bundle : ℕ → ℕ → List Arrival) → MayFlushAt width items v j g pieces bundle → P g pieces bundle

  -- the change joins the subtask's bundle, which is folded where it is full then
  abbrev pub HasConsumed : ℕ → List (Option (Subtask O)) → List (Option (Subtask O)) → Option ℕ → ℕ → ℕ → ℕ → Change → Option (List Change) → Type 0
  HasConsumed width old new size v j port change sent = ForConsumed width old size v j port change (λ g pieces bundle. AllHaveRun (is_full g v (bundle v j)) g width new pieces bundle v j sent)

  -- a bundle that holds something is folded
  abbrev pub HasFlushed : ℕ → List (Option (Subtask O)) → List (Option (Subtask O)) → ℕ → ℕ → Option (List Change) → Type 0
  HasFlushed width old new v j sent = ForAllFlushed width old v j (λ g pieces bundle. AllHaveRun (holds_some (bundle v j)) g width new pieces bundle v j sent)

  -- the bundle is full, and its rule is out of range at this row
  abbrev pub IsOutConsuming : ℕ → List (Option (Subtask O)) → Option ℕ → ℕ → ℕ → ℕ → Change → Row → Type 0
  IsOutConsuming width items size v j port change row = ForConsumed width items size v j port change (λ g pieces bundle. IsOutOf (is_full g v (bundle v j)) (g.emits v (joined (pieces v j)) (bundle v j)) row)

  -- the same where a bundle is flushed
  abbrev pub IsOutFlushing : ℕ → List (Option (Subtask O)) → ℕ → ℕ → Row → Type 0
  IsOutFlushing width items v j row = ForAllFlushed width items v j (λ g pieces bundle. IsOutOf (holds_some (bundle v j)) (g.emits v (joined (pieces v j)) (bundle v j)) row)

  -- the bundle is full, and the node out of range at this subtask, with the types of its row; or memory was wanting
  abbrev pub StopsConsuming : Wiring → ℕ → List (Option (Subtask O)) → Option ℕ → ℕ → ℕ → ℕ → Change → StepFault → Type 0
  StopsConsuming w width items size v j port change fault = ForConsumed width items size v j port change (λ g pieces bundle. (limit : ℕ) → IsLaidOut w g limit → IsOutAt g v j (is_full g v (bundle v j)) (g.emits v (joined (pieces v j)) (bundle v j)) fault)

  -- the same where a bundle is flushed
  abbrev pub StopsFlushing : Wiring → ℕ → List (Option (Subtask O)) → ℕ → ℕ → StepFault → Type 0
  StopsFlushing w width items v j fault = ForAllFlushed width items v j (λ g pieces bundle. (limit : ℕ) → IsLaidOut w g limit → IsOutAt g v j (holds_some (bundle v j)) (g.emits v (joined (pieces v j)) (bundle v j)) fault)
