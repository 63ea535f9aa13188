-- Runs whose moves are made early: where they lead, and what they print, stage by stage of a drain.
use Rattle.std.specs.Prelude.{◌≡◌, ℕ, zero, suc, ◌+◌, Bool, true, false, List, [], ◌∷◌, ◌++◌, Some}
use Rattle.std.specs.List.{AllByRecursion}
use Rattle.stream_model.specs.declared.events.Event.TheVariants.{Take, Move, Flush}
use Rattle.stream_model.specs.declared.events.PrintItem.{PrintItem}
use Rattle.stream_model.specs.Network.{Feed, Network}
use Rattle.stream_model.specs.Machine.{State, is_scan_of}
use Rattle.stream_model.specs.Runs.{Item, happens, quiet}
use Rattle.stream_model.specs.Drain.{Leads, Stage, delivers, flushes, moves}

-- a state but for what it has printed
abbrev pub hushed : State → State
hushed s = record s { printed = [] }

-- items lead from a state to another, and print these
pub record Tells (g : Network) (limit : ℕ) (s : State) (items : List Item) (t : State) (out : List PrintItem) : Type 0 where
  pub leads : Leads g limit s items t
  pub printed : t.printed ≡ s.printed ++ out

-- a stage of a drain, whether its moves are made early, how many were, and what they printed
pub record Early : Type 0 where
  pub stage : Stage
  pub early : Bool
  pub count : ℕ
  pub out : List PrintItem

abbrev pub made_of : Bool → Stage → ℕ → List Item
made_of true (delivers e i j) count = moves e i j count
made_of true (flushes v j) count = []
made_of false stage count = []

-- the early moves of these stages, stage by stage, lead from the one state to the other, but for what was printed
abbrev pub Made : Network → ℕ → List Early → State → State → Type 0
Made g limit [] s t = hushed s ≡ hushed t
Made g limit (x ∷ others) s t = (u : State) × Tells g limit s (made_of x.early x.stage x.count) u x.out × Made g limit others u t

-- an item that has nothing to do with a subtask: it is of another one, and its channel isn't one into which the subtask sends
abbrev pub IsApart : Network → ℕ → ℕ → Item → Type 0
IsApart g v j quiet = ⊥
IsApart g v j (happens (Take table change)) = is_scan_of g table v ≡ false
IsApart g v j (happens (Move e i k)) = ((e ≡ v) → ⊥) × ((feed : Feed) → g.fed e ≡ Some feed → (feed.node ≡ v) × (k ≡ j) → ⊥)
IsApart g v j (happens (Flush w k)) = (w ≡ v) × (k ≡ j) → ⊥

-- no move of the stage is made early, or the item has nothing to do with the subtask that takes what the stage delivers
abbrev pub MayPassStage : Network → Item → Bool → Stage → Type 0
MayPassStage g item false stage = Unit {0}
MayPassStage g item true (flushes v j) = Unit {0}
MayPassStage g item true (delivers e i j) = (feed : Feed) → g.fed e ≡ Some feed → IsApart g feed.node j item

abbrev pub MayPass : Network → Item → Early → Type 0
MayPass g item x = MayPassStage g item x.early x.stage

-- what a stage does once, or more often
abbrev pub stage_item : Stage → Item
stage_item (delivers e i j) = happens (Move e i j)
stage_item (flushes v j) = happens (Flush v j)

-- what each stage does may pass what the stages behind it do early
abbrev pub AreOrdered : Network → List Early → Type 0
AreOrdered g [] = Unit {0}
AreOrdered g (x ∷ others) = AllByRecursion (MayPass g (stage_item x.stage)) others × AreOrdered g others

-- so many moves more were made early of the stage at a place, from 0, and printed these
abbrev pub bumped : ℕ → ℕ → List PrintItem → List Early → List Early
bumped place count out [] = []
bumped zero count out (x ∷ others) = record x { count = x.count + count; out = x.out ++ out } ∷ others
bumped (suc place) count out (x ∷ others) = x ∷ bumped place count out others
