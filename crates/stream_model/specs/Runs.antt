-- Runs of the machine.
use Rattle.std.specs.Prelude.{◌≡◌, ℕ, zero, suc, true, List, [], ◌∷◌, ◌++◌, length, Some, Result, Ok, Err}
use Rattle.ct_change.specs.declared.change.Change.{Change}
use Rattle.stream_model.specs.declared.events.Event.{Event}
use Rattle.stream_model.specs.declared.events.Event.TheVariants.{Take, Move, Flush}
use Rattle.stream_model.specs.declared.events.StepFault.{StepFault}
use Rattle.stream_model.specs.declared.events.PrintItem.{PrintItem}
use Rattle.stream_model.specs.declared.events.PrintItem.TheVariants.{Change as Printed, Quiet}
use Rattle.stream_model.specs.Tables.{Table}
use Rattle.stream_model.specs.Network.{Network}
use Rattle.stream_model.specs.Machine.{State, step}

-- what a run is made of: events, and that the job is told to be quiet, which is put behind the printed items
pub data Item : Type 0 where
  happens : Event → Item
  quiet : Item

-- how many changes were taken of each of so many first tables
abbrev pub counts_below : (ℕ → List Change) → ℕ → List ℕ
counts_below taken zero = []
counts_below taken (suc n) = counts_below taken n ++ length (taken n) ∷ []

abbrev pub counts : Network → State → List ℕ
counts g s = counts_below s.taken g.table_count

abbrev pub told_quiet : Network → State → State
told_quiet g s = record s { printed = s.printed ++ Quiet (counts g s) ∷ [] }

abbrev pub step_item : Network → ℕ → State → Item → Result State StepFault
step_item g limit s (happens event) = step g limit s event
step_item g limit s quiet = Ok (told_quiet g s)

-- the changes among printed items
abbrev pub changes_in : List PrintItem → List Change
changes_in [] = []
changes_in (Printed change ∷ items) = change ∷ changes_in items
changes_in (Quiet n ∷ items) = changes_in items

-- the state after an event, or the same where it can't be
abbrev pub state_in : State → Result State StepFault → State
state_in s (Ok next) = next
state_in s (Err fault) = s

-- the state after these items, each of which that can't be changing nothing
abbrev pub after : Network → ℕ → State → List Item → State
after g limit s [] = s
after g limit s (item ∷ items) = after g limit (state_in s (step_item g limit s item)) items

-- each change that is taken has values of its table's columns
abbrev pub IsTyped : Network → Item → Type 0
IsTyped g quiet = Unit {0}
IsTyped g (happens (Take table change)) = (t : Table) → g.tables table ≡ Some t → t.fits change ≡ true
IsTyped g (happens (Move e i j)) = Unit {0}
IsTyped g (happens (Flush v j)) = Unit {0}

abbrev pub AreTyped : Network → List Item → Type 0
AreTyped g [] = Unit {0}
AreTyped g (item ∷ items) = IsTyped g item × AreTyped g items
