-- A bundle: changes that are held back, key by key, in the order in which the keys were first seen.
use Rattle.std.specs.Prelude.{◌≡◌, ◌≤◌, ◌+◌, ℕ, Bool, cond, List, [], ◌∷◌, ◌++◌, length, reverse}
use Rattle.ct_value.specs.declared.row.Row.{Row}
use Rattle.ct_change.specs.declared.change.Change.{Change}
use Rattle.ct_change.specs.Changelog.{same_row}

-- each key with its changes in order of arrival
abbrev pub Entries : Type 0
Entries = List (Row × List Change)

-- how many changes are held
abbrev pub held_in : Entries → ℕ
held_in [] = 0
held_in (entry ∷ entries) = length entry.1 + held_in entries

-- one more change of a key: behind those of the key, at its own place, or behind all where the key isn't there
abbrev pub with_change : Entries → Row → Change → Entries
with_change [] key change = (key, change ∷ []) ∷ []
with_change (entry ∷ entries) key change = cond (same_row key entry.0) ((entry.0, entry.1 ++ change ∷ []) ∷ entries) (entry ∷ with_change entries key change)

-- what is held, and how many changes make a bundle full
pub record Held : Type 0 where
  pub size : ℕ
  pub entries : Entries

-- ---- how it is kept

-- entries may lie the other way round
abbrev pub in_order : Bool → Entries → Entries
in_order reversed entries = cond reversed (reverse entries) entries

-- the number of changes is right, and within the size
pub record IsCounted (size held : ℕ) (entries : Entries) : Type 0 where
  pub counted : held ≡ held_in entries
  pub within : held ≤ size
