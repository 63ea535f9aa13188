-- Key rows: rows of which the values of a key alone are known, with NULL in every other column. So an upsert changelog tells that
-- the row of a key went.
use Rattle.std.specs.Prelude.{◌≡◌, ℕ, suc, ◌==◌, Bool, true, false, cond, List, [], ◌∷◌}
use Rattle.std.specs.List.{list_any, AllByRecursion}
use Rattle.ct_value.specs.declared.value.Value.{Value}
use Rattle.ct_value.specs.declared.value.Value.TheVariants.{Null}
use Rattle.ct_value.specs.declared.row.Row.{Row}
use Rattle.ct_change.specs.declared.change.Change.{Change}
use Rattle.ct_change.specs.Changelog.{Mode, append, retract, upsert, adds, IsValid}

-- whether a column is one of a key's
abbrev pub is_among : List ℕ → ℕ → Bool
is_among key column = list_any (λ other. other == column) key

-- the values from this column on, with NULL outside the key
abbrev pub keyed_from : List ℕ → ℕ → List Value → List Value
keyed_from key column [] = []
keyed_from key column (value ∷ values) = cond (is_among key column) value Null ∷ keyed_from key (suc column) values

-- the row with NULL in every column outside the key
abbrev pub key_row : List ℕ → Row → Row
key_row key row = keyed_from key 0 row

abbrev pub IsKeyRow : List ℕ → Row → Type 0
IsKeyRow key row = key_row key row ≡ row

-- the row by which a mode tells that a row went
abbrev pub deleted : Mode → Row → Row
deleted append row = row
deleted retract row = row
deleted (upsert key) row = key_row key row

-- the row by which a mode tells that a row came, or went
abbrev pub row_told : Mode → Bool → Row → Row
row_told mode true row = row
row_told mode false row = deleted mode row

-- the row of a change that removes is a key row, under upsert
abbrev pub IsKeyed : Mode → Change → Type 0
IsKeyed append change = Unit {0}
IsKeyed retract change = Unit {0}
IsKeyed (upsert key) change = adds change.kind ≡ false → IsKeyRow key change.row

abbrev pub AreKeyed : Mode → List Change → Type 0
AreKeyed mode changes = AllByRecursion (IsKeyed mode) changes

-- a changelog as it is written in a mode: it is valid, and its removals tell no more than the mode does
pub record IsChangelog (mode : Mode) (changes : List Change) : Type 0 where
  pub valid : IsValid mode changes
  pub keyed : AreKeyed mode changes
