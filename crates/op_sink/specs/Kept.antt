-- What a materializer keeps: under each key the rows that stand under it, in order of arrival.
use Rattle.std.specs.Prelude.{◌≡◌, ℕ, List, [], ◌∷◌, ◌++◌, length}
use Rattle.std.specs.Option.{unwrap_or}
use Rattle.std.specs.BTreeMap.{BTreeMap, get}
use Rattle.ct_value.specs.Order.{row_cmp}
use Rattle.ct_value.specs.declared.row.Row.{Row}
use Rattle.emission_rules.specs.Materialize.{under}

-- the rows under a key, none where it is absent
abbrev pub rows_at : BTreeMap Row (List Row) → Row → List Row
rows_at kept values = unwrap_or (get row_cmp kept values) []

-- they are those of these rows that have the key
abbrev pub AreKept : List ℕ → BTreeMap Row (List Row) → List Row → Type 0
AreKept key kept rows = (values : Row) → rows_at kept values ≡ under key values rows

-- a row stood at this place of a list, and left the others
pub record Left (row : Row) (at : ℕ) (old new : List Row) : Type 0 where
  pub front : List Row
  pub back : List Row
  pub place : length front ≡ at
  pub before : old ≡ front ++ row ∷ back
  pub after : new ≡ front ++ back
