-- Rows with their counts, as a bag keeps them and hands them out.
use Rattle.std.specs.Prelude.{◌≢◌, ℕ, zero, suc, cond, List, [], ◌∷◌, Some}
use Rattle.std.specs.BTreeMap.{BTreeMap, IsOrdered, get}
use Rattle.ct_value.specs.Order.{row_cmp}
use Rattle.ct_value.specs.declared.row.Row.{Row}
use Rattle.ct_change.specs.Changelog.{same_row}

-- the rows stand in order, and no count is 0
pub record AreCounts (counts : BTreeMap Row ℕ) : Type 0 where
  pub ordered : IsOrdered row_cmp counts
  pub positive : (row : Row) → get row_cmp counts row ≢ Some 0

-- one more of a row before rows with counts
abbrev pub one_more : Row → List (Row × ℕ) → List (Row × ℕ)
one_more row [] = (row, 1) ∷ []
one_more row (entry ∷ entries) = cond (same_row row entry.0) ((row, suc entry.1) ∷ entries) ((row, 1) ∷ entry ∷ entries)

-- each run of equal rows as one row with its count
abbrev pub runs : List Row → List (Row × ℕ)
runs [] = []
runs (row ∷ rows) = one_more row (runs rows)

-- a row so many times before the others
abbrev pub repeated : Row → ℕ → List Row → List Row
repeated row zero rows = rows
repeated row (suc count) rows = row ∷ repeated row count rows

-- the rows, each copy by itself
abbrev pub each_copy : List (Row × ℕ) → List Row
each_copy [] = []
each_copy (entry ∷ entries) = repeated entry.0 entry.1 (each_copy entries)
