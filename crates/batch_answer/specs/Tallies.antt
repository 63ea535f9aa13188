-- Rows with their counts as the program keeps them, and answers that it can't give.
use Rattle.std.specs.Prelude.{ℕ, zero, suc, ◌≤◌, ◌^◌, List, Option, Some, None}
use Rattle.std.specs.BTreeMap.{BTreeMap, IsOrdered, get}
use Rattle.std.specs.Option.{unwrap_or}
pub use Rattle.agg_results.specs.Taken.{AreCounted}
use Rattle.ct_value.specs.Bag.{copies, none, bag_of_counts}
use Rattle.ct_value.specs.Order.{row_cmp}
use Rattle.ct_value.specs.declared.row.Row.{Row}
use Rattle.ct_change.specs.Changelog.{Rows}
use Rattle.rel_algebra.specs.Sums.{plus, sum_over}

-- the rows stand in order, each with its count
pub record IsTally (counts : BTreeMap Row ℕ) : Type 0 where
  pub ordered : IsOrdered row_cmp counts
  pub counted : AreCounted counts.entries

-- how many copies of a row are counted
abbrev pub count_at : BTreeMap Row ℕ → Row → ℕ
count_at counts row = unwrap_or (get row_cmp counts row) 0

-- out of range, or some row has 2^64 copies or more
abbrev pub Unfit : Option Rows → Type 0
Unfit None = Unit {0}
Unfit (Some rows) = (row : Row) × (2 ^ 64 ≤ copies rows row)

-- what is made of a row
abbrev pub OfRows : Type 0
OfRows = Row → Option Rows

-- so many times the same
abbrev pub times : ℕ → Option Rows → Option Rows
times zero made = Some none
times (suc n) made = plus made (times n made)

-- what f makes of the rows, as often as they stand
abbrev pub over : OfRows → List (Row × ℕ) → Option Rows
over f entries = sum_over f (bag_of_counts {R = row_cmp} entries)
