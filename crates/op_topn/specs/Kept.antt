-- What is kept of all partitions, and what a change of one of them makes of it.
use Rattle.std.specs.Prelude.{◌≡◌, ◌<◌, ℕ, Bool, true, false, List, length, take, Option, Some, None}
use Rattle.std.specs.List.{AllByRecursion}
use Rattle.std.specs.BTreeMap.{BTreeMap, IsOrdered, get}
use Rattle.std.specs.declared.cmp.Ordering.TheVariants.{Greater}
use Rattle.ct_value.specs.Bag.{copies, none}
use Rattle.ct_value.specs.Order.{row_cmp}
use Rattle.ct_value.specs.declared.row.Row.{Row}
use Rattle.ct_change.specs.Changelog.{Rows, same_row}
use Rattle.ct_change.specs.Emission.{replaced}
use Rattle.rel_algebra.specs.declared.sort.SortCol.{SortCol}
use Rattle.rel_algebra.specs.Ranks.{rank_cmp, in_rank_order}
use Rattle.op_topn.specs.RankedRows.{IsRanked, is_empty}
use Rattle.op_topn.specs.declared.partitions.Firsts.{Firsts}
use Rattle.op_topn.specs.declared.partitions.TopBy.{TopBy}
use Rattle.op_topn.specs.declared.rows.RankedRows.{RankedRows}

-- the row stands, if there is one
abbrev pub HasRow : Rows → Option Row → Type 0
HasRow rows None = Unit {0}
HasRow rows (Some row) = 0 < copies rows row

-- a partition that has no rows isn't kept
abbrev pub unless_empty : Bool → RankedRows → Option RankedRows
unless_empty true kept = None
unless_empty false kept = Some kept

-- what is kept of a partition, if anything is, stands for its rows; nothing is of one without rows
abbrev pub KeptAt : List SortCol → Rows → Option RankedRows → Type 0
KeptAt order rows None = rows ≡ none
KeptAt order rows (Some kept) = IsRanked order kept.counts rows × (is_empty kept ≡ false)

-- the same of each partition, by its key
pub record AreKept (order : List SortCol) (partitions : BTreeMap Row RankedRows) (of : Row → Rows) : Type 0 where
  pub ordered : IsOrdered row_cmp partitions
  pub each : (key : Row) → KeptAt order (of key) (get row_cmp partitions key)

-- the rows of each partition after a change of the one with this key
pub record IsTurned (key : Row) (of after : Row → Rows) (gone come : Option Row) : Type 0 where
  pub own : after key ≡ replaced (of key) gone come
  pub others : (other : Row) → same_row key other ≡ false → after other ≡ of other

-- ---- the first rows of a partition

-- at most as many as are wanted, of these rows
abbrev pub firsts_of : TopBy → Rows → List Row
firsts_of by rows = take by.bound (in_rank_order by.order rows)

-- these are so many, and the row, if there is one, stands behind all of them
abbrev pub IsBehind : List SortCol → ℕ → List Row → Option Row → Type 0
IsBehind order bound firsts None = Unit {0}
IsBehind order bound firsts (Some row) = (length firsts ≡ bound) × AllByRecursion (λ first. rank_cmp order row first ≡ Greater) firsts

-- the first rows before a change and after it, where they are told; nothing is told where they stay
abbrev pub AreFirsts : Option Firsts → List Row → List Row → Type 0
AreFirsts None olds news = news ≡ olds
AreFirsts (Some firsts) olds news = (firsts.olds.items ≡ olds) × (firsts.news.items ≡ news)

-- the first rows before a change by which these go and come, where they are wanted; they aren't where both stand behind them
abbrev pub AreOlds : List SortCol → ℕ → List Row → Option Row → Option Row → Option (List Row) → Type 0
AreOlds order bound firsts left come None = IsBehind order bound firsts left × IsBehind order bound firsts come
AreOlds order bound firsts left come (Some olds) = olds ≡ firsts
