-- What is kept of all partitions, as the rule's.
use Rattle.std.specs.Prelude.{◌≡◌, ◌≤◌, ◌<◌, ◌+◌, ◌^◌, ℕ, true}
use Rattle.std.specs.BTreeMap.{BTreeMap}
use Rattle.ct_value.specs.Bag.{copies, total}
use Rattle.ct_value.specs.declared.row.Row.{Row}
use Rattle.ct_change.specs.declared.change.Change.{Change}
use Rattle.ct_change.specs.Changelog.{Mode, Rows, apply, MayCome, HasKey}
use Rattle.op_rules.specs.Values.{types_fit}
use Rattle.emission_rules.specs.Ranking.{Ranking, members, IsSound}
use Rattle.op_topn.specs.declared.rows.RankedRows.{RankedRows}
use Rattle.op_topn.specs.declared.partitions.TopBy.{TopBy}
use Rattle.op_topn.specs.Kept.{AreKept}

-- the ranking by these columns, from a mode to a mode
abbrev pub ranking : TopBy → Mode → Mode → Ranking
ranking by input output = record { partition = by.partition; order = by.order; bound = by.bound; ranked = by.ranked; columns = by.columns; input = input; output = output }

-- what is kept stands for the partitions of these rows, which are at most so many and have values of the columns
pub record IsHeld (r : Ranking) (rows : Rows) (partitions : BTreeMap Row RankedRows) (held : ℕ) : Type 0 where
  pub kept : AreKept r.order partitions (λ key. members r key rows)
  pub fits : (row : Row) → 0 < copies rows row → types_fit r.columns row ≡ true
  pub few : total (λ _. 1) rows ≤ held

-- a change may be taken: it may come, its row has values of the columns, and there is room for it
pub record MayTake (r : Ranking) (rows : Rows) (partitions : BTreeMap Row RankedRows) (held : ℕ) (change : Change) : Type 0 where
  pub sound : IsSound r
  pub is_held : IsHeld r rows partitions held
  pub may : MayCome r.input rows change
  pub fits : types_fit r.columns change.row ≡ true
  pub key : HasKey r.input change.row
  pub few : held + 1 < 2 ^ 32

-- so it is of all rows for which what is kept stands, and to which a change may come
abbrev pub ForChange : TopBy → Mode → Mode → (Rows → Type 0) → BTreeMap Row RankedRows → Change → (Ranking → Rows → ℕ → Type 0) → Type 0
ForChange by input output stands partitions change P = (rows : Rows) (held : ℕ) → stands rows → MayTake (ranking by input output) rows partitions held change → P (ranking by input output) rows held

-- what is kept stands for the partitions of the rows behind a change
abbrev pub IsHeldAfter : Ranking → Rows → BTreeMap Row RankedRows → ℕ → Change → Type 0
IsHeldAfter r rows partitions held change = IsHeld r (apply r.input rows change) partitions (held + 1)
