-- For which rows an ordered map of keys with counts stands.
use Rattle.std.specs.Prelude.{◌≡◌, ◌==◌, ℕ, Bool, List, length}
use Rattle.std.specs.List.{AllByRecursion}
use Rattle.std.specs.Option.{unwrap_or}
use Rattle.std.specs.BTreeMap.{BTreeMap, IsOrdered, get}
use Rattle.ct_value.specs.Bag.{copies}
use Rattle.ct_value.specs.declared.row.Row.{Row}
use Rattle.ct_change.specs.Changelog.{Rows}
use Rattle.rel_algebra.specs.declared.sort.SortCol.{SortCol}
use Rattle.op_topn.specs.Keys.{Key, key_cmp, rank_key}
use Rattle.op_topn.specs.declared.rows.RankedRows.{RankedRows}

-- each row stands under its key, with the number of its copies
pub record IsRanked (order : List SortCol) (counts : BTreeMap Key ℕ) (rows : Rows) : Type 0 where
  pub ordered : IsOrdered key_cmp counts
  pub keyed : AllByRecursion (λ entry. entry.0 ≡ rank_key order entry.0.1) counts.entries
  pub counted : (row : Row) → unwrap_or (get key_cmp counts (rank_key order row)) 0 ≡ copies rows row

-- whether no row is kept
abbrev pub is_empty : RankedRows → Bool
is_empty kept = length kept.counts.entries == 0
