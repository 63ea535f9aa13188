-- Laws of grouping and of Top-N: of bags that share no group or partition, each is the sum.
use Rattle.std.proofs.Common.{◌≡◌, ◌<◌, ℕ, suc, ◌++◌, not, List, take, Bool, Option, Some, refl}
use Rattle.std.specs.Prelude.{option_map}
use Rattle.ct_value.specs.Bag.{copies, none}
use Rattle.ct_value.specs.Rows.{project}
use Rattle.ct_value.specs.declared.row.Row.{Row}
use Rattle.ct_change.specs.Changelog.{Rows, same_row}
use Rattle.rel_algebra.specs.declared.sort.SortCol.{SortCol}
use Rattle.rel_algebra.specs.Sums.{one, together, plus, restrict}
use Rattle.rel_algebra.specs.Keys.{rows_of_key, AreApart}
use Rattle.rel_algebra.specs.Groups.{group_rows}
use Rattle.rel_algebra.specs.Ranks.{first_rows, rank_rows}
use Rattle.rel_algebra.proofs.laws.Keys.{by_key-none, by_key-together, by_key-one, by_key-split, by_key-some}

-- ---- grouping by one column or more

-- a group's row
abbrev pub group_row : (Rows → Option Row) → Row → Rows → Option Rows
group_row results key members = option_map (λ values. one (key ++ values)) (results members)

module _ (keys : ℕ) (results : Rows → Option Row) where
  pub group_rows-none : group_rows (suc keys) results none ≡ Some none
  group_rows-none = by_key-none (take (suc keys)) (group_row results)

  pub group_rows-together : (a b : Rows) → AreApart (take (suc keys)) a b → group_rows (suc keys) results (together a b) ≡ plus (group_rows (suc keys) results a) (group_rows (suc keys) results b)
  group_rows-together a b apart = by_key-together (take (suc keys)) (group_row results) a b apart

  -- the rows of one group make its row
  pub group_rows-one : (key : Row) (rows : Rows) (row : Row) → 0 < copies rows row → ((row : Row) → 0 < copies rows row → key ≡ take (suc keys) row) → group_rows (suc keys) results rows ≡ group_row results key rows
  group_rows-one key rows row some all = by_key-one (take (suc keys)) (group_row results) key rows row some all

  -- one group, and the others
  pub group_rows-split : (key : Row) (rows : Rows) → group_rows (suc keys) results rows ≡ plus (group_rows (suc keys) results (rows_of_key (take (suc keys)) key rows)) (group_rows (suc keys) results (restrict (λ row. not (same_row key (take (suc keys) row))) rows))
  group_rows-split key rows = by_key-split (take (suc keys)) (group_row results) key rows

-- ---- Top-N

module _ (partition : List ℕ) (sorts : List SortCol) (bound : ℕ) (ranked : Bool) where
  pub rank_rows-none : rank_rows partition sorts bound ranked none ≡ Some none
  rank_rows-none = by_key-none (project partition) (λ key members. Some (first_rows sorts bound ranked members))

  pub rank_rows-together : (a b : Rows) → AreApart (project partition) a b → rank_rows partition sorts bound ranked (together a b) ≡ plus (rank_rows partition sorts bound ranked a) (rank_rows partition sorts bound ranked b)
  rank_rows-together a b apart = by_key-together (project partition) (λ key members. Some (first_rows sorts bound ranked members)) a b apart

  -- the rows of one partition
  pub rank_rows-one : (key : Row) (rows : Rows) (row : Row) → 0 < copies rows row → ((row : Row) → 0 < copies rows row → key ≡ project partition row) → rank_rows partition sorts bound ranked rows ≡ Some (first_rows sorts bound ranked rows)
  rank_rows-one key rows row some all = by_key-one (project partition) (λ key members. Some (first_rows sorts bound ranked members)) key rows row some all

  -- one partition, and the others
  pub rank_rows-split : (key : Row) (rows : Rows) → rank_rows partition sorts bound ranked rows ≡ plus (rank_rows partition sorts bound ranked (rows_of_key (project partition) key rows)) (rank_rows partition sorts bound ranked (restrict (λ row. not (same_row key (project partition row))) rows))
  rank_rows-split key rows = by_key-split (project partition) (λ key members. Some (first_rows sorts bound ranked members)) key rows

  -- never out of range
  pub rank_rows-some : (rows : Rows) → (answer : Rows) × (rank_rows partition sorts bound ranked rows ≡ Some answer)
  rank_rows-some rows = by_key-some (project partition) (λ key members. Some (first_rows sorts bound ranked members)) (λ key members. (first_rows sorts bound ranked members, refl)) rows
