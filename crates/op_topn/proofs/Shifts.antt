-- The rows of one partition without one row and with another.
use Rattle.std.proofs.Common.{◌≡◌, ℕ, ◌+◌, ◌<◌, ◌≤◌, ◌^◌, true, false, cond, List, Option, Some, None, sym, ap, subst, ◌∙◌, arith}
use Rattle.std.specs.Option.{unwrap_or}
use Rattle.std.specs.BTreeMap.{BTreeMap, get}
use Rattle.ct_value.specs.Bag.{copies, total, one_at, add, remove}
use Rattle.ct_value.proofs.laws.Bags.{copies-occurs, total-le, total-remove}
use Rattle.ct_value.specs.Order.{row_cmp, row_total, row_exact}
use Rattle.ct_value.specs.declared.row.Row.{Row}
use Rattle.ct_change.specs.Changelog.{Rows, same_row, with, without}
use Rattle.rel_algebra.specs.declared.sort.SortCol.{SortCol}
use Rattle.op_topn.specs.Keys.{Key, key_cmp, rank_key}
use Rattle.op_topn.specs.RankedRows.{IsRanked}
use Rattle.op_topn.specs.Kept.{HasRow}

-- what is kept at a row's key
pub at_row : (order : List SortCol) (counts : BTreeMap Key ℕ) (rows : Rows) (key : Key) (row : Row) → IsRanked order counts rows → key ≡ rank_key order row → unwrap_or (get key_cmp counts key) 0 ≡ copies rows row
at_row order counts rows key row keeps e = ap (λ k. unwrap_or (get key_cmp counts k) 0) e ∙ keeps.counted row

-- a row's key is the key of its row
pub key_of_row : (order : List SortCol) (key : Key) (row : Row) → key ≡ rank_key order row → key ≡ rank_key order key.1
key_of_row order key row e = e ∙ ap (λ k. rank_key order k.1) (sym e)

one-le : (a b : Row) → one_at row_cmp a b ≤ 1
one-le a b = elim (same_row a b) as (λ t. cond {A = ℕ} t 1 0 ≤ 1) [ true ↦ omega arith | false ↦ omega arith ]

pub copies-le : (rows : Rows) (row : Row) → copies rows row ≤ total (λ _. 1) rows
copies-le rows row = let e = copies-occurs rows row in let l = total-le (one_at row_cmp row) (one-le row) rows in omega arith

-- there is room for one more of any row
pub room_at : (order : List SortCol) (counts : BTreeMap Key ℕ) (rows : Rows) (key : Key) (row : Row) → IsRanked order counts rows → key ≡ rank_key order row → total (λ _. 1) rows + 1 < 2 ^ 64 → unwrap_or (get key_cmp counts key) 0 + 1 < 2 ^ 64
room_at order counts rows key row keeps e few = let a = at_row order counts rows key row keeps e in let l = copies-le rows row in omega arith

pub stands_at : (order : List SortCol) (counts : BTreeMap Key ℕ) (rows : Rows) (key : Key) (row : Row) → IsRanked order counts rows → key ≡ rank_key order row → 0 < copies rows row → 0 < unwrap_or (get key_cmp counts key) 0
stands_at order counts rows key row keeps e some = let a = at_row order counts rows key row keeps e in omega arith

-- without a row there is as much room
pub few_without : (rows : Rows) (left : Option Row) → HasRow rows left → total (λ _. 1) rows + 1 < 2 ^ 64 → total (λ _. 1) (without rows left) + 1 < 2 ^ 64
few_without rows None has few = few
few_without rows (Some row) has few = let r = total-remove row_total row_exact (λ _. 1) rows row has in omega arith

-- what is kept without the row, and with it
pub gone_kept : (order : List SortCol) (new : BTreeMap Key ℕ) (rows : Rows) (key : Key) (row : Row) (left : Option Row) → key ≡ rank_key order row → left ≡ Some row → IsRanked order new (remove rows key.1) → IsRanked order new (without rows left)
gone_kept order new rows key row left e is keeps = subst (λ g. IsRanked order new (without rows g)) (sym is) (subst (λ x. IsRanked order new (remove rows x)) (ap (λ k. k.1) e) keeps)

pub come_kept : (order : List SortCol) (new : BTreeMap Key ℕ) (rows : Rows) (key : Key) (row : Row) (more : Option Row) → key ≡ rank_key order row → more ≡ Some row → IsRanked order new (add rows key.1) → IsRanked order new (with rows more)
come_kept order new rows key row more e is keeps = subst (λ g. IsRanked order new (with rows g)) (sym is) (subst (λ x. IsRanked order new (add rows x)) (ap (λ k. k.1) e) keeps)
