-- What is made of rows with counts, entry by entry.
use Rattle.std.proofs.Common.{◌≡◌, ℕ, zero, suc, ◌+◌, ◌*◌, ◌<◌, ◌≤◌, ◌^◌, List, [], ◌∷◌, Option, Some, None, refl, sym, ap, ◌∙◌, subst, arith}
use Rattle.ct_value.specs.Bag.{none, add, add_many, bag_of_counts, copies, one_at}
use Rattle.ct_value.proofs.laws.Bags.{copies-occurs, one_at_itself, total-add_many}
use Rattle.ct_value.specs.Order.{row_cmp, row_total, row_exact}
use Rattle.ct_value.specs.declared.row.Row.{Row}
use Rattle.ct_change.specs.Changelog.{Rows}
use Rattle.rel_algebra.specs.Sums.{one, together, plus, sum_over}
use Rattle.rel_algebra.proofs.laws.Bags.{together-none, together-comm, together-add, copies-together, plus-none, plus-assoc, plus-one, plus-comm, sum_over-none, sum_over-add}
use Rattle.batch_answer.specs.Tallies.{Unfit, OfRows, times, over}

sum_over-many : (f : OfRows) (rows : Rows) (row : Row) (n : ℕ) → sum_over f (add_many rows row n) ≡ plus (times n (f row)) (sum_over f rows)
sum_over-many f rows row zero = sym (plus-none row_total row_exact (sum_over f rows))
sum_over-many f rows row (suc n) =
    sum_over-add row_total row_exact row_total row_exact f (add_many rows row n) row
    ∙ ap (plus (f row)) (sum_over-many f rows row n)
    ∙ sym (plus-assoc row_total row_exact (f row) (times n (f row)) (sum_over f rows))

pub over-none : (f : OfRows) → over f [] ≡ Some none
over-none f = sum_over-none row_total row_exact row_cmp f

pub over-more : (f : OfRows) (entry : Row × ℕ) (entries : List (Row × ℕ)) → over f (entry ∷ entries) ≡ plus (times entry.1 (f entry.0)) (over f entries)
over-more f entry entries = sum_over-many f (bag_of_counts entries) entry.0 entry.1

pub times-nothing : (n : ℕ) → times n (Some none) ≡ Some none
times-nothing zero = refl
times-nothing (suc n) = plus-none row_total row_exact (times n (Some none)) ∙ times-nothing n

pub times-one : (n : ℕ) (row : Row) → times n (Some (one row)) ≡ Some (add_many none row n)
times-one zero row = refl
times-one (suc n) row = ap (plus (Some (one row))) (times-one n row) ∙ plus-one row_total row_exact (add_many none row n) row

pub together-many : (rows : Rows) (row : Row) (n : ℕ) → together rows (add_many none row n) ≡ add_many rows row n
together-many rows row zero = together-comm row_total row_exact rows none ∙ together-none row_total row_exact rows
together-many rows row (suc n) =
    together-comm row_total row_exact rows (add (add_many none row n) row)
    ∙ together-add row_total row_exact (add_many none row n) rows row
    ∙ ap (λ (r : Rows). add r row) (together-comm row_total row_exact (add_many none row n) rows ∙ together-many rows row n)

pub copies-many : (rows : Rows) (row other : Row) (n : ℕ) → copies (add_many rows row n) other ≡ n * one_at row_cmp other row + copies rows other
copies-many rows row other n = copies-occurs (add_many rows row n) other ∙ total-add_many row_total (one_at row_cmp other) rows row n ∙ ap (λ k. n * one_at row_cmp other row + k) (sym (copies-occurs rows other))

-- ---- one more entry

module _ (f : OfRows) (sum : Rows) (row : Row) (n : ℕ) (entries : List (Row × ℕ)) where
  -- the entry makes one row of each copy
  pub with_row : (made : Row) → f row ≡ Some (one made) → plus (Some (add_many sum made n)) (over f entries) ≡ plus (Some sum) (over f ((row, n) ∷ entries))
  with_row made e =
      ap (λ (r : Rows). plus (Some r) (over f entries)) (sym (together-many sum made n))
      ∙ plus-assoc row_total row_exact (Some sum) (Some (add_many none made n)) (over f entries)
      ∙ ap (λ o. plus (Some sum) (plus o (over f entries))) (sym (ap (times n) e ∙ times-one n made))
      ∙ ap (plus (Some sum)) (sym (over-more f (row, n) entries))

  -- the entry makes nothing
  pub with_nothing : f row ≡ Some none → plus (Some sum) (over f entries) ≡ plus (Some sum) (over f ((row, n) ∷ entries))
  with_nothing e =
      ap (plus (Some sum)) (sym (over-more f (row, n) entries ∙ ap (λ o. plus o (over f entries)) (ap (times n) e ∙ times-nothing n) ∙ plus-none row_total row_exact (over f entries)))

-- the entry is out of range
pub out_of_range : (f : OfRows) (sum : Rows) (row : Row) (n : ℕ) (entries : List (Row × ℕ)) → 0 < n → f row ≡ None → plus (Some sum) (over f ((row, n) ∷ entries)) ≡ None
out_of_range f sum row zero entries some e = absurd (omega arith)
out_of_range f sum row (suc n) entries some e =
    ap (plus (Some sum)) (over-more f (row, suc n) entries ∙ ap (λ o. plus (plus o (times n (f row))) (over f entries)) e)

-- ---- answers that can't be given

pub unfit-none : (o : Option Rows) → o ≡ None → Unfit o
unfit-none o e = subst (λ (p : Option Rows). Unfit p) (sym e) tt

pub unfit-same : (o p : Option Rows) → o ≡ p → Unfit o → Unfit p
unfit-same o p e u = subst (λ (p : Option Rows). Unfit p) e u

pub unfit-plus : (o p : Option Rows) → Unfit o → Unfit (plus o p)
unfit-plus None p u = tt
unfit-plus (Some rows) None u = tt
unfit-plus (Some rows) (Some others) u = (u.0, let h : 2 ^ 64 ≤ copies rows u.0 = u.1 in let e = copies-together row_total row_exact rows others u.0 in omega arith)

pub unfit-plus-right : (o p : Option Rows) → Unfit p → Unfit (plus o p)
unfit-plus-right o p u = unfit-same (plus p o) (plus o p) (plus-comm row_total row_exact p o) (unfit-plus p o u)

-- too many copies of one row
pub unfit-many : (sum : Rows) (made : Row) (n : ℕ) → 2 ^ 64 ≤ copies sum made + n → Unfit (Some (add_many sum made n))
unfit-many sum made n h = (made, let e = copies-many sum made made n in let i : one_at row_cmp made made ≡ 1 = one_at_itself row_cmp row_total made in let j : n * one_at row_cmp made made ≡ n = ap (λ k. n * k) i ∙ omega arith in omega arith)
