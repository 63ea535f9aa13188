-- What totals say of the values that a call takes.
use Rattle.std.proofs.Common.{◌≡◌, ℕ, Bool, true, false, cond, not, List, Some, None, ℤ, pos, negsuc, refl, sym, ap, ◌∙◌, arith}
use Rattle.std.specs.Prelude.{◌&&◌, ◌+ℤ◌, unsigned_abs}
use Rattle.std.specs.Int.{is_negative}
use Rattle.std.proofs.lemmas.Int.{ints}
use Rattle.ct_value.specs.Bag.{total, bag_of_counts}
use Rattle.ct_value.proofs.laws.Bags.{total-none, total-add, total-bag_of_counts}
use Rattle.ct_value.specs.Order.{value_cmp, value_total, value_exact, number_of, row_total, row_exact}
use Rattle.ct_value.specs.declared.row.Row.{Row}
use Rattle.ct_value.specs.declared.value.Value.{Value}
use Rattle.ct_change.specs.Changelog.{Rows}
use Rattle.ct_field.specs.Typed.{is_null}
use Rattle.rel_algebra.specs.declared.agg.Agg.{Agg}
use Rattle.rel_algebra.specs.Aggregates.{Values, size, known, sum_of, argument, passes, values_of}
use Rattle.rel_algebra.specs.Sums.{restrict}
use Rattle.rel_algebra.proofs.laws.Aggregates.{sum_of-none, sum_of-add}
use Rattle.rel_algebra.proofs.laws.Bags.{by_items, total-restrict, total-mapped}
use Rattle.agg_results.specs.Taken.{taken, weight, together_weigh, counts, above, below, above_in, below_in}

values-total : (agg : Agg) (w : Value → ℕ) (rows : Rows) → total w (values_of agg rows) ≡ total (λ row. cond (passes agg.filter row) (w (argument agg.arg row)) 0) rows
values-total agg w rows =
    total-mapped value_total value_exact row_total row_exact w (argument agg.arg) (restrict (passes agg.filter) rows)
    ∙ total-restrict row_total row_exact (λ row. w (argument agg.arg row)) (passes agg.filter) rows

pub rows-size : (agg : Agg) (entries : List (Row × ℕ)) → size (values_of agg (bag_of_counts entries)) ≡ together_weigh (counts agg) entries
rows-size agg entries = values-total agg (λ _. 1) (bag_of_counts entries) ∙ total-bag_of_counts row_total (counts agg) entries

at_row : (agg : Agg) (w : Value → ℕ) (row : Row) → cond (passes agg.filter row) (cond (not (is_null (argument agg.arg row))) (w (argument agg.arg row)) 0) 0 ≡ weight w (taken agg row)
at_row agg w row = go (passes agg.filter row) (not (is_null (argument agg.arg row)))
  where
    go : (p k : Bool) → cond p (cond k (w (argument agg.arg row)) 0) 0 ≡ weight w (cond (p && k) (Some (argument agg.arg row)) None)
    go true true = refl
    go true false = refl
    go false k = refl

pub known-total : (agg : Agg) (w : Value → ℕ) (entries : List (Row × ℕ)) → total w (known (values_of agg (bag_of_counts entries))) ≡ together_weigh (λ row. weight w (taken agg row)) entries
known-total agg w entries =
    total-restrict value_total value_exact w (λ value. not (is_null value)) (values_of agg (bag_of_counts entries))
    ∙ values-total agg (λ value. cond (not (is_null value)) (w value) 0) (bag_of_counts entries)
    ∙ total-bag_of_counts row_total (λ row. cond (passes agg.filter row) (cond (not (is_null (argument agg.arg row))) (w (argument agg.arg row)) 0) 0) entries
    ∙ ap (λ (f : Row → ℕ). together_weigh f entries) (λ i row. at_row agg w row i)

parts : (n : ℤ) → n +ℤ pos (cond (is_negative n) (unsigned_abs n) 0) ≡ pos (cond (is_negative n) 0 (unsigned_abs n))
parts (pos n) = grind (arith, ints)
parts (negsuc n) = grind (arith, ints)

values-parts : (values : Values) → sum_of values +ℤ pos (total below values) ≡ pos (total above values)
values-parts values = by_items value_total value_exact (λ (values : Values). sum_of values +ℤ pos (total below values) ≡ pos (total above values))
    (let a = sum_of-none in let b = total-none {R = value_cmp} value_total below in let d = total-none {R = value_cmp} value_total above in omega (arith, ints, a, b, d))
    (λ values value h.
    let a = sum_of-add values value in let b = total-add value_total below values value in let d = total-add value_total above values value in
    let p : number_of value +ℤ pos (below value) ≡ pos (above value) = parts (number_of value) in omega (arith, ints, a, b, d, p, h))
    values

pub sum-parts : (agg : Agg) (entries : List (Row × ℕ)) (lower upper : ℕ) → lower ≡ together_weigh (below_in agg) entries → upper ≡ together_weigh (above_in agg) entries
    → sum_of (known (values_of agg (bag_of_counts entries))) +ℤ pos lower ≡ pos upper
sum-parts agg entries lower upper e g =
    ap (λ n. sum_of (known (values_of agg (bag_of_counts entries))) +ℤ pos n) (e ∙ sym (known-total agg below entries))
    ∙ values-parts (known (values_of agg (bag_of_counts entries))) ∙ ap pos (known-total agg above entries ∙ sym g)
