-- Totals while rows are taken one by one.
use Rattle.std.proofs.Common.{◌≡◌, ℕ, zero, suc, ◌+◌, ◌*◌, ◌≤◌, ◌^◌, Bool, true, false, cond, not, List, [], ◌∷◌, Option, Some, None, refl, sym, ap, ◌∙◌, arith}
use Rattle.std.specs.Prelude.{◌&&◌, slice_get}
use Rattle.ct_value.specs.declared.row.Row.{Row}
use Rattle.ct_value.specs.declared.value.Value.{Value}
use Rattle.ct_field.specs.Typed.{cell, is_null}
use Rattle.rel_algebra.specs.declared.agg.Agg.{Agg}
use Rattle.rel_algebra.specs.Aggregates.{argument, passes}
use Rattle.agg_results.specs.Taken.{AreCounted, together_weigh, counts, known_in, above_in, below_in, taken, or_null, unless_null}
use Rattle.agg_results.specs.Wide.{wide_number}
use Rattle.agg_results.specs.declared.totals.Totals.{Totals}

-- what was summed up so far, and the entries that are left
pub record Summed (agg : Agg) (all : List (Row × ℕ)) (sum : Totals) (index : ℕ) (entries : List (Row × ℕ)) : Type 0 where
  pub counted : AreCounted entries
  pub rows : sum.rows + together_weigh (counts agg) entries ≡ together_weigh (counts agg) all
  pub known : sum.known + together_weigh (known_in agg) entries ≡ together_weigh (known_in agg) all
  pub above : wide_number sum.above + together_weigh (above_in agg) entries ≡ together_weigh (above_in agg) all
  pub below : wide_number sum.below + together_weigh (below_in agg) entries ≡ together_weigh (below_in agg) all
  pub rows_most : sum.rows ≤ 18446744073709551615 * index
  pub known_most : sum.known ≤ 18446744073709551615 * index
  pub above_most : wide_number sum.above ≤ 170141183460469231731687303715884105727 * sum.known
  pub below_most : wide_number sum.below ≤ 2 ^ 127 * sum.known

pub cell_got : (row : Row) (n : ℕ) → or_null (slice_get row n) ≡ cell n row
cell_got [] n = refl
cell_got (value ∷ row) zero = refl
cell_got (value ∷ row) (suc n) = cell_got row n

-- the column's value, where it isn't NULL
pub known_got : (row : Row) (n : ℕ) → unless_null (slice_get row n) ≡ cond (not (is_null (cell n row))) (Some (cell n row)) None
known_got row n = go (slice_get row n) ∙ ap (λ v. cond (not (is_null v)) (Some v) None) (cell_got row n)
  where
    go : (o : Option Value) → unless_null o ≡ cond (not (is_null (or_null o))) (Some (or_null o)) None
    go None = refl
    go (Some value) = at (is_null value)
      where
        at : (b : Bool) → cond b None (Some value) ≡ cond (not b) (Some value) None
        at true = refl
        at false = refl

-- what is taken of a row that counts
pub taken_known : (agg : Agg) (row : Row) (n : ℕ) → agg.arg ≡ Some n → passes agg.filter row ≡ true → cond (not (is_null (cell n row))) (Some (cell n row)) None ≡ taken agg row
taken_known agg row n e p =
    sym (ap (λ b. cond (b && not (is_null (argument agg.arg row))) (Some (argument agg.arg row)) None) p
    ∙ ap (λ arg. cond (not (is_null (argument arg row))) (Some (argument arg row)) None) e)

pub at_most_one : (b : Bool) → cond b 1 0 ≤ 1
at_most_one true = omega arith
at_most_one false = omega arith
