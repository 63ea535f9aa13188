-- Partials of SUM over INT that are merged: a sum within the type, and one out of it.
use Rattle.std.proofs.Common.{◌≡◌, ℕ, false, List, [], ◌∷◌, sym, ap, ◌∙◌}
use Rattle.std.specs.Prelude.{ℤ, pos, ◌+ℤ◌}
use Rattle.ct_value.specs.Order.{number_of}
use Rattle.ct_value.specs.declared.ty.Ty.TheVariants.{Int}
use Rattle.ct_value.specs.declared.value.Value.{Value}
use Rattle.ct_value.specs.declared.value.Value.TheVariants.{Num}
use Rattle.ct_field.specs.Numbers.{in_range}
use Rattle.ct_field.specs.Typed.{cell}
use Rattle.rel_algebra.specs.declared.agg.AggCall.TheVariants.{Sum}
use Rattle.rel_algebra.specs.Aggregates.{sum_of}
use Rattle.agg_fns.specs.Partial.{column_of, partials_sum}
use Rattle.agg_fns.specs.PartialResults.{result_fits}
use Rattle.agg_fns.proofs.Merges.{no_sum, sum_more}

two : (n : ℕ) (a b : List Value) → sum_of (column_of n (a ∷ b ∷ [])) ≡ number_of (cell n b) +ℤ (number_of (cell n a) +ℤ pos 0)
two n a b = sum_more n (a ∷ []) b ∙ ap (λ s. number_of (cell n b) +ℤ s) (sum_more n [] a ∙ ap (λ s. number_of (cell n a) +ℤ s) (sym no_sum))

-- what holds 5 takes the partial of two values that sum to 7
pub twelve : partials_sum Sum ((Num (pos 1) ∷ Num (pos 5) ∷ []) ∷ (Num (pos 2) ∷ Num (pos 7) ∷ []) ∷ []) ≡ Num (pos 3) ∷ Num (pos 12) ∷ []
twelve = λ i. Num (two 0 (Num (pos 1) ∷ Num (pos 5) ∷ []) (Num (pos 2) ∷ Num (pos 7) ∷ []) i) ∷ Num (two 1 (Num (pos 1) ∷ Num (pos 5) ∷ []) (Num (pos 2) ∷ Num (pos 7) ∷ []) i) ∷ []

-- what holds the greatest INT takes the partial of the value 1
pub past_int : result_fits Sum Int (partials_sum Sum ((Num (pos 1) ∷ Num (pos 2147483647) ∷ []) ∷ (Num (pos 1) ∷ Num (pos 1) ∷ []) ∷ [])) ≡ false
past_int = ap (in_range Int) (two 1 (Num (pos 1) ∷ Num (pos 2147483647) ∷ []) (Num (pos 1) ∷ Num (pos 1) ∷ []))
