-- No partials are worth nothing, and what stands for them stands for any partials that are worth nothing.
use Rattle.std.proofs.Common.{◌≡◌, true, false, List, [], ◌∷◌, None, refl, sym, ap, subst, ◌∙◌}
use Rattle.std.specs.Prelude.{ℤ, ◌&&◌}
use Rattle.std.specs.List.{AllByRecursion}
use Rattle.std.proofs.lemmas.Bool.{false≢true, and_parts}
use Rattle.ct_value.specs.Bag.{items, none}
use Rattle.ct_value.specs.declared.ty.Ty.{Ty}
use Rattle.ct_value.specs.declared.value.Value.{Value}
use Rattle.ct_value.specs.declared.value.Value.TheVariants.{Num}
use Rattle.ct_field.specs.Typed.{is_null}
use Rattle.rel_algebra.specs.declared.agg.AggCall.{AggCall}
use Rattle.rel_algebra.specs.declared.agg.AggCall.TheVariants.{CountAll, Count, CountDistinct, Sum, Min, Max, Avg}
use Rattle.rel_algebra.specs.Aggregates.{known, sum_of, first_value, last_value}
use Rattle.agg_fns.specs.declared.merge_acc.MergeAcc.{MergeAcc}
use Rattle.agg_fns.specs.declared.merge_acc.MergeAcc.TheVariants.{RowCount, ValueCount, Total, Average, Least, Greatest}
use Rattle.agg_fns.specs.MergedPartials.{StandsForPartials}
use Rattle.agg_fns.specs.Partial.{column_of, partials_sum}
use Rattle.agg_fns.specs.Reading.{summed, parts_by, is_blank, all_blank}
use Rattle.agg_fns.specs.Standing.{first_item, last_item}
use Rattle.agg_fns.proofs.Merges.{no_sum, is_zero}
use Rattle.agg_fns.proofs.Stands.{first_none, last_none}
use Rattle.agg_fns.proofs.laws.Readings.{knowns, partial_blank, zero_blank}

pub sum_blank : is_blank summed (Num (sum_of none)) ≡ true
sum_blank = zero_blank (sum_of none) no_sum

pub none_blank : (call : AggCall) → all_blank (parts_by call) (partials_sum call []) ≡ true
none_blank CountAll = ap (λ b. b && true) sum_blank
none_blank Count = ap (λ b. b && true) sum_blank
none_blank CountDistinct = refl
none_blank Sum = λ i. sum_blank i && (sum_blank i && true)
none_blank Min = partial_blank Min
none_blank Max = partial_blank Max
none_blank Avg = λ i. sum_blank i && (sum_blank i && true)

first_gone : (xs : List Value) → AllByRecursion (λ value. is_null value ≡ false) xs → is_null (first_value xs) ≡ true → None ≡ first_item xs
first_gone [] h e = refl
first_gone (x ∷ xs) h e = absurd (false≢true (sym h.0 ∙ e))

last_gone : (xs : List Value) → AllByRecursion (λ value. is_null value ≡ false) xs → is_null (last_value xs) ≡ true → None ≡ last_item xs
last_gone [] h e = refl
last_gone (x ∷ []) h e = absurd (false≢true (sym h.0 ∙ e))
last_gone (x ∷ y ∷ ys) h e = last_gone (y ∷ ys) h.1 e

sum_gone : (n : ℤ) → (is_blank summed (Num n) && true) ≡ true → sum_of none ≡ n
sum_gone n e = sym no_sum ∙ sym (is_zero n (and_parts (is_blank summed (Num n)) true e).0)

sums_gone : (n m : ℤ) → (is_blank summed (Num n) && (is_blank summed (Num m) && true)) ≡ true → (sum_of none ≡ n) × (sum_of none ≡ m)
sums_gone n m e = let parts = and_parts (is_blank summed (Num n)) (is_blank summed (Num m) && true) e in (sum_gone n (ap (λ b. b && true) parts.0), sum_gone m parts.1)

pub blank_stands : (call : AggCall) (ty : Ty) (acc : MergeAcc) (rows : List (List Value)) → StandsForPartials call ty acc [] → all_blank (parts_by call) (partials_sum call rows) ≡ true → StandsForPartials call ty acc rows
blank_stands call ty (RowCount count) rows (is, e) b = (is, e ∙ sum_gone (sum_of (column_of 0 rows)) (subst (λ c. all_blank (parts_by c) (partials_sum c rows) ≡ true) is b))
blank_stands call ty (ValueCount count) rows (is, e) b = (is, e ∙ sum_gone (sum_of (column_of 0 rows)) (subst (λ c. all_blank (parts_by c) (partials_sum c rows) ≡ true) is b))
blank_stands call ty (Total numbers) rows (is, (t, n, s)) b =
    let gone = sums_gone (sum_of (column_of 0 rows)) (sum_of (column_of 1 rows)) (subst (λ c. all_blank (parts_by c) (partials_sum c rows) ≡ true) is b) in
    (is, (t, n ∙ gone.0, s ∙ gone.1))
blank_stands call ty (Average numbers) rows (is, (t, n, s), digits) b =
    let gone = sums_gone (sum_of (column_of 0 rows)) (sum_of (column_of 1 rows)) (subst (λ c. all_blank (parts_by c) (partials_sum c rows) ≡ true) is b) in
    (is, (t, n ∙ gone.0, s ∙ gone.1), digits)
blank_stands call ty (Least kept) rows (is, e) b =
    let null = subst (λ c. all_blank (parts_by c) (partials_sum c rows) ≡ true) is b in
    (is, e ∙ sym first_none ∙ first_gone (items (known (column_of 0 rows))) (knowns (column_of 0 rows)) (and_parts (is_null (first_value (items (known (column_of 0 rows))))) true null).0)
blank_stands call ty (Greatest kept) rows (is, e) b =
    let null = subst (λ c. all_blank (parts_by c) (partials_sum c rows) ≡ true) is b in
    (is, e ∙ sym last_none ∙ last_gone (items (known (column_of 0 rows))) (knowns (column_of 0 rows)) (and_parts (is_null (last_value (items (known (column_of 0 rows))))) true null).0)
