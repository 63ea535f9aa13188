-- A call that counts or chooses is in range over fewer rows than a BIGINT counts, and its value has a short text where theirs are short.
use Rattle.std.proofs.Common.{◌≡◌, ℕ, ◌+◌, ◌^◌, ◌<◌, ◌≤◌, ◌==◌, Bool, true, false, cond, not, List, [], ◌∷◌, map, Option, Some, None, refl, sym, subst, arith}
use Rattle.std.specs.Prelude.{pos}
use Rattle.std.specs.List.{AllByRecursion, list_all}
use Rattle.std.proofs.lemmas.Bool.{and_parts}
use Rattle.ct_value.specs.Bag.{none, copies, items, weigh, total}
use Rattle.ct_value.proofs.laws.Bags.{total-add, total-none, total-le}
use Rattle.ct_value.specs.Order.{value_cmp, value_total, value_exact, row_total, row_exact}
use Rattle.ct_value.specs.declared.row.Row.{Row}
use Rattle.ct_value.specs.declared.ty.Ty.{Ty}
use Rattle.ct_value.specs.declared.ty.Ty.TheVariants.{BigInt}
use Rattle.ct_value.specs.declared.ty.ColTy.{ColTy}
use Rattle.ct_value.specs.declared.value.Value.{Value}
use Rattle.ct_value.specs.declared.value.Value.TheVariants.{Num}
use Rattle.ct_field.specs.Numbers.{in_range}
use Rattle.ct_field.specs.Typed.{is_null}
use Rattle.ct_change.specs.Changelog.{Rows}
use Rattle.rel_algebra.specs.declared.agg.Agg.{Agg}
use Rattle.rel_algebra.specs.declared.agg.AggCall.{AggCall}
use Rattle.rel_algebra.specs.declared.agg.AggCall.TheVariants.{CountAll, Count, CountDistinct, Sum, Min, Max, Avg}
use Rattle.rel_algebra.specs.Sums.{Each, gather, add_where, restrict, distinct}
use Rattle.rel_algebra.specs.Aggregates.{Values, size, known, first_value, last_value, count_value, agg_value, argument, passes, values_of, type_in, ty_or_bigint, agg_result, agg_results, sum_fits}
use Rattle.rel_algebra.proofs.laws.Averages.{within_pos}
use Rattle.rel_algebra.proofs.laws.Bags.{each-restrict, each-mapped, total-restrict, total-mapped}
use Rattle.range_rules.specs.Tame.{is_short, only_counts}
use Rattle.op_rules.proofs.laws.Histories.{all-each}
use Rattle.range_rules.specs.Ranges.{IsShortRow}
use Rattle.range_rules.proofs.laws.Expressions.{Gives, GivesRow, collected, cell_short}
use Rattle.range_rules.proofs.laws.Folds.{AreShort, restrict_short}

abbrev IsShortValue : Value → Type 0
IsShortValue value = is_short value ≡ true

-- ---- how many values

one_or_none : (b : Bool) → ◌≤◌ (cond b 1 0) 1
one_or_none true = omega arith
one_or_none false = omega arith

-- those that aren't NULL
pub known_few : (values : Values) → size (known values) ≤ size values
known_few values =
    let e : size (known values) ≡ total (λ value. cond (not (is_null value)) 1 0) values = total-restrict value_total value_exact (λ _. 1) (λ value. not (is_null value)) values in
    let l = total-le (λ value. cond (not (is_null value)) 1 0) (λ value. one_or_none (not (is_null value))) values in
    omega arith

where_few : (b : Bool) (value : Value) (values : Values) (n : ℕ) → size values ≤ n → size (add_where b value values) ≤ 1 + n
where_few true value values n h = let e = total-add value_total (λ _. 1) values value in omega arith
where_few false value values n h = omega arith

-- each once
distinct_few : (values : Values) → size (distinct values) ≤ size values
unfolding distinct
distinct_few values = go (items values)
  where
    go : (xs : List Value) → size (gather (λ x c. add_where (copies c x == 0) x c) (none {R = value_cmp}) xs) ≤ weigh (λ _. 1) xs
    go [] = let e = total-none {R = value_cmp} value_total (λ _. 1) in omega arith
    go (x ∷ xs) =
        let others = gather (λ x c. add_where (copies c x == 0) x c) (none {R = value_cmp}) xs in
        where_few (copies others x == 0) x others (weigh (λ _. 1) xs) (go xs)

-- ---- results

count_gives : (n : ℕ) → n < 9223372036854775808 → Gives (count_value n)
count_gives n h =
    let range : in_range BigInt (pos n) ≡ true = within_pos (2 ^ 63) n (omega arith) in
    subst (λ b. Gives (cond b (Some (Num (pos n))) None)) (sym range) refl

pub first_short : (xs : List Value) → AllByRecursion IsShortValue xs → is_short (first_value xs) ≡ true
first_short [] h = refl
first_short (x ∷ xs) h = h.0

pub last_short : (xs : List Value) → AllByRecursion IsShortValue xs → is_short (last_value xs) ≡ true
last_short [] h = refl
last_short (x ∷ []) h = h.0
last_short (x ∷ y ∷ xs) h = last_short (y ∷ xs) h.1

pub known_short : (values : Values) → Each IsShortValue values → Each IsShortValue (known values)
known_short values h =
    all-each (λ value. IsShortValue value × (not (is_null value) ≡ true)) IsShortValue (λ value k. k.0) (items (known values))
    (each-restrict value_total value_exact IsShortValue (λ value. not (is_null value)) values h)

call_gives : (call : AggCall) (ty : Ty) (values : Values) → only_counts call ≡ true → Each IsShortValue values → size values < 9223372036854775808 → Gives (agg_value call ty values)
call_gives CountAll ty values t h few = count_gives (size values) few
call_gives Count ty values t h few = count_gives (size (known values)) (let k = known_few values in omega arith)
call_gives CountDistinct ty values t h few = count_gives (size (distinct (known values))) (let k = known_few values in let d = distinct_few (known values) in omega arith)
call_gives Sum ty values t h few = absurd (cc)
call_gives Min ty values t h few = first_short (items (known values)) (known_short values h)
call_gives Max ty values t h few = last_short (items (known values)) (known_short values h)
call_gives Avg ty values t h few = absurd (cc)

-- ---- over the rows of a group

argument_short : (arg : Option ℕ) (row : Row) → IsShortRow row → is_short (argument arg row) ≡ true
argument_short None row short = refl
argument_short (Some column) row short = cell_short row column short

pub values_short : (n : ℕ) (agg : Agg) (rows : Rows) → AreShort n rows → Each IsShortValue (values_of agg rows) × (size (values_of agg rows) ≤ n)
values_short n agg rows h =
    let k = restrict_short n (passes agg.filter) rows h in
    let e : size (values_of agg rows) ≡ total (λ _. 1) (restrict (passes agg.filter) rows) = total-mapped value_total value_exact row_total row_exact (λ _. 1) (argument agg.arg) (restrict (passes agg.filter) rows) in (
      each-mapped value_total value_exact row_total row_exact IsShortRow IsShortValue (argument agg.arg) (argument_short agg.arg) (restrict (passes agg.filter) rows) k.each,
      (let f = k.few in omega arith),
    )

module _ (columns : List ColTy) (n : ℕ) (few : n < 9223372036854775808) (rows : Rows) (short : AreShort n rows) where
  calls_give : (aggs : List Agg) → list_all (λ agg. only_counts agg.call) aggs ≡ true → AllByRecursion Gives (map (agg_result columns rows) aggs)
  calls_give [] t = tt
  calls_give (agg ∷ aggs) t =
      let p = and_parts _ _ t in
      let v = values_short n agg rows short in
      let l = v.1 in
      (call_gives agg.call (ty_or_bigint (type_in columns agg.arg)) (values_of agg rows) p.0 v.0 (omega arith), calls_give aggs p.1)

  -- the results of calls that count or choose
  pub results_give : (aggs : List Agg) → list_all (λ agg. only_counts agg.call) aggs ≡ true → GivesRow (agg_results columns aggs rows)
  results_give aggs t = collected (map (agg_result columns rows) aggs) (calls_give aggs t)

-- no sum is kept
pub fits_always : (call : AggCall) (ty : Ty) (values : Values) → only_counts call ≡ true → sum_fits call ty values ≡ true
fits_always CountAll ty values t = refl
fits_always Count ty values t = refl
fits_always CountDistinct ty values t = refl
fits_always Sum ty values t = absurd (cc)
fits_always Min ty values t = refl
fits_always Max ty values t = refl
fits_always Avg ty values t = absurd (cc)
