-- The sum of partial rows is worth what these are worth together.
use Rattle.std.proofs.Common.{◌≡◌, ℕ, zero, suc, ◌≤◌, Bool, true, false, cond, not, List, [], ◌∷◌, ◌++◌, length, refl, sym, ap, subst, ◌∙◌, arith}
use Rattle.std.specs.Prelude.{◌&&◌, drop, map}
use Rattle.std.specs.List.{AllByRecursion}
use Rattle.ct_value.specs.Bag.{items, none, add, put}
use Rattle.ct_value.proofs.laws.Bags.{items-none, items-add}
use Rattle.ct_value.specs.Order.{value_cmp, value_total, value_exact}
use Rattle.ct_value.specs.Rows.{project}
use Rattle.ct_value.specs.declared.row.Row.{Row}
use Rattle.ct_value.specs.declared.value.Value.{Value}
use Rattle.ct_value.specs.declared.value.Value.TheVariants.{Null, Bool as Truth, Num, Text}
use Rattle.ct_field.specs.Typed.{cell, is_null}
use Rattle.ct_change.specs.declared.change.Change.{Change}
use Rattle.rel_algebra.specs.declared.agg.Agg.{Agg}
use Rattle.rel_algebra.specs.declared.agg.AggCall.{AggCall}
use Rattle.rel_algebra.specs.declared.agg.AggCall.TheVariants.{CountAll, Count, CountDistinct, Sum, Min, Max, Avg}
use Rattle.rel_algebra.specs.Aggregates.{Values, known, sum_of, first_value, last_value}
use Rattle.rel_algebra.specs.GroupedCounts.{in_group}
use Rattle.rel_algebra.specs.Sums.{add_where}
use Rattle.rel_algebra.proofs.laws.Aggregates.{sum_of-none, sum_of-add}
use Rattle.rel_algebra.proofs.laws.Bags.{restrict-none, restrict-add}
use Rattle.agg_fns.specs.Partial.{column_of, partials_sum}
use Rattle.agg_fns.specs.Reading.{Part, summed, lowest, highest, parts_by, is_blank, all_blank, AddUp, AllAddUp}
use Rattle.agg_fns.proofs.laws.Readings.{partial_come, partial_blank}
use Rattle.op_rules.specs.Partials.{Worth, plus, sum_of as worth_together}
use Rattle.column_sets.specs.Places.{first_columns}
use Rattle.phase_rules.specs.LocalGrouping.{LocalGrouping, parts, parts_of_calls, worth_of_values, members_of, partials_of}
use Rattle.phase_rules.specs.Merging.{amounts_in, sums_of_calls, merged}
use Rattle.phase_rules.proofs.laws.LocalSums.{agrees}
use Rattle.phase_rules.proofs.laws.LocalWorths.{next, worth_adds, blank_worth, append_blank}

-- ---- a value alone

pub null_is : (value : Value) → is_null value ≡ true → value ≡ Null
null_is Null e = refl
null_is (Truth b) e = absurd (cc)
null_is (Num n) e = absurd (cc)
null_is (Text t) e = absurd (cc)

known_alone : (value : Value) → known (add none value) ≡ cond (is_null value) none (add none value)
known_alone value =
    restrict-add value_total value_exact (λ other. not (is_null other)) none value
    ∙ ap (λ (k : Values). add_where (not (is_null value)) value k) (restrict-none value_total value_exact (λ other. not (is_null other))) ∙ turned (is_null value)
  where
    turned : (b : Bool) → add_where {R = value_cmp} (not b) value none ≡ cond b none (add none value)
    turned true = refl
    turned false = refl

one_item : (value : Value) → items (add (none {R = value_cmp}) value) ≡ value ∷ []
one_item value = items-add value_total none value ∙ ap (put value_cmp value) (items-none value_cmp)

-- the end of a value alone is this value
end_alone : (end : List Value → Value) → end [] ≡ Null → (value : Value) → end (value ∷ []) ≡ value → end (items (known (add none value))) ≡ value
end_alone end empty value single =
    ap (λ (k : Values). end (items k)) (known_alone value)
    ∙ elim (is_null value) as (λ b. is_null value ≡ b → end (items (cond b (none {R = value_cmp}) (add none value))) ≡ value) [
      | true ↦ λ e. ap end (items-none value_cmp) ∙ empty ∙ sym (null_is value e)
      | false ↦ λ e. ap end (one_item value) ∙ single
    ] refl

first_alone : (value : Value) → first_value (items (known (add none value))) ≡ value
first_alone value = end_alone first_value refl value refl

last_alone : (value : Value) → last_value (items (known (add none value))) ≡ value
last_alone value = end_alone last_value refl value refl

-- ---- one call

-- a row adds its number to a column's sum
added : (n : ℕ) (row : List Value) (rows : List (List Value)) → AddUp summed (cell n row) (Num (sum_of (column_of n rows))) (Num (sum_of (column_of n (row ∷ rows))))
added n row rows = record { sums = sym (sum_of-add (column_of n rows) (cell n row)); reached = λ limit. refl }

both_added : (row : List Value) (rows : List (List Value)) → AllAddUp (summed ∷ summed ∷ []) row (Num (sum_of (column_of 0 rows)) ∷ Num (sum_of (column_of 1 rows)) ∷ []) (Num (sum_of (column_of 0 (row ∷ rows))) ∷ Num (sum_of (column_of 1 (row ∷ rows))) ∷ [])
both_added row rows = (added 0 row rows, (subst (λ v. AddUp summed v (Num (sum_of (column_of 1 rows))) (Num (sum_of (column_of 1 (row ∷ rows))))) (sym (next 0 row)) (added 1 row rows), tt))

one_merges : (call : AggCall) (row : List Value) (rows : List (List Value)) → AllAddUp (parts_by call) row (partials_sum call rows) (partials_sum call (row ∷ rows))
one_merges CountAll row rows = (added 0 row rows, tt)
one_merges Count row rows = (added 0 row rows, tt)
one_merges CountDistinct row rows = tt
one_merges Sum row rows = both_added row rows
one_merges Min row rows =
    let values = column_of 0 rows in
    let come = partial_come Min values none (cell 0 row) in
    (subst (λ v. AddUp lowest v (first_value (items (known values))) (first_value (items (known (add values (cell 0 row)))))) (first_alone (cell 0 row)) come.0, tt)
one_merges Max row rows =
    let values = column_of 0 rows in
    let come = partial_come Max values none (cell 0 row) in
    (subst (λ v. AddUp highest v (last_value (items (known values))) (last_value (items (known (add values (cell 0 row)))))) (last_alone (cell 0 row)) come.0, tt)
one_merges Avg row rows = both_added row rows

pub as_many_sums : (call : AggCall) (rows : List (List Value)) → length (parts_by call) ≡ length (partials_sum call rows)
as_many_sums CountAll rows = refl
as_many_sums Count rows = refl
as_many_sums CountDistinct rows = refl
as_many_sums Sum rows = refl
as_many_sums Min rows = refl
as_many_sums Max rows = refl
as_many_sums Avg rows = refl

zero_blank : is_blank summed (Num (sum_of none)) ≡ true
zero_blank = ap (λ n. is_blank summed (Num n)) sum_of-none

one_blank : (call : AggCall) → all_blank (parts_by call) (partials_sum call []) ≡ true
one_blank CountAll = ap (λ b. b && true) zero_blank
one_blank Count = ap (λ b. b && true) zero_blank
one_blank CountDistinct = refl
one_blank Sum = ap (λ b. b && (b && true)) zero_blank
one_blank Min = partial_blank Min
one_blank Max = partial_blank Max
one_blank Avg = ap (λ b. b && (b && true)) zero_blank

-- ---- all calls

dropped : (n : ℕ) (xs : List Value) → drop n (drop 1 xs) ≡ drop (suc n) xs
dropped zero [] = refl
dropped (suc n) [] = refl
dropped n (x ∷ xs) = refl

append_merges : (ps qs : List Part) (xs ys zs vs ws : List Value) → length ps ≡ length ys → length ps ≡ length zs
    → AllAddUp ps xs ys zs → AllAddUp qs (drop (length ps) xs) vs ws → AllAddUp (ps ++ qs) xs (ys ++ vs) (zs ++ ws)
append_merges [] qs xs [] [] vs ws m n h k = k
append_merges [] qs xs (y ∷ ys) zs vs ws m n h k = absurd (omega (arith, m))
append_merges [] qs xs [] (z ∷ zs) vs ws m n h k = absurd (omega (arith, n))
append_merges (p ∷ ps) qs xs [] zs vs ws m n h k = absurd (omega (arith, m))
append_merges (p ∷ ps) qs xs (y ∷ ys) [] vs ws m n h k = absurd (omega (arith, n))
append_merges (p ∷ ps) qs xs (y ∷ ys) (z ∷ zs) vs ws m n h k =
    (h.0, append_merges ps qs (drop 1 xs) ys zs vs ws (omega (arith, m)) (omega (arith, n)) h.1 (subst (λ l. AllAddUp qs l vs ws) (sym (dropped (length ps) xs)) k))

calls_merge : (aggs : List Agg) (row : List Value) (rows : List (List Value)) → AllAddUp (parts_of_calls aggs) row (sums_of_calls aggs rows) (sums_of_calls aggs (row ∷ rows))
calls_merge [] row rows = tt
calls_merge (agg ∷ aggs) row rows =
    append_merges (parts_by agg.call) (parts_of_calls aggs) row (partials_sum agg.call rows) (partials_sum agg.call (row ∷ rows)) _ _ (as_many_sums agg.call rows) (as_many_sums agg.call (row ∷ rows)) (one_merges agg.call row rows)
    (calls_merge aggs (drop (length (parts_by agg.call)) row) (map (λ other. drop (length (parts_by agg.call)) other) rows))

calls_blank : (aggs : List Agg) → all_blank (parts_of_calls aggs) (sums_of_calls aggs []) ≡ true
calls_blank [] = refl
calls_blank (agg ∷ aggs) = append_blank (parts_by agg.call) (parts_of_calls aggs) (partials_sum agg.call []) (sums_of_calls aggs []) (as_many_sums agg.call []) (one_blank agg.call) (calls_blank aggs)

-- one more partial row
pub merged_adds : (aggs : List Agg) (row : List Value) (rows : List (List Value)) → AllAddUp (parts aggs) row (merged aggs rows) (merged aggs (row ∷ rows))
merged_adds aggs row rows = (added 0 row rows, calls_merge aggs (drop 1 row) (map (λ other. drop 1 other) rows))

pub merged_blank : (aggs : List Agg) → all_blank (parts aggs) (merged aggs []) ≡ true
merged_blank aggs = ap (λ b. b && all_blank (parts_of_calls aggs) (sums_of_calls aggs [])) zero_blank ∙ calls_blank aggs

module _ (l : LocalGrouping) (g : Row) where
  abbrev k : Row
  k = project (first_columns l.keys) g

  -- changes of a group, whose rows hold the key's columns, are worth what their rows are summed up
  pub merged_worth : (changes : List Change) → AllByRecursion (λ change. l.keys ≤ length change.row) changes
      → worth_together (partials_of l) g changes ≡ worth_of_values (parts l.aggs) (merged l.aggs (amounts_in l.keys k changes))
  merged_worth [] wide = sym (blank_worth (parts l.aggs) (merged l.aggs []) (merged_blank l.aggs))
  merged_worth (x ∷ xs) wide =
      let others = worth_together (partials_of l) g xs in
      let own : Worth = worth_of_values (parts l.aggs) (drop l.keys x.row) in
      ap (λ b. cond b (plus own others) others) (agrees l g x.row wide.0)
      ∙ elim (in_group l.keys k x.row) as (λ b. cond b (plus own others) others ≡ worth_of_values (parts l.aggs) (merged l.aggs (map (λ change. drop l.keys change.row) (cond b (x ∷ members_of l.keys k xs) (members_of l.keys k xs))))) [
        | true ↦
            ap (plus own) (merged_worth xs wide.1)
            ∙ worth_adds (parts l.aggs) (drop l.keys x.row) (merged l.aggs (amounts_in l.keys k xs)) (merged l.aggs (drop l.keys x.row ∷ amounts_in l.keys k xs)) (merged_adds l.aggs (drop l.keys x.row) (amounts_in l.keys k xs))
        | false ↦ merged_worth xs wide.1
      ]
