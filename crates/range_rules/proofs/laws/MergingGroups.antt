-- A group that merges partial rows, whose calls count or choose, stays in range where all that these sum up can be counted by a BIGINT.
use Rattle.std.proofs.Common.{◌≡◌, ℕ, zero, suc, ◌+◌, ◌*◌, ◌^◌, ◌<◌, ◌≤◌, ◌==◌, true, false, cond, ◌&&◌, List, [], ◌∷◌, ◌++◌, length, map, take, drop, Some, None, refl, sym, subst, arith}
use Rattle.std.specs.Prelude.{ℤ, pos, neg_ℤ, ◌+ℤ◌, ◌≤ℤ◌, int_le, int_lt, unsigned_abs, option_map, is_some}
use Rattle.std.specs.List.{AllByRecursion, list_all}
use Rattle.std.proofs.Math.Nat.{mul-le-mul_right}
use Rattle.std.proofs.lemmas.Bool.{and_parts}
use Rattle.std.proofs.lemmas.Int.{ints}
use Rattle.std.proofs.lemmas.List.{length-append}
use Rattle.ct_value.specs.Bag.{items}
use Rattle.ct_value.specs.Order.{number_of, value_total, value_exact}
use Rattle.ct_value.specs.declared.row.Row.{Row}
use Rattle.ct_value.specs.declared.ty.Ty.{Ty}
use Rattle.ct_value.specs.declared.ty.Ty.TheVariants.{BigInt}
use Rattle.ct_value.specs.declared.ty.ColTy.{ColTy}
use Rattle.ct_value.specs.declared.value.Value.{Value}
use Rattle.ct_value.specs.declared.value.Value.TheVariants.{Num}
use Rattle.ct_field.specs.Numbers.{in_range}
use Rattle.ct_field.specs.Typed.{cell}
use Rattle.ct_change.specs.declared.change.Change.{Change}
use Rattle.ct_change.specs.Emission.{emission}
use Rattle.rel_algebra.specs.declared.agg.Agg.{Agg}
use Rattle.rel_algebra.specs.declared.agg.AggCall.{AggCall}
use Rattle.rel_algebra.specs.declared.agg.AggCall.TheVariants.{CountAll, Count, CountDistinct, Sum, Min, Max, Avg}
use Rattle.rel_algebra.specs.Aggregates.{known, in_type}
use Rattle.rel_algebra.specs.GroupedCounts.{in_group}
use Rattle.rel_algebra.specs.Sums.{Each}
use Rattle.rel_algebra.proofs.laws.Bags.{each-bag_of}
use Rattle.rel_algebra.proofs.laws.Results.{all-first_seen}
use Rattle.agg_fns.specs.Partial.{has_partial, column_of, partials_sum}
use Rattle.agg_fns.specs.PartialResults.{result_fits, result_of}
use Rattle.agg_fns.specs.Reading.{Part, parts_by, adds_to_sum, is_blank, all_blank, AllAddUp}
use Rattle.agg_fns.proofs.laws.Readings.{blank_adds}
use Rattle.op_rules.specs.History.{Arrival, at_port}
use Rattle.op_rules.proofs.laws.Histories.{all-append, all-each}
use Rattle.emission_rules.specs.Grouping.{groups_of}
use Rattle.phase_rules.specs.LocalGrouping.{SumsUp, members_of, parts, parts_of_calls}
use Rattle.phase_rules.specs.Merging.{Merging, amounts_in, argument_type, merge_answer, merge_rule, merged, results_from, row_from, sums_of_calls, sums_within, values_from, within_after}
use Rattle.phase_rules.proofs.laws.MergedSums.{merged_adds, merged_blank}
use Rattle.range_rules.specs.Tame.{is_short, only_counts}
use Rattle.range_rules.specs.Ranges.{IsShortRow, IsShort, IsAnswerOf, IsUpTo, AreUpTo, IsShortPart, ComesShort, MergingGroupsStayInRange}
use Rattle.range_rules.proofs.laws.Expressions.{Gives, GivesRow, collected, cell_short}
use Rattle.range_rules.proofs.laws.Counts.{first_short, last_short, known_short}
use Rattle.range_rules.proofs.laws.Answers.{IsShortIf, emission_short, at_port_all, at_port_few, both_short}
use Rattle.range_rules.proofs.laws.Groups.{answer_if, both_true, groups_all, keys_short, row_given, some_given}
use Rattle.range_rules.proofs.laws.LocalGroups.{are_up_to_more, nothing_added}

-- ---- sums

blank_up_to : (ps : List Part) (values : List Value) → all_blank ps values ≡ true → AreUpTo 0 ps values
blank_up_to [] values e = tt
blank_up_to (p ∷ ps) values e =
    let q = and_parts (is_blank p (cell 0 values)) (all_blank ps (drop 1 values)) e in
    (subst (λ z. IsUpTo 0 z) (sym (blank_adds p (cell 0 values) q.0).0) (nothing_added 0), blank_up_to ps (drop 1 values) q.1)

sum_up_to : (n m : ℕ) (x y z : ℤ) → (x +ℤ y) ≡ z → IsUpTo n x → IsUpTo m y → IsUpTo (n + m) z
sum_up_to n m x y z e h k =
    let a = h.low in
    let b = h.high in
    let c = k.low in
    let d = k.high in
    subst (λ w. IsUpTo (n + m) w) e (record { low = omega (arith, ints); high = omega (arith, ints) })

sums_up_to : (n m : ℕ) (ps : List Part) (xs ys zs : List Value) → AllAddUp ps xs ys zs → AreUpTo n ps xs → AreUpTo m ps ys → AreUpTo (n + m) ps zs
sums_up_to n m [] xs ys zs e h k = tt
sums_up_to n m (p ∷ ps) xs ys zs e h k =
    (sum_up_to n m (adds_to_sum p (cell 0 xs)) (adds_to_sum p (cell 0 ys)) (adds_to_sum p (cell 0 zs)) e.0.sums h.0 k.0, sums_up_to n m ps (drop 1 xs) (drop 1 ys) (drop 1 zs) e.1 h.1 k.1)

-- of rows each of which adds so much
all_up_to : (most : ℕ) (aggs : List Agg) (rows : List (List Value)) → AllByRecursion (λ row. AreUpTo most (parts aggs) row) rows → AreUpTo (length rows * most) (parts aggs) (merged aggs rows)
all_up_to most aggs [] h = are_up_to_more 0 (0 * most) (omega arith) (parts aggs) (merged aggs []) (blank_up_to (parts aggs) (merged aggs []) (merged_blank aggs))
all_up_to most aggs (row ∷ rows) h =
    are_up_to_more (most + length rows * most) (length (row ∷ rows) * most) (omega arith) (parts aggs) (merged aggs (row ∷ rows))
    (sums_up_to most (length rows * most) (parts aggs) row (merged aggs rows) (merged aggs (row ∷ rows)) (merged_adds aggs row rows) h.0 (all_up_to most aggs rows h.1))

-- ---- texts

abbrev IsShortValue : Value → Type 0
IsShortValue value = is_short value ≡ true

column_short : (n : ℕ) (rows : List (List Value)) → AllByRecursion IsShortRow rows → Each IsShortValue (column_of n rows)
column_short n rows h = each-bag_of value_total value_exact IsShortValue (map (λ row. cell n row) rows) (go rows h)
  where
    go : (others : List (List Value)) → AllByRecursion IsShortRow others → AllByRecursion IsShortValue (map (λ row. cell n row) others)
    go [] k = tt
    go (row ∷ others) k = (cell_short row n k.0, go others k.1)

sum_short : (call : AggCall) (rows : List (List Value)) → AllByRecursion IsShortRow rows → IsShortRow (partials_sum call rows)
sum_short CountAll rows h = (refl, tt)
sum_short Count rows h = (refl, tt)
sum_short CountDistinct rows h = tt
sum_short Sum rows h = (refl, (refl, tt))
sum_short Min rows h = (first_short (items (known (column_of 0 rows))) (known_short (column_of 0 rows) (column_short 0 rows h)), tt)
sum_short Max rows h = (last_short (items (known (column_of 0 rows))) (known_short (column_of 0 rows) (column_short 0 rows h)), tt)
sum_short Avg rows h = (refl, (refl, tt))

drop_short : (n : ℕ) (row : Row) → IsShortRow row → IsShortRow (drop n row)
drop_short n [] h = nothing n
  where
    nothing : (n : ℕ) → IsShortRow (drop n [])
    nothing zero = tt
    nothing (suc n) = tt
drop_short zero (value ∷ row) h = h
drop_short (suc n) (value ∷ row) h = drop_short n row h.1

all_dropped : (n : ℕ) (rows : List (List Value)) → AllByRecursion IsShortRow rows → AllByRecursion IsShortRow (map (λ row. drop n row) rows)
all_dropped n [] h = tt
all_dropped n (row ∷ rows) h = (drop_short n row h.0, all_dropped n rows h.1)

sums_short : (aggs : List Agg) (rows : List (List Value)) → AllByRecursion IsShortRow rows → IsShortRow (sums_of_calls aggs rows)
sums_short [] rows h = tt
sums_short (agg ∷ aggs) rows h =
    both_short (partials_sum agg.call rows) (sums_of_calls aggs (map (λ row. drop (length (parts_by agg.call)) row) rows)) (sum_short agg.call rows h)
    (sums_short aggs (map (λ row. drop (length (parts_by agg.call)) row) rows) (all_dropped (length (parts_by agg.call)) rows h))

merged_short : (aggs : List Agg) (rows : List (List Value)) → AllByRecursion IsShortRow rows → IsShortRow (merged aggs rows)
merged_short aggs rows h = (refl, sums_short aggs (map (λ row. drop 1 row) rows) (all_dropped 1 rows h))

-- ---- results

in_bigint : (most : ℕ) (z : ℤ) → most < 9223372036854775808 → IsUpTo most z → in_range BigInt z ≡ true
in_bigint most z few h =
    let a = h.low in
    let b = h.high in
    both_true (int_le (neg_ℤ (pos (2 ^ 63))) z) (int_lt z (pos (2 ^ 63))) (le_test (neg_ℤ (pos (2 ^ 63))) z (omega (arith, ints))) (lt_test z (pos (2 ^ 63)) (omega (arith, ints)))
  where
    le_test : (x y : ℤ) → x ≤ℤ y → int_le x y ≡ true
    le_test x y l = grind (arith, ints)

    lt_test : (x y : ℤ) → (x +ℤ pos 1) ≤ℤ y → int_lt x y ≡ true
    lt_test x y l = grind (arith, ints)

count_given : (most : ℕ) (z : ℤ) → most < 9223372036854775808 → IsUpTo most z → Gives (in_type BigInt z)
count_given most z few h = subst (λ b. Gives (cond b (Some (Num z)) None)) (sym (in_bigint most z few h)) refl

-- a call's value, and what stands behind its partial
one_given : (most : ℕ) → most < 9223372036854775808 → (call : AggCall) (ty : Ty) (values : List Value) (ps : List Part) → only_counts call ≡ true → has_partial call ≡ true → IsShortRow values → AreUpTo most (parts_by call ++ ps) values
    → Gives (result_of call ty values) × AreUpTo most ps (drop (length (parts_by call)) values)
one_given most few CountAll ty values ps t p s h = (count_given most (number_of (cell 0 values)) few h.0, h.1)
one_given most few Count ty values ps t p s h = (count_given most (number_of (cell 0 values)) few h.0, h.1)
one_given most few CountDistinct ty values ps t p s h = absurd (cc)
one_given most few Sum ty values ps t p s h = absurd (cc)
one_given most few Min ty values ps t p s h = (cell_short values 0 s, h.1)
one_given most few Max ty values ps t p s h = (cell_short values 0 s, h.1)
one_given most few Avg ty values ps t p s h = absurd (cc)

module _ (most : ℕ) (few : most < 9223372036854775808) (columns : List ColTy) where
  values_given : (aggs : List Agg) (values : List Value) → list_all (λ agg. only_counts agg.call) aggs ≡ true → AllByRecursion (λ agg. has_partial agg.call ≡ true) aggs → IsShortRow values → AreUpTo most (parts_of_calls aggs) values
      → AllByRecursion Gives (values_from columns aggs values)
  values_given [] values t p s h = tt
  values_given (agg ∷ aggs) values t p s h =
      let q = and_parts _ _ t in
      let one = one_given most few agg.call (argument_type columns agg) values (parts_of_calls aggs) q.0 p.0 s h in
      (one.0, values_given aggs (drop (length (parts_by agg.call)) values) q.1 p.1 (drop_short (length (parts_by agg.call)) values s) one.1)

  results_given : (aggs : List Agg) (values : List Value) → list_all (λ agg. only_counts agg.call) aggs ≡ true → AllByRecursion (λ agg. has_partial agg.call ≡ true) aggs → IsShortRow values → AreUpTo most (parts aggs) values
      → GivesRow (results_from columns aggs values)
  results_given aggs values t p s h = collected (values_from columns aggs (drop 1 values)) (values_given aggs (drop 1 values) t p (drop_short 1 values s) h.1)

sums_fit : (columns : List ColTy) (aggs : List Agg) (values : List Value) → list_all (λ agg. only_counts agg.call) aggs ≡ true → sums_within columns aggs values ≡ true
sums_fit columns [] values t = refl
sums_fit columns (agg ∷ aggs) values t =
    let q = and_parts _ _ t in
    both_true (result_fits agg.call (argument_type columns agg) values) _ (one agg.call q.0) (sums_fit columns aggs (drop (length (parts_by agg.call)) values) q.1)
  where
    one : (call : AggCall) → only_counts call ≡ true → result_fits call (argument_type columns agg) values ≡ true
    one CountAll c = refl
    one Count c = refl
    one CountDistinct c = refl
    one Sum c = absurd (cc)
    one Min c = refl
    one Max c = refl
    one Avg c = absurd (cc)

-- ---- a group

module _ (m : Merging) (sums_up : SumsUp m.local) (tame : list_all (λ agg. only_counts agg.call) m.local.aggs ≡ true) (most limit : ℕ) (few : limit * most < 9223372036854775808) where
  within_always : (earlier rows : List (List Value)) → within_after m.local earlier rows ≡ true
  within_always earlier [] = refl
  within_always earlier (row ∷ rows) =
      both_true (sums_within m.local.columns m.local.aggs (drop 1 (merged m.local.aggs (earlier ++ row ∷ [])))) _
      (sums_fit m.local.columns m.local.aggs (drop 1 (merged m.local.aggs (earlier ++ row ∷ []))) tame) (within_always (earlier ++ row ∷ []) rows)

  -- what is behind a partial row's key
  abbrev IsPart : List Value → Type 0
  IsPart values = IsShortRow values × AreUpTo most (parts m.local.aggs) values

  -- of no more partial rows than the limit
  merged_given : (rows : List (List Value)) → AllByRecursion IsPart rows → length rows ≤ limit → GivesRow (results_from m.local.columns m.local.aggs (merged m.local.aggs rows))
  merged_given rows h l =
      let n = mul-le-mul_right most l in
      results_given (limit * most) few m.local.columns m.local.aggs (merged m.local.aggs rows) tame sums_up.have_partials
      (merged_short m.local.aggs rows (all-each IsPart IsShortRow (λ values p. p.0) rows h))
      (are_up_to_more (length rows * most) (limit * most) n (parts m.local.aggs) (merged m.local.aggs rows) (all_up_to most m.local.aggs rows (all-each IsPart (λ values. AreUpTo most (parts m.local.aggs) values) (λ values p. p.1) rows h)))

  row_short : (key : Row) → IsShortRow key → (rows : List (List Value)) → AllByRecursion IsPart rows → length rows ≤ limit → IsShortIf (row_from m.local key (merged m.local.aggs rows))
  row_short key named rows h l =
      elim (unsigned_abs (number_of (cell 0 (merged m.local.aggs rows))) == 0) as (λ b. IsShortIf (cond b None (option_map (λ values. key ++ values) (results_from m.local.columns m.local.aggs (merged m.local.aggs rows))))) [
        | true ↦ tt
        | false ↦ row_given key named (results_from m.local.columns m.local.aggs (merged m.local.aggs rows)) (merged_given rows h l)
      ]

  group_short : (key : Row) → IsShortRow key → (earlier rows : List (List Value)) → AllByRecursion IsPart earlier → AllByRecursion IsPart rows → length earlier + length rows ≤ limit → IsAnswerOf IsShort (merge_answer m key earlier rows)
  group_short key named earlier rows h k l =
      let all : AllByRecursion IsPart (earlier ++ rows) = all-append IsPart earlier rows h k in
      let many = length-append earlier rows in
      answer_if IsShort (within_after m.local earlier rows && is_some (results_from m.local.columns m.local.aggs (merged m.local.aggs (earlier ++ rows))))
      (emission m.output (row_from m.local key (merged m.local.aggs earlier)) (row_from m.local key (merged m.local.aggs (earlier ++ rows)))) key
      (both_true (within_after m.local earlier rows) _ (within_always earlier rows) (some_given _ (merged_given (earlier ++ rows) all (omega (arith, many, l)))))
      (emission_short m.output (row_from m.local key (merged m.local.aggs earlier)) (row_from m.local key (merged m.local.aggs (earlier ++ rows)))
      (row_short key named earlier h (omega (arith, l))) (row_short key named (earlier ++ rows) all (omega (arith, many, l))))

  -- ---- a piece

  abbrev Comes : Arrival → Type 0
  Comes = ComesShort most (Some m.local) (merge_rule m)

  parts_at : (arrivals : List Arrival) → AllByRecursion Comes arrivals → AllByRecursion (IsShortPart most m.local) (at_port 0 arrivals)
  parts_at arrivals h = at_port_all (IsShortPart most m.local) 0 arrivals (all-each Comes (λ a. a.port ≡ 0 → IsShortPart most m.local a.change) (λ a c. c.sent) arrivals h)

  amounts_of : (key : Row) (changes : List Change) → AllByRecursion (IsShortPart most m.local) changes → AllByRecursion IsPart (amounts_in m.local.keys key changes) × (length (amounts_in m.local.keys key changes) ≤ length changes)
  amounts_of key [] h = (tt, omega arith)
  amounts_of key (x ∷ xs) h =
      let others = amounts_of key xs h.1 in
      let l = others.1 in
      elim (in_group m.local.keys key x.row) as (λ b.
      let kept = map (λ (change : Change). drop m.local.keys change.row) (cond b (x ∷ members_of m.local.keys key xs) (members_of m.local.keys key xs)) in
      AllByRecursion IsPart kept × (length kept ≤ length (x ∷ xs))) [
        | true ↦ (((drop_short m.local.keys x.row h.0.short, h.0.adds), others.0), omega (arith, l))
        | false ↦ (others.0, omega (arith, l))
      ]

  piece_short : (before piece : List Arrival) → AllByRecursion Comes before → AllByRecursion Comes piece → length before + length piece ≤ limit → IsAnswerOf IsShort ((merge_rule m).emits before piece)
  piece_short before piece h k within =
      let came = parts_at piece k in
      let old = parts_at before h in
      let a = at_port_few 0 before in
      let b = at_port_few 0 piece in
      groups_all IsShort (λ key. merge_answer m key (amounts_in m.local.keys key (at_port 0 before)) (amounts_in m.local.keys key (at_port 0 piece))) IsShortRow
      (λ key named.
      let earlier = amounts_of key (at_port 0 before) old in
      let rows = amounts_of key (at_port 0 piece) came in
      let c = earlier.1 in
      let d = rows.1 in
      group_short key named (amounts_in m.local.keys key (at_port 0 before)) (amounts_in m.local.keys key (at_port 0 piece)) earlier.0 rows.0 (omega (arith, a, b, c, d, within)))
      (groups_of m.local.keys (at_port 0 piece))
      (all-first_seen IsShortRow (map (λ change. take m.local.keys change.row) (at_port 0 piece))
      (keys_short m.local.keys (at_port 0 piece) (all-each (IsShortPart most m.local) IsShort (λ change p. p.short) (at_port 0 piece) came)))

pub merging_groups_stay : MergingGroupsStayInRange
merging_groups_stay m sums_up tame most limit few = record {
  opens = λ subtask. tt;
  answers = λ before piece h k l within. piece_short m sums_up tame most limit few before piece h k within;
}
