-- Partial rows that stand for rows are summed up, group by group, to what these amount to, so to the group's row.
use Rattle.std.proofs.Common.{◌≡◌, ℕ, suc, ◌<◌, ◌≤◌, ◌==◌, Bool, true, false, cond, not, ◌||◌, List, [], ◌∷◌, ◌++◌, length, map, take, Option, None, refl, sym, ap, ◌∙◌, arith}
use Rattle.std.specs.Prelude.{pos, unsigned_abs, ◌&&◌, drop, filter, is_some, option_map, slice_get}
use Rattle.std.specs.List.{AllByRecursion}
use Rattle.std.specs.Cmp.{tied_itself}
use Rattle.std.specs.Ordering.{is_gt, ordering_reverse}
use Rattle.std.specs.declared.cmp.Ordering.TheVariants.{Less, Equal, Greater}
use Rattle.std.proofs.lemmas.Bool.{false≢true, ne_eqb}
use Rattle.std.proofs.lemmas.Int.{ints}
use Rattle.ct_value.specs.Bag.{items, none, bag_of}
use Rattle.ct_value.proofs.laws.Bags.{same_bag}
use Rattle.ct_value.specs.Order.{value_cmp, value_total, value_exact, row_total, row_exact, number_of}
use Rattle.ct_value.specs.Rows.{project}
use Rattle.ct_value.specs.declared.row.Row.{Row}
use Rattle.ct_value.specs.declared.ty.Ty.{Ty}
use Rattle.ct_value.specs.declared.ty.ColTy.{ColTy}
use Rattle.ct_value.specs.declared.value.Value.{Value}
use Rattle.ct_value.specs.declared.value.Value.TheVariants.{Num}
use Rattle.ct_field.specs.Typed.{cell, is_null}
use Rattle.ct_change.specs.declared.change.Change.{Change}
use Rattle.ct_change.specs.Changelog.{Rows}
use Rattle.rel_algebra.specs.declared.agg.Agg.{Agg}
use Rattle.rel_algebra.specs.declared.agg.AggCall.{AggCall}
use Rattle.rel_algebra.specs.declared.agg.AggCall.TheVariants.{CountAll, Count, CountDistinct, Sum, Min, Max, Avg}
use Rattle.rel_algebra.specs.Aggregates.{Values, values_of, agg_result}
use Rattle.rel_algebra.specs.Clauses.{collect}
use Rattle.rel_algebra.specs.GroupedCounts.{in_group, AreWide}
use Rattle.rel_algebra.proofs.laws.Bags.{copies-each}
use Rattle.agg_fns.specs.Partial.{has_partial, net, partial_of, partials_sum}
use Rattle.agg_fns.specs.PartialResults.{result_of}
use Rattle.agg_fns.specs.Reading.{Part, summed, lowest, highest, parts_by, adds_to_sum, reaches}
use Rattle.agg_fns.proofs.laws.PartialResults.{result_whole}
use Rattle.op_rules.specs.Partials.{Worth, plus, Partials, sum_of, worth_in, worth_of}
use Rattle.op_rules.proofs.laws.Worths.{copies-restricted}
use Rattle.column_sets.specs.Places.{first_columns}
use Rattle.emission_rules.specs.Grouping.{Grouping, members, row_count, results, row_of, group_row, is_counted}
use Rattle.emission_rules.proofs.laws.Columns.{project-first}
use Rattle.emission_rules.proofs.laws.Members.{copies-members}
use Rattle.phase_rules.specs.LocalGrouping.{LocalGrouping, amounts, partials_of_calls, parts, parts_of_calls, sum_at, reached_at, worth_of_values, partials_of}
use Rattle.phase_rules.specs.Merging.{Merging, in_one_phase, amounts_in, sums_of_calls, merged, argument_type, values_from, results_from, row_from}
use Rattle.phase_rules.proofs.laws.LocalSums.{agrees, all_come}
use Rattle.phase_rules.proofs.laws.LocalWorths.{values_nothing, no_rows, together_worth}
use Rattle.phase_rules.proofs.laws.MergedSums.{null_is, merged_worth}

-- ---- values of one part that are worth the same

neither_above : (x y : Value) → is_gt (value_cmp x y) ≡ false → is_gt (value_cmp y x) ≡ false → x ≡ y
neither_above x y p q = value_exact x y (
    elim (value_cmp x y) as (λ r. value_cmp y x ≡ ordering_reverse r → is_gt r ≡ false → r ≡ Equal) [
      | Less ↦ λ e g. absurd (let h : is_gt (value_cmp y x) ≡ true = ap is_gt e in cc)
      | Equal ↦ λ e g. refl
      | Greater ↦ λ e g. absurd (cc)
    ] (value_total.antisymm y x) p)

not_above : (x : Value) → is_gt (value_cmp x x) ≡ false
not_above x = ap is_gt (tied_itself value_total x)

was_not : (b : Bool) → not b ≡ true → b ≡ false
was_not true e = absurd (cc)
was_not false e = refl

-- the least or greatest values that reach the same limits are one
module _ (over : Value → Value → Bool) (itself : (v : Value) → over v v ≡ false) (exact : (x y : Value) → over x y ≡ false → over y x ≡ false → x ≡ y) where
  abbrev reach : Value → Value → Bool
  reach v limit = not (is_null v) && not (over v limit)

  own : (v : Value) → is_null v ≡ false → reach v v ≡ true
  own v e = ap (λ t. not t && not (over v v)) e ∙ ap not (itself v)

  under : (v limit : Value) → is_null v ≡ false → reach v limit ≡ true → over v limit ≡ false
  under v limit e r = was_not (over v limit) (sym (ap (λ t. not t && not (over v limit)) e) ∙ r)

  reaches_none : (v limit : Value) → is_null v ≡ true → reach v limit ≡ false
  reaches_none v limit e = ap (λ t. not t && not (over v limit)) e

  same_end : (x y : Value) → ((limit : Value) → reach x limit ≡ reach y limit) → x ≡ y
  same_end x y h = by (is_null x) (is_null y) refl refl
    where
      by : (a b : Bool) → is_null x ≡ a → is_null y ≡ b → x ≡ y
      by true true e f = null_is x e ∙ sym (null_is y f)
      by true false e f = absurd (false≢true (sym (reaches_none x y e) ∙ h y ∙ own y f))
      by false true e f = absurd (false≢true (sym (reaches_none y x f) ∙ sym (h x) ∙ own x e))
      by false false e f = exact x y (under x y e (h y ∙ own y f)) (under y x f (sym (h x) ∙ own x e))

-- where sums are read, numbers stand
abbrev IsNumbered : Part → Value → Type 0
IsNumbered summed value = Num (number_of value) ≡ value
IsNumbered lowest value = Unit {0}
IsNumbered highest value = Unit {0}

abbrev AreNumbered : List Part → List Value → Type 0
AreNumbered [] [] = Unit {0}
AreNumbered [] (x ∷ xs) = ⊥
AreNumbered (p ∷ ps) [] = ⊥
AreNumbered (p ∷ ps) (x ∷ xs) = IsNumbered p x × AreNumbered ps xs

same_part : (p : Part) (x y : Value) → IsNumbered p x → IsNumbered p y → adds_to_sum p x ≡ adds_to_sum p y → ((limit : Value) → reaches p x limit ≡ reaches p y limit) → x ≡ y
same_part summed x y a b sums reached = sym a ∙ ap Num sums ∙ b
same_part lowest x y a b sums reached = same_end (λ v limit. is_gt (value_cmp v limit)) not_above neither_above x y reached
same_part highest x y a b sums reached = same_end (λ v limit. is_gt (value_cmp limit v)) not_above (λ v w p q. neither_above v w q p) x y reached

same_values : (ps : List Part) (xs ys : List Value) → AreNumbered ps xs → AreNumbered ps ys → ((c : ℕ) → sum_at (slice_get ps c) (cell c xs) ≡ sum_at (slice_get ps c) (cell c ys))
    → ((c : ℕ) (limit : Value) → reached_at (slice_get ps c) (cell c xs) limit ≡ reached_at (slice_get ps c) (cell c ys) limit) → xs ≡ ys
same_values [] [] [] a b s r = refl
same_values [] [] (y ∷ ys) a b s r = absurd b
same_values [] (x ∷ xs) ys a b s r = absurd a
same_values (p ∷ ps) [] ys a b s r = absurd a
same_values (p ∷ ps) (x ∷ xs) [] a b s r = absurd b
same_values (p ∷ ps) (x ∷ xs) (y ∷ ys) a b s r = λ i. same_part p x y a.0 b.0 (s 0) (r 0) i ∷ same_values ps xs ys a.1 b.1 (λ c. s (suc c)) (λ c limit. r (suc c) limit) i

same_worths : (ps : List Part) (xs ys : List Value) → AreNumbered ps xs → AreNumbered ps ys → worth_of_values ps xs ≡ worth_of_values ps ys → xs ≡ ys
same_worths ps xs ys a b e = same_values ps xs ys a b (λ c. ap (λ (w : Worth). w.sums c) e) (λ c limit. ap (λ (w : Worth). w.reached c limit) e)

-- ---- partials and their sums have numbers

numbered-append : (ps qs : List Part) (xs ys : List Value) → AreNumbered ps xs → AreNumbered qs ys → AreNumbered (ps ++ qs) (xs ++ ys)
numbered-append [] qs [] ys a b = b
numbered-append [] qs (x ∷ xs) ys a b = absurd a
numbered-append (p ∷ ps) qs [] ys a b = absurd a
numbered-append (p ∷ ps) qs (x ∷ xs) ys a b = (a.0, numbered-append ps qs xs ys a.1 b)

numbered_partial : (call : AggCall) (come gone : Values) → AreNumbered (parts_by call) (partial_of call come gone)
numbered_partial CountAll come gone = (refl, tt)
numbered_partial Count come gone = (refl, tt)
numbered_partial CountDistinct come gone = tt
numbered_partial Sum come gone = (refl, (refl, tt))
numbered_partial Min come gone = (tt, tt)
numbered_partial Max come gone = (tt, tt)
numbered_partial Avg come gone = (refl, (refl, tt))

numbered_sum : (call : AggCall) (rows : List (List Value)) → AreNumbered (parts_by call) (partials_sum call rows)
numbered_sum CountAll rows = (refl, tt)
numbered_sum Count rows = (refl, tt)
numbered_sum CountDistinct rows = tt
numbered_sum Sum rows = (refl, (refl, tt))
numbered_sum Min rows = (tt, tt)
numbered_sum Max rows = (tt, tt)
numbered_sum Avg rows = (refl, (refl, tt))

numbered_calls : (aggs : List Agg) (come gone : Rows) → AreNumbered (parts_of_calls aggs) (partials_of_calls aggs come gone)
numbered_calls [] come gone = tt
numbered_calls (agg ∷ aggs) come gone = numbered-append (parts_by agg.call) (parts_of_calls aggs) _ _ (numbered_partial agg.call (values_of agg come) (values_of agg gone)) (numbered_calls aggs come gone)

numbered_sums : (aggs : List Agg) (rows : List (List Value)) → AreNumbered (parts_of_calls aggs) (sums_of_calls aggs rows)
numbered_sums [] rows = tt
numbered_sums (agg ∷ aggs) rows = numbered-append (parts_by agg.call) (parts_of_calls aggs) _ _ (numbered_sum agg.call rows) (numbered_sums aggs (map (λ row. drop (length (parts_by agg.call)) row) rows))

-- ---- results

result_front : (call : AggCall) (ty : Ty) (come gone : Values) (others : List Value) → result_of call ty (partial_of call come gone ++ others) ≡ result_of call ty (partial_of call come gone)
result_front CountAll ty come gone others = refl
result_front Count ty come gone others = refl
result_front CountDistinct ty come gone others = refl
result_front Sum ty come gone others = refl
result_front Min ty come gone others = refl
result_front Max ty come gone others = refl
result_front Avg ty come gone others = refl

result_rest : (call : AggCall) (come gone : Values) (others : List Value) → drop (length (parts_by call)) (partial_of call come gone ++ others) ≡ others
result_rest CountAll come gone others = refl
result_rest Count come gone others = refl
result_rest CountDistinct come gone others = refl
result_rest Sum come gone others = refl
result_rest Min come gone others = refl
result_rest Max come gone others = refl
result_rest Avg come gone others = refl

values_are : (columns : List ColTy) (aggs : List Agg) → AllByRecursion (λ agg. has_partial agg.call ≡ true) aggs → (rows : Rows) → values_from columns aggs (partials_of_calls aggs rows none) ≡ map (agg_result columns rows) aggs
values_are columns [] have rows = refl
values_are columns (agg ∷ aggs) have rows =
    let come = values_of agg rows in
    let gone = values_of agg none in
    let others = partials_of_calls aggs rows none in
    let ty = argument_type columns agg in
    let head : result_of agg.call ty (partial_of agg.call come gone ++ others) ≡ agg_result columns rows agg =
    result_front agg.call ty come gone others ∙ ap (λ n. result_of agg.call ty (partial_of agg.call come n)) (values_nothing agg) ∙ result_whole agg.call have.0 ty come in
    let tail : values_from columns aggs (drop (length (parts_by agg.call)) (partial_of agg.call come gone ++ others)) ≡ map (agg_result columns rows) aggs =
    ap (values_from columns aggs) (result_rest agg.call come gone others) ∙ values_are columns aggs have.1 rows in
    λ i. head i ∷ tail i

whole_count : (n z : ℕ) → z ≡ 0 → net n z ≡ pos n
whole_count n z e = omega (arith, ints)

-- ---- the rows of a group

whole_key : (key : Row) → take (length key) key ≡ key
whole_key [] = refl
whole_key (x ∷ key) = ap (λ r. x ∷ r) (whole_key key)

module _ (m : Merging) where
  abbrev l : LocalGrouping
  l = m.local

  abbrev g : Grouping
  g = in_one_phase m

  abbrev p : Partials
  p = partials_of m.local

  results_are : AllByRecursion (λ agg. has_partial agg.call ≡ true) l.aggs → (rows : Rows) → results_from l.columns l.aggs (amounts l.aggs rows none) ≡ results g rows
  results_are have rows = ap collect (values_are l.columns l.aggs have rows)

  count_is : (rows : Rows) → number_of (cell 0 (amounts l.aggs rows none)) ≡ pos (row_count rows)
  count_is rows = whole_count (row_count rows) (row_count none) no_rows

  row_is : AllByRecursion (λ agg. has_partial agg.call ≡ true) l.aggs → 0 < l.keys → (key : Row) (rows : Rows) → row_from l key (amounts l.aggs (members g key rows) none) ≡ group_row g rows key
  row_is have some key rows =
      let mine = members g key rows in
      let keyed : (l.keys == 0) ≡ false = ne_eqb l.keys 0 (λ e. omega (arith, some, e)) in
      (λ i. cond (unsigned_abs (count_is mine i) == 0) None (option_map (λ values. key ++ values) (results_are have mine i)))
      ∙ turned (row_count mine == 0) (row_of g key mine)
      ∙ sym (ap (λ b. cond (b || not (row_count mine == 0)) (row_of g key mine) None) keyed)
    where
      turned : (b : Bool) (o : Option Row) → cond b None o ≡ cond (not b) o None
      turned true o = refl
      turned false o = refl

  module _ (key : Row) (named : length key ≡ l.keys) where
    own_key : project (first_columns l.keys) key ≡ key
    own_key = project-first l.keys key (omega (arith, named)) ∙ ap (λ n. take n key) (sym named) ∙ whole_key key

    rows_worth : (rows : List Row) → AllByRecursion (λ row. l.keys ≤ length row) rows → worth_in p key rows ≡ together_worth l.aggs (filter (in_group l.keys key) rows)
    rows_worth [] wide = refl
    rows_worth (x ∷ xs) wide =
        let others = worth_in p key xs in
        let alone : Worth = p.alone x in
        ap (λ b. cond b (plus alone others) others) (agrees l key x wide.0 ∙ ap (λ r. in_group l.keys r x) own_key)
        ∙ elim (in_group l.keys key x) as (λ b. cond b (plus alone others) others ≡ together_worth l.aggs (cond b (x ∷ filter (in_group l.keys key) xs) (filter (in_group l.keys key) xs))) [
          | true ↦ ap (plus alone) (rows_worth xs wide.1)
          | false ↦ rows_worth xs wide.1
        ]

    members_are : (rows : Rows) → bag_of (filter (in_group l.keys key) (items rows)) ≡ members g key rows
    members_are rows = same_bag row_total row_exact _ _ (λ row. copies-restricted (in_group l.keys key) rows row ∙ sym (copies-members g key rows row))

    members_worth : (rows : Rows) → AreWide l.keys rows → worth_of p key rows ≡ worth_of_values (parts l.aggs) (amounts l.aggs (members g key rows) none)
    members_worth rows wide =
        rows_worth (items rows) (copies-each row_total row_exact (λ row. l.keys ≤ length row) rows wide)
        ∙ sym (all_come l key (filter (in_group l.keys key) (items rows)))
        ∙ ap (λ (b : Rows). worth_of_values (parts l.aggs) (amounts l.aggs b none)) (members_are rows)

    module _ (changes : List Change) (rows : Rows) (wide_changes : AllByRecursion (λ change. l.keys ≤ length change.row) changes) (wide : AreWide l.keys rows) (stands : sum_of p key changes ≡ worth_of p key rows) where
      merged_is : merged l.aggs (amounts_in l.keys key changes) ≡ amounts l.aggs (members g key rows) none
      merged_is =
          same_worths (parts l.aggs) (merged l.aggs (amounts_in l.keys key changes)) (amounts l.aggs (members g key rows) none)
          (refl, numbered_sums l.aggs (map (λ row. drop 1 row) (amounts_in l.keys key changes))) (refl, numbered_calls l.aggs (members g key rows) none)
          (ap (λ r. worth_of_values (parts l.aggs) (merged l.aggs (amounts_in l.keys r changes))) (sym own_key) ∙ sym (merged_worth l key changes wide_changes) ∙ stands ∙ members_worth rows wide)

      -- the group's row, whether all calls have results, and how many rows it has
      pub row_after : AllByRecursion (λ agg. has_partial agg.call ≡ true) l.aggs → 0 < l.keys → row_from l key (merged l.aggs (amounts_in l.keys key changes)) ≡ group_row g rows key
      row_after have some = ap (row_from l key) merged_is ∙ row_is have some key rows

      pub counted_after : AllByRecursion (λ agg. has_partial agg.call ≡ true) l.aggs → is_some (results_from l.columns l.aggs (merged l.aggs (amounts_in l.keys key changes))) ≡ is_counted g rows key
      counted_after have = ap (λ a. is_some (results_from l.columns l.aggs a)) merged_is ∙ ap is_some (results_are have (members g key rows))

      pub count_after : number_of (cell 0 (merged l.aggs (amounts_in l.keys key changes))) ≡ pos (row_count (members g key rows))
      count_after = ap (λ a. number_of (cell 0 a)) merged_is ∙ count_is (members g key rows)
