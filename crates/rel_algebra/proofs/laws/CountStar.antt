-- The counts of groups are the clause of grouping with the one call `COUNT(*)`.
use Rattle.std.proofs.Common.{◌≡◌, ℕ, suc, ◌+◌, ◌==◌, Bool, true, false, cond, ◌&&◌, ◌||◌, List, [], ◌∷◌, ◌++◌, map, take, Option, Some, None, refl, sym, ap, ◌∙◌, arith}
use Rattle.std.specs.Prelude.{pos, option_map}
use Rattle.std.specs.List.{list_any, list_all}
use Rattle.std.proofs.lemmas.Bool.{eqb-true}
use Rattle.ct_value.specs.Bag.{add, items, weigh, bag_of, one_at}
use Rattle.ct_value.proofs.laws.Bags.{copies-bag_of, copies-occurs, same_bag, one_at_itself}
use Rattle.ct_value.specs.Order.{row_cmp, row_total, row_exact, value_total, value_exact}
use Rattle.ct_value.specs.declared.row.Row.{Row}
use Rattle.ct_value.specs.declared.ty.Ty.TheVariants.{BigInt}
use Rattle.ct_value.specs.declared.ty.ColTy.{ColTy}
use Rattle.ct_value.specs.declared.value.Value.TheVariants.{Num}
use Rattle.ct_change.specs.Changelog.{Rows, same_row}
use Rattle.ct_field.specs.Numbers.{in_range}
use Rattle.rel_algebra.specs.Sums.{gather, one, plus, mapped, restrict, sum_over}
use Rattle.rel_algebra.specs.Aggregates.{agg_results, count_value, values_of, size, argument, passes}
use Rattle.rel_algebra.specs.Clauses.{collect}
use Rattle.rel_algebra.specs.Groups.{group_rows}
use Rattle.rel_algebra.specs.Keys.{rows_of_key, keys_in}
use Rattle.rel_algebra.proofs.laws.Bags.{sum_over-none, sum_over-add, plus-one, copies-distinct, total-mapped, total-restrict}
use Rattle.rel_algebra.specs.GroupedCounts.{group_size, counted, group_keys, is_countable, grouped_counts, count_all}
use Rattle.rel_algebra.proofs.laws.Results.{weigh-first_seen}

-- what is made of the items of a list, all together
abbrev listed : (Row → Option Rows) → List Row → Option Rows
listed make rows = gather (λ row sum. plus (make row) sum) (Some (bag_of [])) rows

sum_over-bag_of : (make : Row → Option Rows) (rows : List Row) → sum_over {R = row_cmp} make (bag_of rows) ≡ listed make rows
sum_over-bag_of make [] = sum_over-none row_total row_exact row_cmp make
sum_over-bag_of make (row ∷ rows) = sum_over-add row_total row_exact row_total row_exact make (bag_of rows) row ∙ ap (plus (make row)) (sum_over-bag_of make rows)

-- of rows each of which is made where a test holds, and is out of range elsewhere
listed-tested : (test : Row → Bool) (result : Row → Row) (rows : List Row)
    → listed (λ row. cond (test row) (Some (one (result row))) None) rows ≡ cond (list_all test rows) (Some (bag_of (map result rows))) None
listed-tested test result [] = refl
listed-tested test result (row ∷ rows) = ap (plus (cond (test row) (Some (one (result row))) None)) (listed-tested test result rows) ∙ step (test row) (list_all test rows)
  where
    step : (b c : Bool) → plus {R = row_cmp} (cond b (Some (one (result row))) None) (cond c (Some (bag_of (map result rows))) None) ≡ cond (b && c) (Some (add (bag_of (map result rows)) (result row))) None
    step true true = plus-one row_total row_exact (bag_of (map result rows)) (result row)
    step true false = refl
    step false c = refl

-- ---- the groups

some_test : (n : ℕ) → (1 + n == 0) ≡ false
some_test n = elim (1 + n == 0) as (λ b. (1 + n == 0) ≡ b → b ≡ false) [ true ↦ λ e. absurd (let z = eqb-true (1 + n) 0 e in omega arith) | false ↦ λ e. refl ] refl

there : (keys : ℕ) (key : Row) (rows : List Row) → ◌≡◌ {A = ℕ} (cond (weigh (λ row. one_at row_cmp key (take keys row)) rows == 0) 0 1) (cond (list_any (same_row key) (map (take keys) rows)) 1 0)
there keys key [] = refl
there keys key (row ∷ rows) =
    elim (same_row key (take keys row)) as (λ b. ◌≡◌ {A = ℕ} (cond (cond b 1 0 + weigh (λ row. one_at row_cmp key (take keys row)) rows == 0) 0 1) (cond (b || list_any (same_row key) (map (take keys) rows)) 1 0)) [
      | true ↦ ap (λ b. cond {A = ℕ} b 0 1) (some_test _)
      | false ↦ ap (λ n. cond {A = ℕ} (n == 0) 0 1) (let e : 0 + weigh (λ row. one_at row_cmp key (take keys row)) rows ≡ weigh (λ row. one_at row_cmp key (take keys row)) rows = omega arith in e) ∙ there keys key rows
    ]

elsewhere : (key other : Row) → same_row key other ≡ false → one_at row_cmp key other ≡ 0
elsewhere key other e = ap (λ b. cond b 1 0) e

keys_in-group_keys : (keys : ℕ) (rows : Rows) → keys_in (take keys) rows ≡ bag_of (group_keys keys rows)
keys_in-group_keys keys rows = same_bag row_total row_exact _ _ (λ key.
    copies-distinct row_total row_exact (mapped (take keys) rows) key
    ∙ ap (λ n. cond {A = ℕ} (n == 0) 0 1) (copies-occurs (mapped (take keys) rows) key ∙ total-mapped row_total row_exact row_total row_exact (one_at row_cmp key) (take keys) rows)
    ∙ there keys key (items rows)
    ∙ ap (λ n. cond (list_any (same_row key) (map (take keys) (items rows))) n 0) (sym (one_at_itself row_cmp row_total key))
    ∙ sym (copies-bag_of row_total (group_keys keys rows) key ∙ weigh-first_seen (one_at row_cmp key) key (elsewhere key) (map (take keys) (items rows))))

-- ---- a group's result

countable : (n : ℕ) → in_range BigInt (pos n) ≡ is_countable n
countable n = refl

size_of_group : (keys : ℕ) (rows : Rows) (key : Row) → size (values_of count_all (rows_of_key (take keys) key rows)) ≡ group_size keys rows key
size_of_group keys rows key =
    total-mapped value_total value_exact row_total row_exact (λ _. 1) (argument None) (restrict (passes None) (rows_of_key (take keys) key rows))
    ∙ total-restrict row_total row_exact (λ _. 1) (passes None) (rows_of_key (take keys) key rows)
    ∙ total-restrict row_total row_exact (λ _. 1) (λ row. same_row key (take keys row)) rows

group_of : (columns : List ColTy) (keys : ℕ) (rows : Rows) (key : Row)
    → option_map (λ values. one {R = row_cmp} (key ++ values)) (agg_results columns (count_all ∷ []) (rows_of_key (take keys) key rows))
    ≡ cond (is_countable (group_size keys rows key)) (Some (one (counted key (group_size keys rows key)))) None
group_of columns keys rows key =
    ap (λ n. option_map (λ values. one {R = row_cmp} (key ++ values)) (collect (count_value n ∷ []))) (size_of_group keys rows key)
    ∙ by_range (group_size keys rows key) (is_countable (group_size keys rows key)) refl
  where
    by_range : (n : ℕ) (b : Bool) → is_countable n ≡ b → option_map (λ values. one {R = row_cmp} (key ++ values)) (collect (cond b (Some (Num (pos n))) None ∷ [])) ≡ cond b (Some (one (counted key n))) None
    by_range n true e = refl
    by_range n false e = refl

-- grouping with `COUNT(*)` alone gives the counts
pub group_rows-count_all : (columns : List ColTy) (keys : ℕ) (rows : Rows) → group_rows (suc keys) (agg_results columns (count_all ∷ [])) rows ≡ grouped_counts (suc keys) rows
group_rows-count_all columns keys rows =
    ap (λ (make : Row → Option Rows). sum_over make (keys_in (take (suc keys)) rows)) (λ i key. group_of columns (suc keys) rows key i)
    ∙ ap (sum_over (λ key. cond (is_countable (group_size (suc keys) rows key)) (Some (one (counted key (group_size (suc keys) rows key)))) None)) (keys_in-group_keys (suc keys) rows)
    ∙ sum_over-bag_of (λ key. cond (is_countable (group_size (suc keys) rows key)) (Some (one (counted key (group_size (suc keys) rows key)))) None) (group_keys (suc keys) rows)
    ∙ listed-tested (λ key. is_countable (group_size (suc keys) rows key)) (λ key. counted key (group_size (suc keys) rows key)) (group_keys (suc keys) rows)
