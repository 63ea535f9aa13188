-- The rows of each clause have the clause's columns.
use Rattle.std.proofs.Common.{◌≡◌, ℕ, zero, suc, ◌+◌, ◌<◌, ◌==◌, ◌^◌, Bool, true, false, cond, List, [], ◌∷◌, ◌++◌, map, length, take, Option, Some, None, refl, sym, ◌∙◌, subst, arith}
use Rattle.std.specs.Prelude.{pos, nat_le, option_map}
use Rattle.std.specs.List.{AllByRecursion}
use Rattle.std.specs.Cmp.{Equal-is}
use Rattle.std.proofs.lemmas.Bool.{eqb-true}
use Rattle.ct_value.specs.Bag.{items, none, total}
use Rattle.ct_value.specs.Order.{row_cmp, row_total, row_exact}
use Rattle.ct_value.specs.Rows.{project}
use Rattle.ct_value.specs.declared.row.Row.{Row}
use Rattle.ct_value.specs.declared.ty.Ty.TheVariants.{BigInt}
use Rattle.ct_value.specs.declared.ty.ColTy.{ColTy}
use Rattle.ct_value.specs.declared.value.Value.{Value}
use Rattle.ct_value.specs.declared.value.Value.TheVariants.{Num}
use Rattle.ct_change.specs.Changelog.{Rows, same_row}
use Rattle.ct_field.specs.Numbers.{in_range}
use Rattle.ct_field.specs.Typed.{col_fits}
use Rattle.rel_algebra.specs.declared.agg.Agg.{Agg}
use Rattle.rel_algebra.specs.declared.join.JoinKind.{JoinKind}
use Rattle.rel_algebra.specs.declared.sort.SortCol.{SortCol}
use Rattle.rel_algebra.specs.Sums.{one, Each}
use Rattle.rel_algebra.specs.Aggregates.{agg_results, agg_types}
use Rattle.rel_algebra.specs.Clauses.{Meaning, MeanTypes, Fits, row_of, filter_rows, holds, project_rows}
use Rattle.rel_algebra.specs.Groups.{group_rows, group_columns}
use Rattle.rel_algebra.specs.Joins.{Matching, nulls, nullable_if, keeps_left, keeps_right, join_rows, join_columns, semi_join}
use Rattle.rel_algebra.specs.Ranks.{in_rank_order, ranked_from, shown, first_rows, rank_rows, rank_column, rank_columns}
use Rattle.rel_algebra.proofs.laws.Ranks.{rank_total, rank_exact}
use Rattle.rel_algebra.proofs.laws.Averages.{within_pos}
use Rattle.rel_algebra.proofs.laws.Bags.{each-none, each-add, each-bag_of, each-copies, some_weighs}
use Rattle.rel_algebra.proofs.laws.Clauses.{each-rows_where, each-project_rows}
use Rattle.rel_algebra.proofs.laws.Fits.{both, fits-append, fits-take, fits-map-nullable_if, fits-nulls}
use Rattle.rel_algebra.proofs.laws.Groups.{group_row}
use Rattle.rel_algebra.proofs.laws.Joins.{each-join_rows, each-semi_join}
use Rattle.rel_algebra.proofs.laws.Keys.{each-by_key}
use Rattle.rel_algebra.proofs.laws.ResultTypes.{agg_results_fit, collect_before, collected}

-- ---- Filter and Project

pub filter_fits : (columns : List ColTy) (condition : Meaning) (rows answer : Rows) → Each (Fits columns) rows → filter_rows condition rows ≡ Some answer → Each (Fits columns) answer
filter_fits columns condition rows answer h e = each-rows_where (Fits columns) (holds condition) rows answer h e

collect_fits : (columns : List ColTy) (meanings : List Meaning) (made : List ColTy) (row values : Row) → MeanTypes columns meanings made → Fits columns row → row_of meanings row ≡ Some values → Fits made values
collect_fits columns [] [] row values m h e = let i : [] ≡ values = cc in subst (λ v. Fits [] v) i refl
collect_fits columns [] (column ∷ made) row values m h e = absurd m
collect_fits columns (meaning ∷ meanings) [] row values m h e = absurd m
collect_fits columns (meaning ∷ meanings) (column ∷ made) row values m h e =
    go (λ rest i. collect_fits columns meanings made row rest m.1 h i) (meaning row) refl (row_of meanings row) refl (collected (meaning row) (map (λ f. f row) meanings) ∙ e)
  where
    go : ((rest : Row) → row_of meanings row ≡ Some rest → Fits made rest) → (v : Option Value) → meaning row ≡ v → (vs : Option Row) → row_of meanings row ≡ vs → collect_before v vs ≡ Some values → Fits (column ∷ made) values
    go ih None i vs j k = absurd (cc)
    go ih (Some value) i None j k = absurd (cc)
    go ih (Some value) i (Some rest) j k = let l : value ∷ rest ≡ values = cc in subst (λ v. Fits (column ∷ made) v) l (both (col_fits column value) _ (m.0 row value h i) (ih rest j))

pub project_fits : (columns : List ColTy) (meanings : List Meaning) (made : List ColTy) (rows answer : Rows) → MeanTypes columns meanings made → Each (Fits columns) rows → project_rows meanings rows ≡ Some answer → Each (Fits made) answer
project_fits columns meanings made rows answer m h e = each-project_rows (Fits columns) (Fits made) meanings (λ row values k i. collect_fits columns meanings made row values m k i) rows answer h e

-- ---- joins

pub join_fits : (kind : JoinKind) (left_columns right_columns : List ColTy) (match : Matching) (left right answer : Rows) → Each (Fits left_columns) left → Each (Fits right_columns) right
    → join_rows kind (length left_columns) (length right_columns) match left right ≡ Some answer → Each (Fits (join_columns kind left_columns right_columns)) answer
join_fits kind left_columns right_columns match left right answer h k e =
    each-join_rows (Fits left_columns) (Fits right_columns) (Fits (join_columns kind left_columns right_columns)) kind (length left_columns) (length right_columns) match
    (λ row other p q. fits-append (map (nullable_if (keeps_right kind)) left_columns) (map (nullable_if (keeps_left kind)) right_columns) row other
    (fits-map-nullable_if (keeps_right kind) left_columns row p) (fits-map-nullable_if (keeps_left kind) right_columns other q))
    (λ row p outer. fits-append (map (nullable_if (keeps_right kind)) left_columns) (map (nullable_if (keeps_left kind)) right_columns) row (nulls (length right_columns))
    (fits-map-nullable_if (keeps_right kind) left_columns row p)
    (subst (λ b. Fits (map (nullable_if b) right_columns) (nulls (length right_columns))) (sym outer) (fits-nulls right_columns)))
    (λ other q outer. fits-append (map (nullable_if (keeps_right kind)) left_columns) (map (nullable_if (keeps_left kind)) right_columns) (nulls (length left_columns)) other
    (subst (λ b. Fits (map (nullable_if b) left_columns) (nulls (length left_columns))) (sym outer) (fits-nulls left_columns))
    (fits-map-nullable_if (keeps_left kind) right_columns other q))
    left right answer h k e

pub semi_fits : (anti : Bool) (columns : List ColTy) (match : Matching) (left right answer : Rows) → Each (Fits columns) left → semi_join anti match left right ≡ Some answer → Each (Fits columns) answer
semi_fits anti columns match left right answer h e = each-semi_join (Fits columns) anti match left right answer h e

-- ---- grouping

each_one : (P : Row → Type 0) (row : Row) → P row → Each {R = row_cmp} P (one row)
each_one P row p = each-add row_total row_exact P none row p (each-none row_total row_exact P)

-- of a key and results that have their columns
group_row_fits : (key_columns columns results : List ColTy) (global : Bool) (aggs : List Agg) (key : Row) (members c : Rows) → agg_types columns global aggs ≡ Some results → Fits key_columns key → Each (Fits columns) members
    → (global ≡ false → 0 < total (λ _. 1) members) → option_map (λ values. one {R = row_cmp} (key ++ values)) (agg_results columns aggs members) ≡ Some c → Each (Fits (key_columns ++ results)) c
group_row_fits key_columns columns results global aggs key members c t k h some e = go (agg_results columns aggs members) refl e
  where
    go : (v : Option Row) → agg_results columns aggs members ≡ v → option_map (λ values. one {R = row_cmp} (key ++ values)) v ≡ Some c → Each (Fits (key_columns ++ results)) c
    go None i j = absurd (cc)
    go (Some values) i j = let l : one (key ++ values) ≡ c = cc in
        subst (λ (r : Rows). Each (Fits (key_columns ++ results)) r) l
        (each_one (Fits (key_columns ++ results)) (key ++ values) (fits-append key_columns results key values k (agg_results_fit columns global aggs results members values t h some i)))

not_zero : (n : ℕ) → (suc n == 0) ≡ false
not_zero n = elim (suc n == 0) as (λ b. (suc n == 0) ≡ b → b ≡ false) [ true ↦ λ e. absurd (let z = eqb-true (suc n) 0 e in omega arith) | false ↦ λ e. refl ] refl

pub group_fits : (keys : ℕ) (columns made : List ColTy) (aggs : List Agg) (rows answer : Rows) → group_columns keys columns aggs ≡ Some made → Each (Fits columns) rows
    → group_rows keys (agg_results columns aggs) rows ≡ Some answer → Each (Fits made) answer
group_fits keys columns made aggs rows answer t h e = go (nat_le keys (length columns)) (agg_types columns (keys == 0) aggs) refl t
  where
    of_keys : (keys : ℕ) (results : List ColTy) → agg_types columns (keys == 0) aggs ≡ Some results → group_rows keys (agg_results columns aggs) rows ≡ Some answer → Each (Fits (take keys columns ++ results)) answer
    of_keys zero results i j = group_row_fits [] columns results true aggs [] rows answer i refl h (λ k. absurd (cc)) j
    of_keys (suc keys) results i j =
        each-by_key (take (suc keys)) (group_row (agg_results columns aggs)) (Fits columns) (Fits (take (suc keys) columns ++ results))
        (λ key members c k some l. group_row_fits (take (suc keys) columns) columns results (suc keys == 0) aggs key members c i (key_fits key members k some) (each_first key members k) (λ m. some) l)
        rows answer h j
      where
        each_first : (key : Row) (members : Rows) → Each (λ row. Fits columns row × (same_row key (take (suc keys) row) ≡ true)) members → Each (Fits columns) members
        each_first key members k = firsts (items members) k
          where
            firsts : (xs : List Row) → AllByRecursion (λ row. Fits columns row × (same_row key (take (suc keys) row) ≡ true)) xs → AllByRecursion (Fits columns) xs
            firsts [] k = tt
            firsts (x ∷ xs) k = (k.0.0, firsts xs k.1)

        key_fits : (key : Row) (members : Rows) → Each (λ row. Fits columns row × (same_row key (take (suc keys) row) ≡ true)) members → 0 < total (λ _. 1) members → Fits (take (suc keys) columns) key
        key_fits key members k some =
            let p = some_weighs row_total (λ _. 1) members some in
            let q = each-copies row_total row_exact (λ row. Fits columns row × (same_row key (take (suc keys) row) ≡ true)) members k p.0 p.1 in
            let i : key ≡ take (suc keys) p.0 = row_exact key (take (suc keys) p.0) ((Equal-is (row_cmp key (take (suc keys) p.0))).0 q.1) in
            subst (λ r. Fits (take (suc keys) columns) r) (sym i) (fits-take (suc keys) columns p.0 q.0)

    go : (b : Bool) (results : Option (List ColTy)) → agg_types columns (keys == 0) aggs ≡ results → cond b (option_map (λ others. take keys columns ++ others) results) None ≡ Some made → Each (Fits made) answer
    go false results i j = absurd (cc)
    go true None i j = absurd (cc)
    go true (Some results) i j = let k : take keys columns ++ results ≡ made = cc in subst (λ c. Each (Fits c) answer) k (of_keys keys results i e)

-- ---- Top-N

in_order_fits : (P : Row → Type 0) (sorts : List SortCol) (members : Rows) → Each P members → AllByRecursion P (in_rank_order sorts members)
in_order_fits P sorts members h = each-bag_of (rank_total sorts) (rank_exact sorts) P (items members) h

ranks_fit : (P : Row → Type 0) (start count : ℕ) (rows : List Row) → AllByRecursion P rows → AllByRecursion (λ entry. P entry.0 × (entry.1 < start + count)) (take count (ranked_from start rows))
ranks_fit P start zero rows h = tt
ranks_fit P start (suc count) [] h = tt
ranks_fit P start (suc count) (row ∷ rows) h = ((h.0, omega arith), later (take count (ranked_from (suc start) rows)) (ranks_fit P (suc start) count rows h.1))
  where
    later : (entries : List (Row × ℕ)) → AllByRecursion (λ entry. P entry.0 × (entry.1 < suc start + count)) entries → AllByRecursion (λ entry. P entry.0 × (entry.1 < start + suc count)) entries
    later [] k = tt
    later (entry ∷ entries) k = ((k.0.0, let l : entry.1 < suc start + count = k.0.1 in omega arith), later entries k.1)

pub rank_fits : (columns : List ColTy) (partition : List ℕ) (sorts : List SortCol) (bound : ℕ) (ranked : Bool) (rows answer : Rows) → bound < 2 ^ 63 → Each (Fits columns) rows
    → rank_rows partition sorts bound ranked rows ≡ Some answer → Each (Fits (rank_columns ranked columns)) answer
rank_fits columns partition sorts bound ranked rows answer few h e =
    each-by_key (project partition) (λ key members. Some (first_rows sorts bound ranked members)) (Fits columns) (Fits (rank_columns ranked columns))
    (λ key members c k some i. let j : first_rows sorts bound ranked members ≡ c = cc in subst (λ (r : Rows). Each (Fits (rank_columns ranked columns)) r) j (firsts_fit members (each_first key (items members) k)))
    rows answer h e
  where
    each_first : (key : Row) (xs : List Row) → AllByRecursion (λ row. Fits columns row × (same_row key (project partition row) ≡ true)) xs → AllByRecursion (Fits columns) xs
    each_first key [] k = tt
    each_first key (x ∷ xs) k = (k.0.0, each_first key xs k.1)

    shown_fits : (ranked : Bool) (entry : Row × ℕ) → Fits columns entry.0 → entry.1 < 1 + bound → Fits (rank_columns ranked columns) (shown ranked entry)
    shown_fits false entry p l = p
    shown_fits true entry p l = fits-append columns (rank_column ∷ []) entry.0 (Num (pos entry.1) ∷ []) p
        (both (col_fits rank_column (Num (pos entry.1))) true (both (in_range BigInt (pos entry.1)) true (within_pos (2 ^ 63) entry.1 (omega arith)) refl) refl)

    all_shown : (entries : List (Row × ℕ)) → AllByRecursion (λ entry. Fits columns entry.0 × (entry.1 < 1 + bound)) entries → AllByRecursion (Fits (rank_columns ranked columns)) (map (shown ranked) entries)
    all_shown [] k = tt
    all_shown (entry ∷ entries) k = (shown_fits ranked entry k.0.0 k.0.1, all_shown entries k.1)

    firsts_fit : (members : Rows) → Each (Fits columns) members → Each (Fits (rank_columns ranked columns)) (first_rows sorts bound ranked members)
    firsts_fit members k = each-bag_of row_total row_exact (Fits (rank_columns ranked columns)) (map (shown ranked) (take bound (ranked_from 1 (in_rank_order sorts members))))
        (all_shown (take bound (ranked_from 1 (in_rank_order sorts members))) (ranks_fit (Fits columns) 1 bound (in_rank_order sorts members) (in_order_fits (Fits columns) sorts members k)))
