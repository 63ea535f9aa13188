-- Which rows the batch answer has: those that are shown of the first rows of each partition.
use Rattle.std.proofs.Common.{◌≡◌, ℕ, zero, suc, pos, ◌+◌, ◌<◌, ◌==◌, Bool, true, false, cond, List, [], ◌∷◌, ◌++◌, length, map, take, Some, refl, sym, ap, subst, ◌∙◌, arith, slice_index_or}
use Rattle.std.specs.List.{AllByRecursion}
use Rattle.ct_value.specs.Bag.{none, copies, total, weigh, occurs, one_at}
use Rattle.ct_value.proofs.laws.Bags.{copies-none, copies-occurs, total-bag_of}
use Rattle.ct_value.specs.Order.{row_cmp, row_total, row_exact}
use Rattle.ct_value.specs.Rows.{project}
use Rattle.ct_value.specs.declared.row.Row.{Row}
use Rattle.ct_value.specs.declared.value.Value.TheVariants.{Null, Num}
use Rattle.ct_change.specs.Changelog.{Rows, same_row}
use Rattle.ct_change.proofs.laws.Meanings.{same_row-true, same_row-itself}
use Rattle.rel_algebra.specs.Keys.{rows_of_key, keys_in}
use Rattle.rel_algebra.specs.Ranks.{in_rank_order, ranked_from, shown, first_rows, rank_rows}
use Rattle.rel_algebra.specs.Sums.{mapped}
use Rattle.rel_algebra.proofs.laws.Bags.{copies-distinct, total-same, copies-each, total-sum_over}
use Rattle.rel_algebra.proofs.laws.Keys.{there_key, rows_of_key-none}
use Rattle.emission_rules.specs.Ranking.{Ranking, key_of, members, first}
use Rattle.emission_rules.proofs.laws.Lists.{at_occurs, of_occurs}
use Rattle.emission_rules.proofs.laws.Ranked.{all-first, occurs-ranked}
use Rattle.emission_rules.proofs.laws.TopStanding.{Standing}

none_above : (n : ℕ) → (0 < n → ⊥) → n ≡ 0
none_above zero h = refl
none_above (suc n) h = absurd (h (omega arith))

-- columns of a front are those of the front
pub project-front : (columns : List ℕ) (row more : Row) → AllByRecursion (λ column. column < length row) columns → project columns (row ++ more) ≡ project columns row
project-front [] row more h = refl
project-front (column ∷ columns) row more h = (λ i. index-front row more column h.0 i ∷ project-front columns row more h.1 i)
  where
    index-front : (row more : Row) (n : ℕ) → n < length row → slice_index_or (row ++ more) n Null ≡ slice_index_or row n Null
    index-front [] more n l = absurd (omega arith)
    index-front (x ∷ row) more zero l = refl
    index-front (x ∷ row) more (suc n) l = index-front row more n (omega arith)

-- the first ranks are those of the first rows
pub take-ranked : (n rank : ℕ) (rows : List Row) → take n (ranked_from rank rows) ≡ ranked_from rank (take n rows)
take-ranked zero rank rows = refl
take-ranked (suc n) rank [] = refl
take-ranked (suc n) rank (row ∷ rows) = ap (λ xs. (row, rank) ∷ xs) (take-ranked n (suc rank) rows)

-- ---- a sum in which one key alone weighs

module _ (key : Row) (n : ℕ) where
  abbrev weight_there : Row → ℕ
  weight_there other = cond (same_row key other) n 0

  nothing_there : (keys : List Row) → occurs row_cmp key keys ≡ 0 → weigh weight_there keys ≡ 0
  nothing_there [] e = refl
  nothing_there (other ∷ keys) e =
      elim (same_row key other) as (λ b. cond b 1 0 + occurs row_cmp key keys ≡ 0 → cond b n 0 + weigh weight_there keys ≡ 0) [
        | true ↦ λ f. absurd (omega arith)
        | false ↦ λ f. let rest = nothing_there keys (omega arith) in omega arith
      ] e

  once_there : (keys : List Row) → occurs row_cmp key keys ≡ 1 → weigh weight_there keys ≡ n
  once_there [] e = absurd (omega arith)
  once_there (other ∷ keys) e =
      elim (same_row key other) as (λ b. cond b 1 0 + occurs row_cmp key keys ≡ 1 → cond b n 0 + weigh weight_there keys ≡ n) [
        | true ↦ λ f. let rest = nothing_there keys (omega arith) in omega arith
        | false ↦ λ f. let rest = once_there keys (omega arith) in omega arith
      ] e

module _ (r : Ranking) where
  -- the row has the input's columns
  abbrev pub IsWide : Row → Type 0
  IsWide row = length row ≡ length r.columns

  -- rows with their ranks, from this one on, as they are shown
  abbrev pub shown_from : ℕ → List Row → List Row
  shown_from rank rows = map (shown r.ranked) (ranked_from rank rows)

  -- what is shown where these rows stand
  abbrev pub standing : Rows → Standing
  standing rows = λ row. occurs row_cmp row (shown_from 1 (first r (key_of r row) rows))

  module _ (within : AllByRecursion (λ column. column < length r.columns) r.partition) where
    pub key-shown : (row : Row) (rank : ℕ) → IsWide row → key_of r (shown r.ranked (row, rank)) ≡ key_of r row
    key-shown row rank wide =
        elim r.ranked as (λ b. key_of r (shown b (row, rank)) ≡ key_of r row) [
          | true ↦ project-front r.partition row (Num (pos rank) ∷ []) (subst (λ n. AllByRecursion (λ column. column < n) r.partition) (sym wide) within)
          | false ↦ refl
        ]

    pub keys-shown : (key : Row) (rank : ℕ) (rows : List Row) → AllByRecursion (λ row. (key ≡ key_of r row) × IsWide row) rows → AllByRecursion (λ row. key ≡ key_of r row) (shown_from rank rows)
    keys-shown key rank [] h = tt
    keys-shown key rank (row ∷ rows) h = (h.0.0 ∙ sym (key-shown row rank h.0.1), keys-shown key (suc rank) rows h.1)

    module _ (rows : Rows) (wide : (row : Row) → 0 < copies rows row → IsWide row) where
      -- what is shown of a partition is of it
      pub shown_there : (key row : Row) → 0 < occurs row_cmp row (shown_from 1 (first r key rows)) → key ≡ key_of r row
      shown_there key row some = at_occurs (λ other. key ≡ key_of r other) (shown_from 1 (first r key rows)) (keys-shown key 1 (first r key rows) (all-first r IsWide key rows wide)) row some

      module _ (row : Row) where
        made_is : (key : Row) → total (one_at row_cmp row) (first_rows r.order r.bound r.ranked (members r key rows)) ≡ cond (same_row (key_of r row) key) (occurs row_cmp row (shown_from 1 (first r (key_of r row) rows))) 0
        made_is key =
            total-bag_of row_total (one_at row_cmp row) (map (shown r.ranked) (take r.bound (ranked_from 1 (in_rank_order r.order (members r key rows)))))
            ∙ ap (λ xs. occurs row_cmp row (map (shown r.ranked) xs)) (take-ranked r.bound 1 (in_rank_order r.order (members r key rows)))
            ∙ elim (same_row (key_of r row) key) as (λ b. same_row (key_of r row) key ≡ b → occurs row_cmp row (shown_from 1 (first r key rows)) ≡ cond b (occurs row_cmp row (shown_from 1 (first r (key_of r row) rows))) 0) [
              | true ↦ λ e. ap (λ k. occurs row_cmp row (shown_from 1 (first r k rows))) (sym (same_row-true (key_of r row) key e))
              | false ↦ λ e. none_above _ (λ some.
                  let is = shown_there key row some in
                  let same : same_row (key_of r row) key ≡ true = ap (same_row (key_of r row)) is ∙ same_row-itself (key_of r row) in
                  cc)
            ] refl

        -- a partition of no rows shows none
        no_partition : copies (keys_in (key_of r) rows) (key_of r row) ≡ 0 → occurs row_cmp row (shown_from 1 (first r (key_of r row) rows)) ≡ 0
        no_partition e = none_above _ (λ some.
            let empty : members r (key_of r row) rows ≡ none = rows_of_key-none (key_of r) (key_of r row) rows (λ other some is.
            let k = there_key (key_of r) rows other some in
            let same = ap (copies (keys_in (key_of r) rows)) is in
            omega arith) in
            let nothing : first r (key_of r row) rows ≡ [] = ap (λ (m : Rows). take r.bound (in_rank_order r.order m)) empty ∙ first_none in
            let z : occurs row_cmp row (shown_from 1 (first r (key_of r row) rows)) ≡ 0 = ap (λ xs. occurs row_cmp row (shown_from 1 xs)) nothing in
            omega arith)
          where
            no_rows : (xs : List Row) → ((x : Row) → occurs row_cmp x xs ≡ 0) → xs ≡ []
            no_rows [] h = refl
            no_rows (x ∷ xs) h = absurd (let l = of_occurs (λ x. ⊥) (x ∷ xs) (λ y some. let z = h y in absurd (omega arith)) in l.0)

            take-nothing : (n : ℕ) (xs : List Row) → xs ≡ [] → take n xs ≡ []
            take-nothing zero xs q = refl
            take-nothing (suc n) xs q = ap (take (suc n)) q

            first_none : take r.bound (in_rank_order r.order none) ≡ []
            first_none = take-nothing r.bound (in_rank_order r.order none) (no_rows _ (λ x. occurs-ranked x r.order none ∙ copies-none row_total x))

        pub answer_shown : (answer : Rows) → rank_rows r.partition r.order r.bound r.ranked rows ≡ Some answer → copies answer row ≡ standing rows row
        answer_shown answer e =
            let keys = keys_in (key_of r) rows in
            let f = λ (key : Row). Some (first_rows r.order r.bound r.ranked (rows_of_key (key_of r) key rows)) in
            copies-occurs answer row
            ∙ total-sum_over row_total row_exact row_total row_exact (one_at row_cmp row) f keys answer e
            ∙ total-same (λ key. total (one_at row_cmp row) (first_rows r.order r.bound r.ranked (members r key rows))) (λ key. cond (same_row (key_of r row) key) (occurs row_cmp row (shown_from 1 (first r (key_of r row) rows))) 0) keys (copies-each row_total row_exact _ keys (λ key some. made_is key))
            ∙ once (copies {R = row_cmp} (mapped (key_of r) rows) (key_of r row) == 0) (copies-distinct row_total row_exact (mapped (key_of r) rows) (key_of r row))
          where
            once : (b : Bool) → copies (keys_in (key_of r) rows) (key_of r row) ≡ cond b 0 1 → total (λ key. cond (same_row (key_of r row) key) (occurs row_cmp row (shown_from 1 (first r (key_of r row) rows))) 0) (keys_in (key_of r) rows) ≡ occurs row_cmp row (shown_from 1 (first r (key_of r row) rows))
            once true e = nothing_there (key_of r row) _ _ (sym (copies-occurs (keys_in (key_of r) rows) (key_of r row)) ∙ e) ∙ sym (no_partition e)
            once false e = once_there (key_of r row) _ _ (sym (copies-occurs (keys_in (key_of r) rows) (key_of r row)) ∙ e)
