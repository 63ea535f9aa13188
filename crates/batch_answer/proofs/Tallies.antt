-- Counts after one is written.
use Rattle.std.proofs.Common.{◌≡◌, ℕ, ◌+◌, ◌*◌, ◌<◌, ◌^◌, true, false, cond, List, [], ◌∷◌, Some, refl, sym, ap, ◌∙◌, arith}
use Rattle.std.specs.Ordering.{eq_by_cmp, match_ordering}
use Rattle.std.specs.declared.cmp.Ordering.TheVariants.{Less, Equal, Greater}
use Rattle.std.specs.Option.{unwrap_or}
use Rattle.std.specs.BTreeMap.{BTreeMap, IsOrdered, get, keys, insert_entry}
use Rattle.std.specs.Cmp.{eq_by_cmp_equiv, Equal-is}
use Rattle.std.proofs.lemmas.Map.Keys.{IsDistinct-from_sorted}
use Rattle.ct_value.specs.Order.{row_cmp, row_total, row_exact}
use Rattle.ct_value.specs.Bag.{copies, add_many, bag_of_counts, one_at}
use Rattle.ct_value.proofs.laws.Bags.{copies-bag_of_counts, same_bag}
use Rattle.ct_value.specs.declared.row.Row.{Row}
use Rattle.ct_change.specs.Changelog.{Rows}
use Rattle.batch_answer.specs.Tallies.{AreCounted, count_at}
use Rattle.batch_answer.proofs.Sums.{copies-many}

abbrev pub bag_in : BTreeMap Row ℕ → Rows
bag_in m = bag_of_counts m.entries

pub copies_in : (m : BTreeMap Row ℕ) (row : Row) → IsOrdered row_cmp m → copies (bag_in m) row ≡ count_at m row
copies_in m row h = copies-bag_of_counts row_total m.entries row (IsDistinct-from_sorted row_cmp (keys m) h)

-- so many more at x
pub many_added : (m n : BTreeMap Row ℕ) (x : Row) (w : ℕ) (more : ℕ) → IsOrdered row_cmp m → IsOrdered row_cmp n
    → ((y : Row) → get row_cmp n y ≡ cond (eq_by_cmp row_cmp x y) (Some w) (get row_cmp m y)) → w ≡ count_at m x + more → bag_in n ≡ add_many (bag_in m) x more
many_added m n x w more before after writes h = same_bag row_total row_exact _ _ (λ y.
    let a = at y in omega (arith, a, copies_in m y before, copies_in n y after, copies-many (bag_in m) x y more))
  where
    at : (y : Row) → count_at n y ≡ more * one_at row_cmp y x + count_at m y
    at y =
        elim (eq_by_cmp row_cmp x y) as (λ b. eq_by_cmp row_cmp x y ≡ b → get row_cmp n y ≡ cond b (Some w) (get row_cmp m y) → count_at n y ≡ more * one_at row_cmp y x + count_at m y) [
          | true ↦ λ e g.
              let same : x ≡ y = row_exact x y ((Equal-is (row_cmp x y)).0 e) in
              let one : one_at row_cmp y x ≡ 1 = ap (λ b. cond b 1 0) ((eq_by_cmp_equiv row_total).symm y x ∙ e) in
              let there : count_at m y ≡ count_at m x = ap (count_at m) (sym same) in
              let here : count_at n y ≡ w = ap (λ o. unwrap_or o 0) g in
              let product : more * one_at row_cmp y x ≡ more = ap (λ k. more * k) one ∙ omega arith in
              omega arith
          | false ↦ λ e g.
              let zero_ : one_at row_cmp y x ≡ 0 = ap (λ b. cond b 1 0) ((eq_by_cmp_equiv row_total).symm y x ∙ e) in
              let here : count_at n y ≡ count_at m y = ap (λ o. unwrap_or o 0) g in
              let product : more * one_at row_cmp y x ≡ 0 = ap (λ k. more * k) zero_ ∙ omega arith in
              omega arith
        ] refl (writes y)

pub counted_more : (entries : List (Row × ℕ)) (row : Row) (n : ℕ) → 0 < n → n < 2 ^ 64 → AreCounted entries → AreCounted (insert_entry row_cmp entries row n)
counted_more [] row n p q h = ((p, q), tt)
counted_more (entry ∷ entries) row n p q h =
    elim (row_cmp row entry.0) as (λ o. AreCounted (match_ordering o ((row, n) ∷ entry ∷ entries) ((entry.0, n) ∷ entries) (entry ∷ insert_entry row_cmp entries row n))) [
      | Less ↦ ((p, q), h)
      | Equal ↦ ((p, q), h.1)
      | Greater ↦ (h.0, counted_more entries row n p q h.1)
    ]
