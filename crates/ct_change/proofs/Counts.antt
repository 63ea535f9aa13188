-- What a bag kept as counts has after one count is written.
use Rattle.std.proofs.Common.{◌≡◌, ℕ, ◌+◌, ◌*◌, ◌<◌, true, false, cond, Option, refl, sym, ap, ◌∙◌, arith}
use Rattle.std.specs.Ordering.{eq_by_cmp}
use Rattle.std.specs.Option.{unwrap_or}
use Rattle.std.specs.BTreeMap.{BTreeMap, IsOrdered, get, keys}
use Rattle.std.specs.Cmp.{eq_by_cmp_equiv, Equal-is}
use Rattle.std.proofs.lemmas.Map.Keys.{IsDistinct-from_sorted}
use Rattle.ct_value.specs.Order.{row_cmp, row_total, row_exact}
use Rattle.ct_value.specs.Bag.{Bag, copies, add, add_many, remove, bag_of_counts, one_at}
use Rattle.ct_value.proofs.laws.Bags.{copies-bag_of_counts, copies-occurs, copies-add, total-add_many, copies-remove, same_bag}
use Rattle.ct_value.specs.declared.row.Row.{Row}

abbrev pub bag_in : BTreeMap Row ℕ → Bag row_cmp
bag_in m = bag_of_counts m.entries

abbrev pub count_at : BTreeMap Row ℕ → Row → ℕ
count_at m row = unwrap_or (get row_cmp m row) 0

pub copies_in : (m : BTreeMap Row ℕ) (row : Row) → IsOrdered row_cmp m → copies (bag_in m) row ≡ count_at m row
copies_in m row h = copies-bag_of_counts row_total m.entries row (IsDistinct-from_sorted row_cmp (keys m) h)

copies-many : (rows : Bag row_cmp) (row other : Row) (more : ℕ) → copies (add_many rows row more) other ≡ more * one_at row_cmp other row + copies rows other
copies-many rows row other more = copies-occurs (add_many rows row more) other ∙ total-add_many row_total (one_at row_cmp other) rows row more ∙ ap (λ k. more * one_at row_cmp other row + k) (sym (copies-occurs rows other))

-- what is written at x, seen from y
module _ (m n : BTreeMap Row ℕ) (x : Row) (w : Option ℕ) (before : IsOrdered row_cmp m) (after : IsOrdered row_cmp n) (writes : (y : Row) → get row_cmp n y ≡ cond (eq_by_cmp row_cmp x y) w (get row_cmp m y)) where
  seen_from : (y : Row) (P : ℕ → ℕ → ℕ → Type 0) → P (unwrap_or w 0) (count_at m x) 1 → ((k : ℕ) → P k k 0) → P (count_at n y) (count_at m y) (one_at row_cmp y x)
  seen_from y P here there =
      elim (eq_by_cmp row_cmp x y) as (λ b. eq_by_cmp row_cmp x y ≡ b → get row_cmp n y ≡ cond b w (get row_cmp m y) → P (count_at n y) (count_at m y) (one_at row_cmp y x)) [
        | true ↦ λ e g.
            let same : x ≡ y = row_exact x y ((Equal-is (row_cmp x y)).0 e) in
            let one : one_at row_cmp y x ≡ 1 = ap (λ b. cond b 1 0) ((eq_by_cmp_equiv row_total).symm y x ∙ e) in
            rw (g, one, ← same) here
        | false ↦ λ e g.
            let zero_ : one_at row_cmp y x ≡ 0 = ap (λ b. cond b 1 0) ((eq_by_cmp_equiv row_total).symm y x ∙ e) in
            rw (g, zero_) (there _)
      ] refl (writes y)

  pub one_added : unwrap_or w 0 ≡ count_at m x + 1 → bag_in n ≡ add (bag_in m) x
  one_added h = same_bag row_total row_exact _ _ (λ y.
      let a = seen_from y (λ new old one. new ≡ one + old) (omega arith) (λ k. omega arith) in
      omega (arith, a, copies_in m y before, copies_in n y after, copies-add row_total (bag_in m) x y))

  pub many_added : (more : ℕ) → unwrap_or w 0 ≡ count_at m x + more → bag_in n ≡ add_many (bag_in m) x more
  many_added more h = same_bag row_total row_exact _ _ (λ y.
      let a = seen_from y (λ new old one. new ≡ more * one + old) (omega arith) (λ k. omega arith) in
      omega (arith, a, copies_in m y before, copies_in n y after, copies-many (bag_in m) x y more))

  pub one_removed : unwrap_or w 0 + 1 ≡ count_at m x → bag_in n ≡ remove (bag_in m) x
  one_removed h = same_bag row_total row_exact _ _ (λ y.
      let a = seen_from y (λ new old one. one + new ≡ old) (omega arith) (λ k. omega arith) in
      let some : 0 < copies (bag_in m) x = omega (arith, copies_in m x before) in
      omega (arith, a, copies_in m y before, copies_in n y after, copies-remove row_total row_exact (bag_in m) x y some))
