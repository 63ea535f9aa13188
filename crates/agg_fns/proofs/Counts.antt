-- What a bag kept as counts has after one count is written.
use Rattle.std.proofs.Common.{◌≡◌, ℕ, ◌+◌, ◌<◌, true, false, cond, Option, refl, ap, ◌∙◌, arith}
use Rattle.std.specs.Ordering.{eq_by_cmp}
use Rattle.std.specs.Option.{unwrap_or}
use Rattle.std.specs.BTreeMap.{BTreeMap, IsOrdered, get, keys}
use Rattle.std.specs.Cmp.{eq_by_cmp_equiv, Equal-is}
use Rattle.std.proofs.lemmas.Map.Keys.{IsDistinct-from_sorted}
use Rattle.ct_value.specs.Order.{value_cmp, value_total, value_exact}
use Rattle.ct_value.specs.Bag.{Bag, copies, add, remove, bag_of_counts, one_at}
use Rattle.ct_value.proofs.laws.Bags.{copies-bag_of_counts, copies-add, copies-remove, same_bag}
use Rattle.ct_value.specs.declared.value.Value.{Value}

abbrev pub bag_in : BTreeMap Value ℕ → Bag value_cmp
bag_in m = bag_of_counts m.entries

abbrev pub count_at : BTreeMap Value ℕ → Value → ℕ
count_at m value = unwrap_or (get value_cmp m value) 0

pub copies_in : (m : BTreeMap Value ℕ) (value : Value) → IsOrdered value_cmp m → copies (bag_in m) value ≡ count_at m value
copies_in m value h = copies-bag_of_counts value_total m.entries value (IsDistinct-from_sorted value_cmp (keys m) h)

-- what is written at x, seen from y
module _ (m n : BTreeMap Value ℕ) (x : Value) (w : Option ℕ) (before : IsOrdered value_cmp m) (after : IsOrdered value_cmp n) (writes : (y : Value) → get value_cmp n y ≡ cond (eq_by_cmp value_cmp x y) w (get value_cmp m y)) where
  seen_from : (y : Value) (P : ℕ → ℕ → ℕ → Type 0) → P (unwrap_or w 0) (count_at m x) 1 → ((k : ℕ) → P k k 0) → P (count_at n y) (count_at m y) (one_at value_cmp y x)
  seen_from y P here there =
      elim (eq_by_cmp value_cmp x y) as (λ b. eq_by_cmp value_cmp x y ≡ b → get value_cmp n y ≡ cond b w (get value_cmp m y) → P (count_at n y) (count_at m y) (one_at value_cmp y x)) [
        | true ↦ λ e g.
            let same : x ≡ y = value_exact x y ((Equal-is (value_cmp x y)).0 e) in
            let one : one_at value_cmp y x ≡ 1 = ap (λ b. cond b 1 0) ((eq_by_cmp_equiv value_total).symm y x ∙ e) in
            rw (g, one, ← same) here
        | false ↦ λ e g.
            let zero_ : one_at value_cmp y x ≡ 0 = ap (λ b. cond b 1 0) ((eq_by_cmp_equiv value_total).symm y x ∙ e) in
            rw (g, zero_) (there _)
      ] refl (writes y)

  pub one_added : unwrap_or w 0 ≡ count_at m x + 1 → bag_in n ≡ add (bag_in m) x
  one_added h = same_bag value_total value_exact _ _ (λ y.
      let a = seen_from y (λ new old one. new ≡ one + old) (omega arith) (λ k. omega arith) in
      omega (arith, a, copies_in m y before, copies_in n y after, copies-add value_total (bag_in m) x y))

  pub one_removed : unwrap_or w 0 + 1 ≡ count_at m x → bag_in n ≡ remove (bag_in m) x
  one_removed h = same_bag value_total value_exact _ _ (λ y.
      let a = seen_from y (λ new old one. one + new ≡ old) (omega arith) (λ k. omega arith) in
      let some : 0 < copies (bag_in m) x = omega (arith, copies_in m x before) in
      omega (arith, a, copies_in m y before, copies_in n y after, copies-remove value_total value_exact (bag_in m) x y some))
