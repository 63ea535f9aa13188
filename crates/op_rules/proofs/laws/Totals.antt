-- Sums over the numbers below a bound.
use Rattle.std.proofs.Common.{◌≡◌, ℕ, zero, suc, ◌<◌, ◌≤◌, cond, true, false, refl, arith, eqb, inl, inr}
use Rattle.std.proofs.lemmas.Bool.{eq-eqb, ne_eqb, cases_eq}
use Rattle.op_rules.specs.Tasks.{total}

pub total-same : (n : ℕ) (f g : ℕ → ℕ) → ((i : ℕ) → i < n → f i ≡ g i) → total n f ≡ total n g
total-same zero f g h = refl
total-same (suc n) f g h = omega (arith, total-same n f g (λ i l. h i (omega arith)), h n (omega arith))

-- a sum that is w at one place
pub total_past : (n a w : ℕ) → n ≤ a → total n (λ i. cond (eqb a i) w 0) ≡ 0
total_past zero a w l = refl
total_past (suc n) a w l =
    let e : eqb a n ≡ false = ne_eqb a n (λ p. omega arith) in
    rw e (omega (arith, total_past n a w (omega arith)))

pub total_one : (n a w : ℕ) → a < n → total n (λ i. cond (eqb a i) w 0) ≡ w
total_one zero a w l = absurd (omega arith)
total_one (suc n) a w l =
    elim (cases_eq a n) [
      | inl e ↦ let q : eqb a n ≡ true = eq-eqb a n e in rw q (omega (arith, total_past n a w (omega arith)))
      | inr d ↦ let q : eqb a n ≡ false = ne_eqb a n d in rw q (omega (arith, total_one n a w (omega arith)))
    ]
