-- The table of the powers of ten.
use Rattle.std.proofs.Common.{◌≡◌, ℕ, zero, suc, ◌-◌, ◌^◌, ◌<◌, Bool, true, ◌&&◌, eqb, eq-zero-or-pos, get_or, inl, inr, refl, arith}
use Rattle.std.proofs.lemmas.Bool.{eqb-true}
use Rattle.ct_field.proofs.laws.Numbers.{first_true, second_true}
use Rattle.ct_field.specs.declared.number.TheConstants.{POWERS_OF_TEN}

abbrev are_powers : ℕ → Bool
are_powers zero = true
are_powers (suc k) = eqb (get_or POWERS_OF_TEN k 0) (10 ^ k) && are_powers k

below : (n k : ℕ) → are_powers n ≡ true → k < n → get_or POWERS_OF_TEN k 0 ≡ 10 ^ k
below zero k t h = absurd (omega arith)
below (suc n) k t h =
    elim (eq-zero-or-pos (n - k)) [
      | inl z ↦ let e : k ≡ n = omega arith in rw e (eqb-true _ _ (first_true _ (are_powers n) t))
      | inr g ↦ below n k (second_true _ (are_powers n) t) (omega arith)
    ]

pub power_stands : (k : ℕ) → k < 39 → get_or POWERS_OF_TEN k 0 ≡ 10 ^ k
power_stands k h = below 39 k refl h
