-- Averages of a sum that is known by its two parts.
use Rattle.std.proofs.Common.{◌≡◌, ℕ, ◌*◌, ◌/◌, ◌≤◌, Bool, true, false, cond, Option, None, pos, refl, ap, subst, arith}
use Rattle.std.specs.Prelude.{option_map}
use Rattle.std.specs.Int.{is_negative}
use Rattle.std.proofs.lemmas.Int.{ints}
use Rattle.ct_field.specs.Numbers.{signed}
use Rattle.rel_algebra.specs.Aggregates.{truncated}
use Rattle.std.proofs.Math.Nat.{div-le_of_le-mul, mul_comm}

pub within_cond : {A B : Type 0} (f : A → B) (b : Bool) (o : Option A) → option_map f (cond b o None) ≡ cond b (option_map f o) None
within_cond f true o = refl
within_cond f false o = refl

pub quotient_most : (n d most : ℕ) → n ≤ most * d → n / d ≤ most
quotient_most n d most h = div-le_of_le-mul d (subst (λ k. n ≤ k) (mul_comm most d) h)

not_negative : (n : ℕ) → is_negative (pos n) ≡ false
not_negative n = grind (arith, ints)

pub positive-truncated : (n count : ℕ) → truncated (pos n) count ≡ pos (n / count)
positive-truncated n count = ap (λ b. signed b (n / count)) (not_negative n)
