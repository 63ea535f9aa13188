-- Numbers of digits, read from the left.
use Rattle.std.proofs.Common.{◌≡◌, ℕ, suc, zero, ◌+◌, ◌*◌, ◌-◌, ◌^◌, ◌<◌, ◌≤◌, List, [], ◌∷◌, Bool, true, false, None, length, take, get_or, refl, arith, lit≤}
use Rattle.std.specs.Prelude.{◌&&◌}
use Rattle.std.specs.List.{list_all}
use Rattle.std.specs.Char.{is_ascii_digit, digit_value}
use Rattle.std.specs.Str.Parse.{digits_value}
use Rattle.std.proofs.lemmas.Int.Digits.{digits_value_more}
use Rattle.std.proofs.lemmas.Str.Parse.{digits_value-take-le}
use Rattle.std.proofs.lemmas.Bool.Decides.{nat_tests}
use Rattle.ct_field.specs.Numbers.{bounded_number}

and_both : (p q : Bool) → (p && q) ≡ true → (p ≡ true) × (q ≡ true)
and_both true true e = (refl, refl)
and_both true false e = absurd (cc)
and_both false q e = absurd (cc)

digit_at : (bs : List ℕ) (i : ℕ) → list_all is_ascii_digit bs ≡ true → i < length bs → is_ascii_digit (get_or bs i 0) ≡ true
digit_at [] i h l = absurd (omega arith)
digit_at (b ∷ bs) zero h l = (and_both (is_ascii_digit b) (list_all is_ascii_digit bs) h).0
digit_at (b ∷ bs) (suc i) h l = digit_at bs i (and_both (is_ascii_digit b) (list_all is_ascii_digit bs) h).1 (omega arith)

pub digit_bounds : (c : ℕ) → is_ascii_digit c ≡ true → (48 ≤ c) × (c ≤ 57)
digit_bounds c h = grind (arith, nat_tests)

value_of_digit : (c : ℕ) → 48 ≤ c → c ≤ 57 → digit_value c ≡ c - 48
value_of_digit c low high = grind (arith, nat_tests)

pub digit_high : (bs : List ℕ) (i : ℕ) → list_all is_ascii_digit bs ≡ true → i < length bs → get_or bs i 0 ≤ 57
digit_high bs i h l = (digit_bounds (get_or bs i 0) (digit_at bs i h l)).1

-- one digit more
pub digit_more : (bs : List ℕ) (i : ℕ) → is_ascii_digit (get_or bs i 0) ≡ true → i < length bs → digits_value 10 (take (i + 1) bs) ≡ digits_value 10 (take i bs) * 10 + (get_or bs i 0 - 48)
digit_more bs i h l = let d = digit_bounds (get_or bs i 0) h in rw (digits_value_more 10 bs i l, value_of_digit (get_or bs i 0) d.0 d.1) refl

pub one_more : (bs : List ℕ) (i : ℕ) → list_all is_ascii_digit bs ≡ true → i < length bs → digits_value 10 (take (i + 1) bs) ≡ digits_value 10 (take i bs) * 10 + (get_or bs i 0 - 48)
one_more bs i h l = digit_more bs i (digit_at bs i h l) l

-- too many digits so far are too many in the end
pub too_many : (bs : List ℕ) (i : ℕ) → 10 ^ 38 ≤ digits_value 10 (take i bs) → bounded_number (digits_value 10 bs) ≡ None
too_many bs i h =
    let e : 10 ^ 38 ≤ digits_value 10 bs = omega (arith, digits_value-take-le 10 bs i (lit≤ tt)) in grind (arith, nat_tests)
