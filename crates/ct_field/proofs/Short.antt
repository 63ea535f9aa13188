-- Numbers of few digits, which fit into 64 bits.
use Rattle.std.proofs.Common.{◌≡◌, ℕ, ◌+◌, ◌*◌, ◌-◌, ◌^◌, ◌<◌, ◌≤◌, List, length, take, get_or, Bool, true, false, cond, Option, Some, None, refl, sym, ◌∙◌, arith, lit<}
use Rattle.std.specs.Prelude.{nat_le}
use Rattle.std.specs.List.{list_all}
use Rattle.std.specs.Char.{is_ascii_digit}
use Rattle.std.proofs.lemmas.Nat.{pow-add}
use Rattle.std.proofs.lemmas.List.Folds.{list_all_more}
use Rattle.std.proofs.Math.Nat.{pow-le-pow_right}
use Rattle.ct_field.specs.Numbers.{bounded, bounded_number}
use Rattle.ct_field.specs.Fields.{digits_spelled, unsigned_spelled}
use Rattle.ct_field.proofs.Digits.{digit_bounds}
use Rattle.ct_field.proofs.laws.Numbers.{both_true, digits_read, digits_without_point}

-- ---- one digit more

pub digit_small : (n i c : ℕ) → n < 10 ^ i → is_ascii_digit c ≡ true → n * 10 + (c - 48) < 10 ^ (i + 1)
digit_small n i c h d = let p = digit_bounds c d in let e : 10 ^ (i + 1) ≡ 10 ^ i * 10 = pow-add 10 i 1 in omega arith

pub below_all : (n i : ℕ) → n < 10 ^ i → i ≤ 18 → n < 10 ^ 18
below_all n i h l = let p : 10 ^ i ≤ 10 ^ 18 = pow-le-pow_right (lit< tt) l in omega arith

pub digit_fits : (n i c : ℕ) → n < 10 ^ i → i < 18 → is_ascii_digit c ≡ true → n * 10 + (c - 48) < 10 ^ 18
digit_fits n i c h l d = below_all (n * 10 + (c - 48)) (i + 1) (digit_small n i c h d) (omega arith)

pub digits_more : (bs : List ℕ) (i : ℕ) → list_all is_ascii_digit (take i bs) ≡ true → is_ascii_digit (get_or bs i 0) ≡ true → i < length bs → list_all is_ascii_digit (take (i + 1) bs) ≡ true
digits_more bs i h d l = list_all_more is_ascii_digit bs i 0 l ∙ both_true (list_all is_ascii_digit (take i bs)) (is_ascii_digit (get_or bs i 0)) h d

-- ---- what the digits spell

if_spelled : (b : Bool) (o : Option ℕ) (n : ℕ) → Some n ≡ cond b o None → o ≡ Some n
if_spelled true o n h = sym h
if_spelled false o n h = absurd (cc)

-- digits have no point
pub short_is_spelled : (s : ℕ) (bs : List ℕ) (n : ℕ) → Some n ≡ cond (nat_le (length bs) 18) (digits_spelled bs) None → bounded (unsigned_spelled s bs) ≡ bounded_number (n * 10 ^ s)
short_is_spelled s bs n h =
    let e = if_spelled (nat_le (length bs) 18) (digits_spelled bs) n h in
    let d = digits_read bs n e in
    rw (digits_without_point bs d.0.1, e) refl
