-- Numbers of at most 38 digits: what is longer in a part is longer in the whole.
use Rattle.std.proofs.Common.{◌≡◌, ℕ, suc, zero, ◌+◌, ◌*◌, ◌^◌, ◌≤◌, Bool, true, false, cond, Option, Some, None, refl, arith, lit<, ap}
use Rattle.std.specs.Prelude.{nat_lt, unsigned_abs, option_map, option_and_then}
use Rattle.std.proofs.lemmas.Bool.Decides.{nat_tests}
use Rattle.std.proofs.Math.Nat.{one-le-pow, le-mul_of_pos_right}
use Rattle.ct_value.specs.declared.ty.Ty.{Ty}
use Rattle.ct_value.specs.declared.ty.Ty.TheVariants.{Bool as Truths, Int, BigInt, Decimal, Text as Texts}
use Rattle.ct_field.specs.Numbers.{bounded, bounded_number, signed, in_range, is_type}
use Rattle.ct_field.proofs.Powers.{ten_most}
use Rattle.ct_field.specs.Fields.{sum_of}

pub long_number : (n : ℕ) → bounded_number n ≡ None → 10 ^ 38 ≤ n
long_number n h = grind (arith, nat_tests)

pub number_long : (n : ℕ) → 10 ^ 38 ≤ n → bounded_number n ≡ None
number_long n h = grind (arith, nat_tests)

pub number_kept : (n m : ℕ) → bounded_number n ≡ Some m → n ≡ m
number_kept n m h = grind (arith, nat_tests)

pub kept : (o : Option ℕ) (m : ℕ) → Some m ≡ bounded o → o ≡ Some m
kept None m h = absurd (cc)
kept (Some n) m h = ap Some (number_kept n m (cc))

more_long : (n k : ℕ) → 10 ^ 38 ≤ n → 10 ^ 38 ≤ n * 10 ^ k
more_long n k h = let p : 1 ≤ 10 ^ k = one-le-pow k 10 (lit< tt) in let q : n ≤ n * 10 ^ k = le-mul_of_pos_right n p in omega arith

pub scaled_long : (o : Option ℕ) (k : ℕ) → None ≡ bounded o → None ≡ bounded (option_map (λ n. n * 10 ^ k) o)
scaled_long None k h = refl
scaled_long (Some n) k h = let e = number_long (n * 10 ^ k) (more_long n k (long_number n (cc))) in cc

pub scaled_bounded : (o : Option ℕ) (n k : ℕ) → Some n ≡ bounded o → bounded (option_map (λ n. n * 10 ^ k) o) ≡ bounded_number (n * 10 ^ k)
scaled_bounded o n k h = rw (kept o n h) refl

pub first_long : (a b : Option ℕ) → None ≡ bounded a → None ≡ bounded (sum_of a b)
first_long None b h = refl
first_long (Some n) None h = refl
first_long (Some n) (Some m) h = let e = number_long (n + m) (let l = long_number n (cc) in omega arith) in cc

pub second_long : (a b : Option ℕ) → None ≡ bounded b → None ≡ bounded (sum_of a b)
second_long None b h = refl
second_long (Some n) None h = refl
second_long (Some n) (Some m) h = let e = number_long (n + m) (let l = long_number m (cc) in omega arith) in cc

pub sum_bounded : (a b : Option ℕ) (n m : ℕ) → Some n ≡ bounded a → Some m ≡ bounded b → bounded (sum_of a b) ≡ bounded_number (n + m)
sum_bounded a b n m h k = rw (kept a n h, kept b m k) refl

digits_most : (p s : ℕ) → is_type (Decimal p s) ≡ true → p ≤ 38
digits_most p s h = grind (arith, nat_tests)

magnitude : (b : Bool) (n : ℕ) → unsigned_abs (signed b n) ≡ n
magnitude false n = refl
magnitude true zero = refl
magnitude true (suc n) = refl

not_below : (n m : ℕ) → m ≤ n → nat_lt n m ≡ false
not_below n m h = grind (arith, nat_tests)

long_signed : (ty : Ty) (b : Bool) (n : ℕ) → is_type ty ≡ true → 10 ^ 38 ≤ n → in_range ty (signed b n) ≡ false
long_signed Truths b n t h = refl
long_signed Int false n t h = grind (arith, nat_tests)
long_signed Int true zero t h = absurd (omega arith)
long_signed Int true (suc n) t h = grind (arith, nat_tests)
long_signed BigInt false n t h = grind (arith, nat_tests)
long_signed BigInt true zero t h = absurd (omega arith)
long_signed BigInt true (suc n) t h = grind (arith, nat_tests)
long_signed (Decimal p s) b n t h =
    let e : p ≤ 38 = digits_most p s t in
    let d : 10 ^ p ≤ 10 ^ 38 = ten_most p e in
    rw (magnitude b n) (not_below n (10 ^ p) (omega arith))
long_signed Texts b n t h = refl

-- a number of more than 38 digits is one of no type
pub too_long : (ty : Ty) (b : Bool) (o : Option ℕ) → is_type ty ≡ true → None ≡ bounded o → None ≡ option_and_then (λ n. cond (in_range ty n) (Some n) None) (option_map (signed b) o)
too_long ty b None t h = refl
too_long ty b (Some n) t h = rw (long_signed ty b n t (long_number n (cc))) refl
