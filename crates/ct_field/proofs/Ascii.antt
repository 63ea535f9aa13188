-- The texts of numbers are ASCII.
use Rattle.std.proofs.Common.{ℕ, suc, zero, ◌+◌, ◌/◌, ◌%◌, ◌^◌, ◌<◌, ◌≤◌, ℤ, [], ◌∷◌, ◌++◌, true, false, cond, arith, lit<}
use Rattle.std.specs.Prelude.{unsigned_abs, ◌==◌}
use Rattle.std.specs.Int.{w128, is_negative}
use Rattle.std.specs.Int.RustNames.{FitsSigned}
use Rattle.std.specs.Str.{IsAscii, IsUtf8}
use Rattle.std.specs.Fmt.{decimal}
use Rattle.std.proofs.lemmas.Str.{IsUtf8-from_ascii, IsAscii-append}
use Rattle.std.proofs.lemmas.Str.Ascii.{IsAscii-nil}
use Rattle.std.proofs.Math.Nat.{div-le_self}
use Rattle.std.proofs.lemmas.Fmt.{IsAscii-decimal_wide}
use Rattle.ct_field.proofs.Powers.{abs_most}
use Rattle.ct_field.specs.Fields.{last_digits, unsigned_text, sign_text, number_text}

one_ascii : (c : ℕ) → c < 128 → IsAscii (c ∷ [])
one_ascii c h zero = h
one_ascii c h (suc i) = lit< tt

digits_ascii : (k n : ℕ) → IsAscii (last_digits k n)
digits_ascii zero n = IsAscii-nil
digits_ascii (suc k) n = IsAscii-append (last_digits k (n / 10)) ((48 + n % 10) ∷ []) (digits_ascii k (n / 10)) (one_ascii (48 + n % 10) (omega arith))

point_ascii : (k n : ℕ) → IsAscii (46 ∷ last_digits k n)
point_ascii k n = IsAscii-append (46 ∷ []) (last_digits k n) (one_ascii 46 (lit< tt)) (digits_ascii k n)

whole_ascii : (n d : ℕ) → n ≤ 2 ^ 127 → IsAscii (decimal (n / d))
whole_ascii n d h = IsAscii-decimal_wide (n / d) (omega (arith, div-le_self n d))

unsigned_ascii : (s n : ℕ) → n ≤ 2 ^ 127 → IsAscii (unsigned_text s n)
unsigned_ascii s n h = elim (s == 0) as (λ b. IsAscii (cond b (decimal n) (decimal (n / 10 ^ s) ++ 46 ∷ last_digits s n))) [
  | true ↦ IsAscii-decimal_wide n (omega arith)
  | false ↦ IsAscii-append (decimal (n / 10 ^ s)) (46 ∷ last_digits s n) (whole_ascii n (10 ^ s) h) (point_ascii s n)
]

sign_ascii : (n : ℤ) → IsAscii (sign_text n)
sign_ascii n = elim (is_negative n) as (λ b. IsAscii (cond b (45 ∷ []) [])) [ true ↦ one_ascii 45 (lit< tt) | false ↦ IsAscii-nil ]

pub number_utf8 : (s : ℕ) (n : ℤ) → FitsSigned w128 n → IsUtf8 (number_text s n)
number_utf8 s n f = IsUtf8-from_ascii (number_text s n) (IsAscii-append (sign_text n) (unsigned_text s (unsigned_abs n)) (sign_ascii n) (unsigned_ascii s (unsigned_abs n) (abs_most n f)))
