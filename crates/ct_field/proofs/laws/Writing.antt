-- The text in which a value is written spells it.
use Rattle.std.proofs.Common.{◌≡◌, ℕ, zero, suc, ◌+◌, ◌*◌, ◌-◌, ◌/◌, ◌%◌, ◌^◌, ◌<◌, ◌≤◌, ◌==◌, ℤ, pos, negsuc, true, false, cond, ◌&&◌, List, [], ◌∷◌, ◌++◌, length, Some, refl, sym, ap, ◌∙◌, arith, lit<, inl, inr}
use Rattle.std.specs.Prelude.{neg_ℤ, ◌+ℤ◌, ◌≤ℤ◌, int_le, int_lt, nat_le, nat_lt, unsigned_abs, ◌⊎◌}
use Rattle.std.specs.List.{list_all}
use Rattle.std.specs.Int.{is_negative}
use Rattle.std.specs.Char.{is_ascii_digit, digit_value}
use Rattle.std.specs.Str.{IsUtf8}
use Rattle.std.specs.Str.Parse.{AllDigits, digits_value, digits_value_after}
use Rattle.std.specs.Fmt.{decimal}
use Rattle.std.proofs.lemmas.Fmt.{decimal_is_IsNumeral_wide}
use Rattle.std.proofs.lemmas.Str.{digit_value_digit}
use Rattle.std.proofs.lemmas.Str.Parse.{digit_from_value}
use Rattle.std.proofs.lemmas.List.{length-append}
use Rattle.std.proofs.lemmas.List.Folds.{list_all-append}
use Rattle.std.proofs.lemmas.Int.{ints}
use Rattle.std.proofs.lemmas.Bool.{ltb-true, leb-true, eqb-true}
use Rattle.std.proofs.lemmas.Bool.Decides.{nat_tests}
use Rattle.std.proofs.Math.Nat.{div-le_self, div-div-eq-div-mul, mul_left_comm, pow-le-pow_right, pow-succ'}
use Rattle.ct_value.specs.declared.ty.Ty.{Ty}
use Rattle.ct_value.specs.declared.ty.Ty.TheVariants.{Bool as Truths, Int, BigInt, Decimal, Text as Texts}
use Rattle.ct_value.specs.declared.value.Value.{Value}
use Rattle.ct_value.specs.declared.value.Value.TheVariants.{Null, Bool as Truth, Num, Text}
use Rattle.ct_field.specs.Numbers.{is_type, in_range, signed}
use Rattle.ct_field.specs.Typed.{value_fits}
use Rattle.ct_field.specs.Fields.{scale_of, last_digits, unsigned_text, sign_text, number_text, begins_with_backslash, escaped, field_text, longest_field, field_value}
use Rattle.ct_field.specs.Spells.{IsDigits, IsSign, WholeSpells, PointSpells, NumberSpells, TextSpells, Spells, IsText}
use Rattle.ct_field.proofs.laws.Numbers.{both_true, first_true, second_true}
use Rattle.ct_field.proofs.laws.Reading.{field_is_read}

-- ---- digits

digit_test : (c : ℕ) → 48 ≤ c → c ≤ 57 → is_ascii_digit c ≡ true
digit_test c h k = grind (arith, nat_tests)

all_digits : (ds : List ℕ) → AllDigits 10 ds → list_all is_ascii_digit ds ≡ true
all_digits [] h = refl
all_digits (d ∷ ds) h = let p = digit_from_value d h.0 in both_true (is_ascii_digit d) (list_all is_ascii_digit ds) (digit_test d p.0 p.1) (all_digits ds h.1)

decimal_digits : (n : ℕ) → n < 10 ^ 64 → IsDigits (decimal n) × (digits_value 10 (decimal n) ≡ n)
decimal_digits n h = let p = decimal_is_IsNumeral_wide n h in ((p.0.0, all_digits (decimal n) p.0.1), p.1)

last_all : (k n : ℕ) → list_all is_ascii_digit (last_digits k n) ≡ true
last_all zero n = refl
last_all (suc k) n =
    let d : is_ascii_digit (48 + n % 10) ≡ true = digit_test (48 + n % 10) (omega arith) (omega arith) in
    list_all-append is_ascii_digit (last_digits k (n / 10)) ((48 + n % 10) ∷ [])
    ∙ both_true (list_all is_ascii_digit (last_digits k (n / 10))) (is_ascii_digit (48 + n % 10) && true) (last_all k (n / 10)) (both_true (is_ascii_digit (48 + n % 10)) true d refl)

last_length : (k n : ℕ) → length (last_digits k n) ≡ k
last_length zero n = refl
last_length (suc k) n = length-append (last_digits k (n / 10)) ((48 + n % 10) ∷ []) ∙ omega (arith, last_length k (n / 10))

one_digit_more : (m : ℕ) (xs : List ℕ) (c : ℕ) → digits_value_after 10 m (xs ++ c ∷ []) ≡ digits_value_after 10 m xs * 10 + digit_value c
one_digit_more m [] c = refl
one_digit_more m (x ∷ xs) c = one_digit_more (m * 10 + digit_value x) xs c

value_of_digit : (d : ℕ) → d < 10 → digit_value (48 + d) ≡ d
value_of_digit d h = let e = digit_value_digit (48 + d) (omega arith, omega arith) in omega arith

-- a number is what stands before its last digits, and these
before_and_last : (k n : ℕ) → (n / 10 ^ k) * 10 ^ k + digits_value 10 (last_digits k n) ≡ n
before_and_last zero n = omega arith
before_and_last (suc k) n =
    let q : n / 10 ^ suc k ≡ n / 10 / 10 ^ k = ap (λ m. n / m) (pow-succ' 10 k) ∙ sym (div-div-eq-div-mul n 10 (10 ^ k)) in
    let power : (n / 10 ^ suc k) * 10 ^ suc k ≡ 10 * ((n / 10 / 10 ^ k) * 10 ^ k) = (λ i. q i * pow-succ' 10 k i) ∙ mul_left_comm (n / 10 / 10 ^ k) 10 (10 ^ k) in
    let last : digits_value 10 (last_digits (suc k) n) ≡ digits_value 10 (last_digits k (n / 10)) * 10 + n % 10 =
    one_digit_more 0 (last_digits k (n / 10)) (48 + n % 10) ∙ ap (λ d. digits_value 10 (last_digits k (n / 10)) * 10 + d) (value_of_digit (n % 10) (omega arith)) in
    let ih = before_and_last k (n / 10) in
    omega (arith, power, last, ih)

-- ---- numbers

unsigned_spells : (s n : ℕ) → n < 10 ^ 64 → WholeSpells s n (unsigned_text s n) ⊎ PointSpells s n (unsigned_text s n)
unsigned_spells s n h = elim (s == 0) as (λ b. (s == 0) ≡ b → WholeSpells s n (cond b (decimal n) (decimal (n / 10 ^ s) ++ 46 ∷ last_digits s n)) ⊎ PointSpells s n (cond b (decimal n) (decimal (n / 10 ^ s) ++ 46 ∷ last_digits s n))) [
  | true ↦ λ e.
      let p = decimal_digits n h in
      let one : 10 ^ s ≡ 1 = ap (λ k. 10 ^ k) (eqb-true s 0 e) in
      let value : digits_value 10 (decimal n) * 10 ^ s ≡ digits_value 10 (decimal n) * 1 = ap (λ m. digits_value 10 (decimal n) * m) one in
      inl (p.0, let q = p.1 in omega arith)
  | false ↦ λ e.
      let p = decimal_digits (n / 10 ^ s) (omega (arith, div-le_self n (10 ^ s))) in
      let l = last_length s n in
      let none : 10 ^ (s - length (last_digits s n)) ≡ 1 = ap (λ k. 10 ^ k) (let z : s - length (last_digits s n) ≡ 0 = omega arith in z) in
      let last : digits_value 10 (last_digits s n) * 10 ^ (s - length (last_digits s n)) ≡ digits_value 10 (last_digits s n) * 1 = ap (λ m. digits_value 10 (last_digits s n) * m) none in
      let before : digits_value 10 (decimal (n / 10 ^ s)) * 10 ^ s ≡ (n / 10 ^ s) * 10 ^ s = ap (λ m. m * 10 ^ s) p.1 in
      inr (decimal (n / 10 ^ s), last_digits s n, refl, p.0, (some s n e, last_all s n), (omega arith), (let sum = before_and_last s n in omega arith))
] refl
  where
    some : (s n : ℕ) → (s == 0) ≡ false → 0 < length (last_digits s n)
    some s n e = let l = last_length s n in let p : 0 < s = above s e in omega arith
      where
        above : (s : ℕ) → (s == 0) ≡ false → 0 < s
        above s e = grind (arith, nat_tests)

sign_is_sign : (z : ℤ) → IsSign (is_negative z) (sign_text z)
sign_is_sign z = elim (is_negative z) as (λ b. IsSign b (cond b (45 ∷ []) [])) [ true ↦ refl | false ↦ inl refl ]

of_its_sign : (z : ℤ) → z ≡ signed (is_negative z) (unsigned_abs z)
of_its_sign (pos n) = sym (ap (λ b. signed b n) (not_negative n))
  where
    not_negative : (n : ℕ) → is_negative (pos n) ≡ false
    not_negative n = elim (nat_lt n 0) as (λ b. nat_lt n 0 ≡ b → b ≡ false) [ true ↦ λ e. absurd (let h = ltb-true n 0 e in omega arith) | false ↦ λ e. refl ] refl
of_its_sign (negsuc n) = refl

number_spells : (s : ℕ) (z : ℤ) → unsigned_abs z < 10 ^ 64 → NumberSpells s z (number_text s z)
number_spells s z h = (is_negative z, unsigned_abs z, sign_text z, unsigned_text s (unsigned_abs z), refl, sign_is_sign z, unsigned_spells s (unsigned_abs z) h, of_its_sign z)

-- ---- numbers of types are no longer than what is written

le_of : (a b : ℤ) → int_le a b ≡ true → a ≤ℤ b
le_of a b e = grind (arith, ints)

lt_of : (a b : ℤ) → int_lt a b ≡ true → (a +ℤ pos 1) ≤ℤ b
lt_of a b e = grind (arith, ints)

within : (bound : ℕ) (z : ℤ) → (int_le (neg_ℤ (pos bound)) z && int_lt z (pos bound)) ≡ true → unsigned_abs z ≤ bound
within bound (pos a) e = let h = lt_of (pos a) (pos bound) (second_true (int_le (neg_ℤ (pos bound)) (pos a)) (int_lt (pos a) (pos bound)) e) in omega (arith, ints)
within bound (negsuc a) e = let h = le_of (neg_ℤ (pos bound)) (negsuc a) (first_true (int_le (neg_ℤ (pos bound)) (negsuc a)) (int_lt (negsuc a) (pos bound)) e) in omega (arith, ints)

short : (ty : Ty) (z : ℤ) → is_type ty ≡ true → in_range ty z ≡ true → unsigned_abs z < 10 ^ 64
short Truths z t e = absurd (cc)
short Int z t e = let h = within (2 ^ 31) z e in omega arith
short BigInt z t e = let h = within (2 ^ 63) z e in omega arith
short (Decimal p s) z t e =
    let h = ltb-true (unsigned_abs z) (10 ^ p) e in
    let l : p ≤ 64 = let m = leb-true p 38 (first_true (nat_le p 38) (nat_le s p) (second_true (nat_le 1 p) (nat_le p 38 && nat_le s p) t)) in omega arith in
    let k : 10 ^ p ≤ 10 ^ 64 = pow-le-pow_right (lit< tt) l in
    omega arith
short Texts z t e = absurd (cc)

-- ---- values

text_spells : (t : List ℕ) → IsUtf8 t → TextSpells t (escaped t)
text_spells t h = (
  h,
  elim (begins_with_backslash t) as (λ b. begins_with_backslash t ≡ b → ((begins_with_backslash t ≡ true) × (cond b (92 ∷ t) t ≡ 92 ∷ t)) ⊎ ((begins_with_backslash t ≡ false) × (cond b (92 ∷ t) t ≡ t))) [
    | true ↦ λ e. inl (e, refl)
    | false ↦ λ e. inr (e, refl)
  ] refl,
)

number_of : (ty : Ty) (z : ℤ) → is_type ty ≡ true → in_range ty z ≡ true → (in_range ty z ≡ true) × NumberSpells (scale_of ty) z (number_text (scale_of ty) z)
number_of ty z t e = (e, number_spells (scale_of ty) z (short ty z t e))

pub written : (ty : Ty) (v : Value) → is_type ty ≡ true → value_fits ty v ≡ true → IsText v → Spells ty v (field_text ty v)
written Truths Null t h u = refl
written Int Null t h u = refl
written BigInt Null t h u = refl
written (Decimal p s) Null t h u = refl
written Texts Null t h u = refl
written Truths (Truth true) t h u = inl refl
written Truths (Truth false) t h u = inl refl
written Int (Truth b) t h u = absurd (cc)
written BigInt (Truth b) t h u = absurd (cc)
written (Decimal p s) (Truth b) t h u = absurd (cc)
written Texts (Truth b) t h u = absurd (cc)
written Truths (Num z) t h u = absurd (cc)
written Int (Num z) t h u = number_of Int z t h
written BigInt (Num z) t h u = number_of BigInt z t h
written (Decimal p s) (Num z) t h u = number_of (Decimal p s) z t h
written Texts (Num z) t h u = absurd (cc)
written Truths (Text x) t h u = absurd (cc)
written Int (Text x) t h u = absurd (cc)
written BigInt (Text x) t h u = absurd (cc)
written (Decimal p s) (Text x) t h u = absurd (cc)
written Texts (Text x) t h u = text_spells x u

pub read_back : (ty : Ty) (v : Value) → is_type ty ≡ true → value_fits ty v ≡ true → IsText v → length (field_text ty v) ≤ longest_field → field_value ty (field_text ty v) ≡ Some v
read_back ty v t h u l = field_is_read ty v (field_text ty v) (l, written ty v t h u)
