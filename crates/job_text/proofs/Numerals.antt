-- Numbers as order files write them.
use Rattle.std.proofs.Common.{◌≡◌, ◌∙◌, ◌<◌, ◌≤◌, ◌≢◌, ◌==◌, ◌&&◌, ◌^◌, ℕ, Bool, true, false, List, [], ◌∷◌, length, get_or, Some, None, Result, Ok, Err, refl, sym, ap, subst, arith, inl, inr}
use Rattle.std.specs.Prelude.{OkIff, not, nat_le, if◌then◌else◌}
use Rattle.std.specs.Char.{is_ascii_digit}
use Rattle.std.specs.Fmt.{decimal}
use Rattle.std.specs.Result.{result_ok}
use Rattle.std.specs.Str.{IsUtf8, all_ascii_digits}
use Rattle.std.specs.Str.Parse.{ParsesUnsigned, digits_value}
use Rattle.std.proofs.lemmas.Bool.{and_from, and_parts, cases_order, eqb-false, le-leb, leb-true, ne_eqb, not-true, not_from_false, or_parts}
use Rattle.std.proofs.lemmas.Fmt.{IsAscii-from_digits, decimal-digits_value, decimal_digit, decimal_nonempty, digits_decimal, digits_value-decimal, first_decimal}
use Rattle.std.proofs.lemmas.Str.{IsUtf8-from_ascii}
use Rattle.std.proofs.lemmas.Str.Parse.{IsNumeralModel, numerals_by_value, parse_plain, tells_all_ascii_digits}
use Rattle.job_text.specs.Cuts.{is_padded}
use Rattle.job_text.specs.Orders.{is_numeral, number_of}

own : IsNumeralModel (λ ds. all_ascii_digits ds ≡ true) (digits_value 10)
own = numerals_by_value (λ ds. all_ascii_digits ds ≡ true) tells_all_ascii_digits

-- ---- numerals

-- digits, of which the first is no zero before others
record IsPlain (word : List ℕ) : Type 0 where
  digits : all_ascii_digits word ≡ true
  some : 0 < length word
  short : get_or word 0 0 ≡ 48 → length word ≡ 1

numeral_parts : (word : List ℕ) → is_numeral word ≡ true → IsPlain word
numeral_parts [] is = absurd (cc (is))
numeral_parts (digit ∷ []) is = record { digits = and_from (is_ascii_digit digit) true is refl; some = omega arith; short = λ zero_first. refl }
numeral_parts (digit ∷ next ∷ digits) is =
    let both = and_parts (not (digit == 48)) (all_ascii_digits (digit ∷ next ∷ digits)) is in
    let apart = eqb-false digit 48 (not-true (digit == 48) both.0) in
    record { digits = both.1; some = omega arith; short = λ zero_first. absurd (apart zero_first) }

numeral_from : (word : List ℕ) → IsPlain word → is_numeral word ≡ true
numeral_from [] plain = let some = plain.some in absurd (omega arith)
numeral_from (digit ∷ []) plain = (and_parts (is_ascii_digit digit) true plain.digits).0
numeral_from (digit ∷ next ∷ digits) plain =
    let apart : digit ≡ 48 → ⊥ = λ same. let one = plain.short same in absurd (omega (arith, one)) in
    and_from (not (digit == 48)) (all_ascii_digits (digit ∷ next ∷ digits)) (not_from_false (digit == 48) (ne_eqb digit 48 apart)) plain.digits

-- ---- the number of a word

is_given : (b : Bool) (n m : ℕ) → (if b then Some n else None) ≡ Some m → (b ≡ true) × (n ≡ m)
is_given true n m e = (refl, cc (e))
is_given false n m e = absurd (cc (e))

-- a word that spells a number is its text
pub number_text : (word : List ℕ) (number : ℕ) → number_of word ≡ Some number → (word ≡ decimal number) × (number ≤ 4294967295)
number_text word number e =
    let given = is_given (is_numeral word && nat_le (digits_value 10 word) 4294967295) (digits_value 10 word) number e in
    let both = and_parts (is_numeral word) (nat_le (digits_value 10 word) 4294967295) given.0 in
    let plain = numeral_parts word both.0 in
    let few : digits_value 10 word ≤ 4294967295 = leb-true (digits_value 10 word) 4294967295 both.1 in
    let small : digits_value 10 word < 2 ^ 64 = omega (arith, few) in
    let text : decimal (digits_value 10 word) ≡ word = decimal-digits_value own word plain.digits plain.some plain.short small in
    let same = given.1 in
    (sym text ∙ ap decimal same, subst (λ n. n ≤ 4294967295) same few)

-- the text of a number has no leading zero
decimal_short : (number : ℕ) → number < 2 ^ 64 → get_or (decimal number) 0 0 ≡ 48 → length (decimal number) ≡ 1
decimal_short number small first = elim (cases_order number 0) [
  | inl none ↦ ap (λ n. length (decimal n)) none ∙ ap length (decimal_digit 0 (omega arith))
  | inr (inl below) ↦ absurd (omega (arith, below))
  | inr (inr above) ↦ let later = first_decimal number above small in absurd (omega (arith, later, first))
]

-- the text of a number spells it
pub text_number : (number : ℕ) → number ≤ 4294967295 → number_of (decimal number) ≡ Some number
text_number number few =
    let small : number < 2 ^ 64 = omega (arith, few) in
    let value : digits_value 10 (decimal number) ≡ number = digits_value-decimal own number small in
    let plain : IsPlain (decimal number) = record { digits = digits_decimal own number small; some = decimal_nonempty number small; short = decimal_short number small } in
    let within : nat_le (digits_value 10 (decimal number)) 4294967295 ≡ true = le-leb (digits_value 10 (decimal number)) 4294967295 (omega (arith, few, value)) in
    let tested = and_from (is_numeral (decimal number)) (nat_le (digits_value 10 (decimal number)) 4294967295) (numeral_from (decimal number) plain) within in
    rw tested (ap Some value)

-- ---- how a word is read

not_plus : (word : List ℕ) → is_padded word ≡ false → get_or word 0 0 ≢ 43
not_plus [] is same = absurd (cc (same))
not_plus (first ∷ []) is same = eqb-false first 43 is same
not_plus (first ∷ next ∷ bytes) is same = eqb-false first 43 (or_parts (first == 43) (first == 48) is).0 same

not_long : (word : List ℕ) → is_padded word ≡ false → 0 < length word → get_or word 0 0 ≡ 48 → length word ≡ 1
not_long [] is some first = absurd (omega (arith, some))
not_long (digit ∷ []) is some first = refl
not_long (digit ∷ next ∷ bytes) is some first = absurd (eqb-false digit 48 (or_parts (digit == 43) (digit == 48) is).1 first)

no_number : (word : List ℕ) → is_numeral word ≡ false → number_of word ≡ None
no_number word is = rw is refl

-- a word of other bytes spells none
pub bytes_none : (word : List ℕ) → (IsUtf8 word → ⊥) → number_of word ≡ None
bytes_none word none = by (is_numeral word) refl
  where
    by : (b : Bool) → is_numeral word ≡ b → number_of word ≡ None
    by true is = absurd (none (IsUtf8-from_ascii word (IsAscii-from_digits word (own.to word (numeral_parts word is).digits))))
    by false is = no_number word is

abbrev pub IsRead : List ℕ → Type 0
IsRead word = (all_ascii_digits word ≡ true) × (0 < length word) × (digits_value 10 word < 2 ^ 32)

read_number : {E : Type 0} (word : List ℕ) (r : Result ℕ E) → is_padded word ≡ false → OkIff r (IsRead word) (digits_value 10 word) → result_ok r ≡ number_of word
read_number word (Ok number) plain (read, same) =
    let few : digits_value 10 word ≤ 4294967295 = omega (arith, read.2) in
    let numeral = numeral_from word (record { digits = read.0; some = read.1; short = not_long word plain read.1 }) in
    let tested = and_from (is_numeral word) (nat_le (digits_value 10 word) 4294967295) numeral (le-leb (digits_value 10 word) 4294967295 few) in
    rw tested (ap Some same)
read_number word (Err fault) plain unread = by (is_numeral word && nat_le (digits_value 10 word) 4294967295) refl
  where
    by : (b : Bool) → (is_numeral word && nat_le (digits_value 10 word) 4294967295) ≡ b → None ≡ (if b then Some (digits_value 10 word) else None)
    by true is =
        let both = and_parts (is_numeral word) (nat_le (digits_value 10 word) 4294967295) is in
        let parts = numeral_parts word both.0 in
        let few : digits_value 10 word ≤ 4294967295 = leb-true (digits_value 10 word) 4294967295 both.1 in
        absurd (unread (parts.digits, parts.some, (let small : digits_value 10 word < 2 ^ 32 = omega (arith, few) in small)))
    by false is = refl

-- what the parse of a word without a sign or a leading zero gives
pub number_read : {E : Type 0} (word : List ℕ) (r : Result ℕ E) → is_padded word ≡ false → ParsesUnsigned 32 10 word r → result_ok r ≡ number_of word
number_read word r plain parsed = read_number word r plain (parse_plain own 32 word r parsed (not_plus word plain))
