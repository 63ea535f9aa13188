-- The abbreviation of a row: the first digits of a spelling of its values that stands in the order of rows. Of two rows that differ in it
-- the one with the less stands first (memcomparable keys).
use Rattle.std.specs.Prelude.{ℕ, ℤ, pos, negsuc, zero, suc, ◌+◌, ◌-◌, ◌*◌, ◌/◌, ◌%◌, ◌^◌, min, List, [], ◌∷◌, ◌++◌, true, false, cond, ltb, replicate}
use Rattle.std.specs.List.{fold}
use Rattle.ct_value.specs.declared.value.Value.{Value}
use Rattle.ct_value.specs.declared.value.Value.TheVariants.{Null, Bool as Truth, Num, Text}

-- the first k digits, with zeros behind the last
abbrev pub first_digits : ℕ → List ℕ → List ℕ
first_digits zero digits = []
first_digits (suc k) [] = 0 ∷ first_digits k []
first_digits (suc k) (digit ∷ digits) = digit ∷ first_digits k digits

-- the number with these digits to the base 256, the highest first, behind those of another number
abbrev pub number_onto : ℕ → List ℕ → ℕ
number_onto = fold (λ number digit. number * 256 + digit)

-- what a digit counts that has k behind it
abbrev pub unit : ℕ → ℕ
unit zero = 1
unit (suc k) = unit k * 256

-- the last k digits of a number
abbrev pub digits_of : ℕ → ℕ → List ℕ
digits_of zero n = []
digits_of (suc k) n = n / unit k % 256 ∷ digits_of k n

-- the place of a number between -2^55 and 2^55, with all beyond at the ends
abbrev pub place : ℤ → ℕ
place (pos n) = 2 ^ 55 + min n (2 ^ 55 - 1)
place (negsuc n) = 2 ^ 55 - min (n + 1) (2 ^ 55)

-- eight digits, the first of them 5 or 70; but the numbers from -4096 to 4095 have two, the first of them between 32 and 63
abbrev pub place_digits : ℕ → List ℕ
place_digits p = cond (ltb p (2 ^ 55 - 4096)) (5 ∷ digits_of 7 p)
    (cond (ltb p (2 ^ 55 + 4096)) (digits_of 2 (p - (2 ^ 55 - 4096) + 8192)) (70 ∷ digits_of 7 p))

-- each byte of a text one higher, and a zero behind the last; what is no byte of a text fills all that follows
abbrev pub text_digits : List ℕ → List ℕ
text_digits [] = 0 ∷ []
text_digits (byte ∷ text) = cond (ltb byte 254) ((byte + 1) ∷ text_digits text) (replicate 8 255)

-- the first digit tells the kind of value
abbrev pub value_digits : Value → List ℕ
value_digits Null = 1 ∷ []
value_digits (Truth false) = 2 ∷ []
value_digits (Truth true) = 3 ∷ []
value_digits (Num n) = place_digits (place n)
value_digits (Text text) = 128 ∷ text_digits text

-- value by value
abbrev pub row_digits : List Value → List ℕ
row_digits [] = []
row_digits (value ∷ values) = value_digits value ++ row_digits values

abbrev pub row_abbreviation : List Value → ℕ
row_abbreviation values = number_onto 0 (first_digits 8 (row_digits values))

-- that of the row of this value alone
abbrev pub value_abbreviation : Value → ℕ
value_abbreviation value = row_abbreviation (value ∷ [])
