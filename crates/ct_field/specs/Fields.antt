-- The texts of fields: the value that a text spells, and the one text in which a value is written.
use Rattle.std.specs.Prelude.{ℕ, zero, suc, ◌+◌, ◌*◌, ◌-◌, ◌/◌, ◌%◌, ◌^◌, ◌==◌, nat_lt, nat_le, ℤ, unsigned_abs, Bool, true, false, ◌&&◌, ◌||◌, cond, List, [], ◌∷◌, ◌++◌, length, take, drop, position, slice_index, codes, Option, Some, None, option_map, option_and_then}
use Rattle.std.specs.List.{list_all}
use Rattle.std.specs.Char.{is_ascii_digit}
use Rattle.std.specs.Str.{is_utf8, bytes_eq}
use Rattle.std.specs.Str.Parse.{digits_value, starts_with_minus, without_leading_sign}
use Rattle.std.specs.Fmt.{decimal}
use Rattle.std.specs.Int.{is_negative}
use Rattle.ct_value.specs.declared.ty.Ty.{Ty}
use Rattle.ct_value.specs.declared.ty.Ty.TheVariants.{Bool as Truths, Decimal, Text as Texts}
use Rattle.ct_value.specs.declared.value.Value.{Value}
use Rattle.ct_value.specs.declared.value.Value.TheVariants.{Null, Bool as Truth, Num, Text}
use Rattle.ct_field.specs.Numbers.{in_range, signed}

-- the decimals of a type's numbers
abbrev pub scale_of : Ty → ℕ
scale_of (Decimal p s) = s
scale_of _ = 0

-- ---- numbers that a text spells

-- the number of one digit or more
abbrev pub digits_spelled : List ℕ → Option ℕ
digits_spelled ds = cond (nat_lt 0 (length ds) && list_all is_ascii_digit ds) (Some (digits_value 10 ds)) None

-- and with so many zeros behind it
abbrev pub scaled : ℕ → List ℕ → Option ℕ
scaled zeros ds = option_map (λ n. n * 10 ^ zeros) (digits_spelled ds)

abbrev pub sum_of : Option ℕ → Option ℕ → Option ℕ
sum_of (Some n) (Some m) = Some (n + m)
sum_of _ _ = None

-- digits, a point and at most s digits: the number at scale s
abbrev pub pointed : ℕ → List ℕ → List ℕ → Option ℕ
pointed s whole fraction = cond (nat_le (length fraction) s) (sum_of (scaled s whole) (scaled (s - length fraction) fraction)) None

abbrev pub is_point : ℕ → Bool
is_point byte = byte == 46

abbrev pub at_point : ℕ → List ℕ → Option ℕ → Option ℕ
at_point s bs None = scaled s bs
at_point s bs (Some at) = pointed s (take at bs) (drop (at + 1) bs)

-- a number without a sign, at scale s
abbrev pub unsigned_spelled : ℕ → List ℕ → Option ℕ
unsigned_spelled s bs = at_point s bs (position is_point bs)

-- a number with a sign or without, at scale s
abbrev pub number_spelled : ℕ → List ℕ → Option ℤ
number_spelled s bs = option_map (signed (starts_with_minus bs)) (unsigned_spelled s (without_leading_sign bs))

-- and it is one of the type
abbrev pub number_of_type : Ty → List ℕ → Option ℤ
number_of_type ty bs = option_and_then (λ n. cond (in_range ty n) (Some n) None) (number_spelled (scale_of ty) bs)

-- ---- values that a text spells

abbrev pub truth_spelled : List ℕ → Option Bool
truth_spelled bs = cond (bytes_eq bs (codes "TRUE") || bytes_eq bs (codes "true")) (Some true)
    (cond (bytes_eq bs (codes "FALSE") || bytes_eq bs (codes "false")) (Some false) None)

abbrev pub begins_with_backslash : List ℕ → Bool
begins_with_backslash bs = slice_index bs 0 == 92

-- a text that begins with a backslash is written with one more in front
abbrev pub unescaped : List ℕ → Option (List ℕ)
unescaped bs = cond (begins_with_backslash bs) (cond (begins_with_backslash (drop 1 bs)) (Some (drop 1 bs)) None) (Some bs)

abbrev pub text_spelled : List ℕ → Option (List ℕ)
text_spelled bs = option_and_then (λ t. cond (is_utf8 t) (Some t) None) (unescaped bs)

abbrev pub value_spelled : Ty → List ℕ → Option Value
value_spelled Truths bs = option_map Truth (truth_spelled bs)
value_spelled Texts bs = option_map Text (text_spelled bs)
value_spelled ty bs = option_map Num (number_of_type ty bs)

-- the most bytes of a field that is read
abbrev pub longest_field : ℕ
longest_field = 65536

-- the value of a field of a type, and none where its text is too long or spells no value of the type
abbrev pub field_value : Ty → List ℕ → Option Value
field_value ty bs = cond (nat_lt longest_field (length bs)) None
    (cond (bytes_eq bs (codes "\\N")) (Some Null) (value_spelled ty bs))

-- ---- the one text of a value

-- the last k decimal digits of a number
abbrev pub last_digits : ℕ → ℕ → List ℕ
last_digits zero n = []
last_digits (suc k) n = last_digits k (n / 10) ++ (48 + n % 10) ∷ []

abbrev pub unsigned_text : ℕ → ℕ → List ℕ
unsigned_text s n = cond (s == 0) (decimal n) (decimal (n / 10 ^ s) ++ 46 ∷ last_digits s n)

abbrev pub sign_text : ℤ → List ℕ
sign_text n = cond (is_negative n) (45 ∷ []) []

-- no plus sign, no leading zeros, no -0, exactly s decimals
abbrev pub number_text : ℕ → ℤ → List ℕ
number_text s n = sign_text n ++ unsigned_text s (unsigned_abs n)

abbrev pub escaped : List ℕ → List ℕ
escaped t = cond (begins_with_backslash t) (92 ∷ t) t

-- the field text of a value of a type
abbrev pub field_text : Ty → Value → List ℕ
field_text ty Null = codes "\\N"
field_text ty (Truth false) = codes "FALSE"
field_text ty (Truth true) = codes "TRUE"
field_text ty (Num n) = number_text (scale_of ty) n
field_text ty (Text t) = escaped t
