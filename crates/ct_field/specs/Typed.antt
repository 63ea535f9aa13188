-- Rows and their columns, and values of types.
use Rattle.std.specs.Prelude.{ℕ, Bool, true, false, not, ◌||◌, ◌&&◌, List, [], ◌∷◌, slice_index_or}
use Rattle.ct_value.specs.declared.ty.Ty.{Ty}
use Rattle.ct_value.specs.declared.ty.Ty.TheVariants.{Bool as Truths, Int, BigInt, Decimal, Text as Texts}
use Rattle.ct_value.specs.declared.ty.ColTy.{ColTy}
use Rattle.ct_value.specs.declared.value.Value.{Value}
use Rattle.ct_value.specs.declared.value.Value.TheVariants.{Null, Bool as Truth, Num, Text}
use Rattle.ct_field.specs.Numbers.{in_range}

abbrev pub is_number : Ty → Bool
is_number Int = true
is_number BigInt = true
is_number (Decimal p s) = true
is_number _ = false

abbrev pub is_truths : Ty → Bool
is_truths Truths = true
is_truths _ = false

-- whether a value is NULL or of a type
abbrev pub value_fits : Ty → Value → Bool
value_fits ty Null = true
value_fits Truths (Truth b) = true
value_fits Texts (Text t) = true
value_fits ty (Num n) = in_range ty n
value_fits _ _ = false

abbrev pub is_null : Value → Bool
is_null Null = true
is_null _ = false

-- of the column's type, and NULL only where the column may hold it
abbrev pub col_fits : ColTy → Value → Bool
col_fits col v = value_fits col.ty v && (col.nullable || not (is_null v))

-- as many values as columns, each of its column's type
abbrev pub row_fits : List ColTy → List Value → Bool
row_fits [] [] = true
row_fits (col ∷ cols) (v ∷ vs) = col_fits col v && row_fits cols vs
row_fits _ _ = false

-- the value of a column
abbrev pub cell : ℕ → List Value → Value
cell n row = slice_index_or row n Null

-- neither FALSE nor NULL
abbrev pub is_true : Value → Bool
is_true (Truth true) = true
is_true v = false
