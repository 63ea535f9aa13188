-- Which bytes spell a value of a type.
use Rattle.std.specs.Prelude.{◌≡◌, ℕ, ◌+◌, ◌*◌, ◌-◌, ◌^◌, ◌<◌, ◌≤◌, ℤ, Bool, true, false, List, [], ◌∷◌, ◌++◌, length, codes, ◌⊎◌}
use Rattle.std.specs.List.{list_all}
use Rattle.std.specs.Char.{is_ascii_digit}
use Rattle.std.specs.Str.{IsUtf8}
use Rattle.std.specs.Str.Parse.{digits_value}
use Rattle.ct_value.specs.declared.ty.Ty.{Ty}
use Rattle.ct_value.specs.declared.ty.Ty.TheVariants.{Bool as Truths, Text as Texts}
use Rattle.ct_value.specs.declared.value.Value.{Value}
use Rattle.ct_value.specs.declared.value.Value.TheVariants.{Null, Bool as Truth, Num, Text}
use Rattle.ct_field.specs.Numbers.{in_range, signed}
use Rattle.ct_field.specs.Fields.{scale_of, begins_with_backslash}

-- one digit or more
abbrev pub IsDigits : List ℕ → Type 0
IsDigits ds = (0 < length ds) × (list_all is_ascii_digit ds ≡ true)

-- a minus where the number is negative, and else nothing or a plus
abbrev pub IsSign : Bool → List ℕ → Type 0
IsSign true sign = sign ≡ codes "-"
IsSign false sign = (sign ≡ []) ⊎ (sign ≡ codes "+")

-- digits alone: the number with s zeros behind it
abbrev pub WholeSpells : ℕ → ℕ → List ℕ → Type 0
WholeSpells s n bs = IsDigits bs × (n ≡ digits_value 10 bs * 10 ^ s)

-- digits, a point and at most s digits: both numbers at scale s
abbrev pub PointSpells : ℕ → ℕ → List ℕ → Type 0
PointSpells s n bs = (whole : List ℕ) × (fraction : List ℕ) × (bs ≡ whole ++ 46 ∷ fraction) × IsDigits whole × IsDigits fraction × (length fraction ≤ s)
    × (n ≡ digits_value 10 whole * 10 ^ s + digits_value 10 fraction * 10 ^ (s - length fraction))

-- an optional sign, and a number of at most s decimals, at scale s
abbrev pub NumberSpells : ℕ → ℤ → List ℕ → Type 0
NumberSpells s z bs = (negative : Bool) × (n : ℕ) × (sign : List ℕ) × (digits : List ℕ) × (bs ≡ sign ++ digits) × IsSign negative sign × (WholeSpells s n digits ⊎ PointSpells s n digits) × (z ≡ signed negative n)

abbrev pub TruthSpells : Bool → List ℕ → Type 0
TruthSpells true bs = (bs ≡ codes "TRUE") ⊎ (bs ≡ codes "true")
TruthSpells false bs = (bs ≡ codes "FALSE") ⊎ (bs ≡ codes "false")

-- a text that begins with a backslash has one more in front; another stands as it is
abbrev pub TextSpells : List ℕ → List ℕ → Type 0
TextSpells t bs = IsUtf8 t × (((begins_with_backslash t ≡ true) × (bs ≡ 92 ∷ t)) ⊎ ((begins_with_backslash t ≡ false) × (bs ≡ t)))

-- of a number of the type; NULL is spelled alike in every type
abbrev pub Spells : Ty → Value → List ℕ → Type 0
Spells ty Null bs = bs ≡ codes "\\N"
Spells Truths (Truth b) bs = TruthSpells b bs
Spells Texts (Text t) bs = TextSpells t bs
Spells ty (Num z) bs = (in_range ty z ≡ true) × NumberSpells (scale_of ty) z bs
Spells _ _ bs = ⊥

-- a text is in UTF-8
abbrev pub IsText : Value → Type 0
IsText (Text t) = IsUtf8 t
IsText v = Unit {0}
