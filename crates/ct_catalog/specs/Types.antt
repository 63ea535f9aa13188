-- What the names of types mean.
use Rattle.std.specs.Prelude.{ℕ, Bool, ◌&&◌, ◌||◌, nat_le, List, [], ◌∷◌, Option, Some, None, if◌then◌else◌, codes}
use Rattle.std.specs.Str.{str_eq_ignore_ascii_case}
use Rattle.ct_value.specs.declared.ty.Ty.{Ty}
use Rattle.ct_value.specs.declared.ty.Ty.TheVariants.{Bool as Boolean, Int, BigInt, Decimal, Text as String}
use Rattle.sql_syntax.specs.declared.statement.TypeName.{TypeName}
use Rattle.sql_syntax.specs.Tree as t
use Rattle.ct_catalog.specs.Numbers.{number_up_to}

-- 1 to 38 digits, of which no more than all stand behind the point
abbrev pub decimal : Option ℕ → Option ℕ → Option Ty
decimal None s = None
decimal (Some p) None = None
decimal (Some p) (Some s) = if nat_le 1 p && nat_le s p then Some (Decimal p s) else None

abbrev pub decimal_of : List t.Text → Option Ty
decimal_of [] = Some (Decimal 10 0)
decimal_of (p ∷ []) = decimal (number_up_to 38 p) (Some 0)
decimal_of (p ∷ s ∷ []) = decimal (number_up_to 38 p) (number_up_to 38 s)
decimal_of (p ∷ s ∷ r ∷ rest) = None

abbrev pub is_decimal : t.Text → Bool
is_decimal name = str_eq_ignore_ascii_case name (codes "DECIMAL") || str_eq_ignore_ascii_case name (codes "DEC") || str_eq_ignore_ascii_case name (codes "NUMERIC")

-- the type of a name that takes no numbers
abbrev pub plain_of : t.Text → Option Ty
plain_of name =
    if str_eq_ignore_ascii_case name (codes "BOOLEAN") then Some Boolean
    else (if str_eq_ignore_ascii_case name (codes "INT") then Some Int
    else (if str_eq_ignore_ascii_case name (codes "INTEGER") then Some Int
    else (if str_eq_ignore_ascii_case name (codes "BIGINT") then Some BigInt
    else (if str_eq_ignore_ascii_case name (codes "STRING") then Some String
    else None))))

abbrev pub without_numbers : List t.Text → Option Ty → Option Ty
without_numbers [] ty = ty
without_numbers (n ∷ ns) ty = None

-- the type of this name and these numbers, if there is one
abbrev pub type_of : TypeName → Option Ty
type_of x = if is_decimal x.name then decimal_of x.numbers else without_numbers x.numbers (plain_of x.name)
