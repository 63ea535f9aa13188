-- What an expression may be at a row.
use Rattle.std.specs.Prelude.{◌≡◌, true, Option, Some, None}
use Rattle.ct_value.specs.declared.ty.ColTy.{ColTy}
use Rattle.ct_value.specs.declared.value.Value.{Value}
use Rattle.ct_field.specs.Typed.{col_fits}

-- out of range, or a value of the column: NULL only where the column may hold it, and otherwise one of the column's type
abbrev pub IsOf : ColTy → Option Value → Type 0
IsOf column None = Unit {0}
IsOf column (Some value) = col_fits column value ≡ true
