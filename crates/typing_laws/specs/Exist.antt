-- That the types of columns exist.
use Rattle.std.specs.Prelude.{◌≡◌, true, List}
use Rattle.std.specs.List.{AllByRecursion}
use Rattle.ct_value.specs.declared.ty.ColTy.{ColTy}
use Rattle.ct_field.specs.Numbers.{is_type}

-- a decimal has 1 to 38 digits, no more of them behind the point than all
abbrev pub Exist : List ColTy → Type 0
Exist columns = AllByRecursion (λ column. is_type column.ty ≡ true) columns
