-- Values of columns, where nothing is asked of NULL: so a row fits a port.
use Rattle.std.specs.Prelude.{Bool, true, false, ◌&&◌, List, [], ◌∷◌, map}
use Rattle.ct_value.specs.declared.ty.Ty.{Ty}
use Rattle.ct_value.specs.declared.ty.ColTy.{ColTy}
use Rattle.ct_value.specs.declared.value.Value.{Value}
use Rattle.ct_field.specs.Typed.{value_fits}

-- as many values as types, each NULL or of its type
abbrev pub values_fit : List Ty → List Value → Bool
values_fit [] [] = true
values_fit (ty ∷ tys) (value ∷ values) = value_fits ty value && values_fit tys values
values_fit _ _ = false

-- the same for columns, whether NULL may stand in them or not
abbrev pub types_fit : List ColTy → List Value → Bool
types_fit columns row = values_fit (map (λ column. column.ty) columns) row
