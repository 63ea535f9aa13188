-- Values of columns.
use Rattle.std.proofs.Common.{◌≡◌, suc, Bool, true, false, ◌&&◌, List, [], ◌∷◌, length, refl, ap}
use Rattle.ct_value.specs.declared.ty.ColTy.{ColTy}
use Rattle.ct_value.specs.declared.value.Value.{Value}
use Rattle.ct_field.specs.Typed.{value_fits, col_fits, row_fits}
use Rattle.op_rules.specs.Values.{types_fit}

first : (a b : Bool) → (a && b) ≡ true → a ≡ true
first true b e = refl
first false b e = e

second : (a b : Bool) → (a && b) ≡ true → b ≡ true
second true b e = e
second false b e = absurd (cc (e))

both : (a b : Bool) → a ≡ true → b ≡ true → (a && b) ≡ true
both true b e f = f
both false b e f = absurd (cc (e))

-- as many values as columns
pub types-length : (columns : List ColTy) (row : List Value) → types_fit columns row ≡ true → length row ≡ length columns
types-length [] [] h = refl
types-length [] (value ∷ row) h = absurd (cc (h))
types-length (column ∷ columns) [] h = absurd (cc (h))
types-length (column ∷ columns) (value ∷ row) h = ap suc (types-length columns row (second (value_fits column.ty value) (types_fit columns row) h))

-- a row that has its columns has their types
pub types_of_row : (columns : List ColTy) (row : List Value) → row_fits columns row ≡ true → types_fit columns row ≡ true
types_of_row [] [] h = refl
types_of_row [] (value ∷ row) h = absurd (cc (h))
types_of_row (column ∷ columns) [] h = absurd (cc (h))
types_of_row (column ∷ columns) (value ∷ row) h =
    both (value_fits column.ty value) (types_fit columns row) (first (value_fits column.ty value) _ (first (col_fits column value) (row_fits columns row) h))
    (types_of_row columns row (second (col_fits column value) (row_fits columns row) h))
