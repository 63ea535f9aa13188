-- Filter, Project and Union: functions from bags, and from what their expressions are at a row, to a bag or out of range.
use Rattle.std.specs.Prelude.{◌≡◌, Bool, true, List, [], ◌∷◌, map, Option, Some, None, option_map}
use Rattle.ct_value.specs.Bag.{none}
use Rattle.ct_value.specs.declared.row.Row.{Row}
use Rattle.ct_value.specs.declared.ty.ColTy.{ColTy}
use Rattle.ct_value.specs.declared.value.Value.{Value}
use Rattle.ct_change.specs.Changelog.{Rows}
use Rattle.ct_field.specs.Typed.{is_true, col_fits, row_fits}
use Rattle.rel_algebra.specs.Sums.{one, kept, together, sum_over}

-- what an expression is at each row: a value, or out of range
abbrev pub Meaning : Type 0
Meaning = Row → Option Value

-- whether a condition is TRUE at a row
abbrev pub holds : Meaning → Row → Option Bool
holds condition row = option_map is_true (condition row)

-- all of the values, where none is out of range
abbrev pub collect : List (Option Value) → Option Row
collect [] = Some []
collect (None ∷ others) = None
collect (Some value ∷ others) = option_map (λ values. value ∷ values) (collect others)

-- the rows that pass a test
abbrev pub rows_where : (Row → Option Bool) → Rows → Option Rows
rows_where test rows = sum_over (λ row. option_map (λ passes. kept passes row) (test row)) rows

-- the rows on which the condition is TRUE; it is evaluated on every row
abbrev pub filter_rows : Meaning → Rows → Option Rows
filter_rows condition rows = rows_where (holds condition) rows

-- the items' values at a row; every item is evaluated
abbrev pub row_of : List Meaning → Row → Option Row
row_of meanings row = collect (map (λ meaning. meaning row) meanings)

-- at every row, the row of the items' values
abbrev pub project_rows : List Meaning → Rows → Option Rows
project_rows meanings rows = sum_over (λ row. option_map one (row_of meanings row)) rows

-- the rows of all inputs, each copy by itself
abbrev pub union_rows : List Rows → Rows
union_rows [] = none
union_rows (rows ∷ others) = together rows (union_rows others)

-- the row has these columns
abbrev pub Fits : List ColTy → Row → Type 0
Fits columns row = row_fits columns row ≡ true

-- where the row has these columns, each meaning's value is of its own column
abbrev pub MeanTypes : List ColTy → List Meaning → List ColTy → Type 0
MeanTypes columns [] [] = Unit {0}
MeanTypes columns [] (made ∷ others) = ⊥
MeanTypes columns (meaning ∷ meanings) [] = ⊥
MeanTypes columns (meaning ∷ meanings) (made ∷ others) = ((row : Row) (value : Value) → Fits columns row → meaning row ≡ Some value → col_fits made value ≡ true) × MeanTypes columns meanings others
