-- Tables given by two lists, and the trees that have an answer over them that can be counted.
use Rattle.std.specs.Prelude.{◌≡◌, true, List, [], ◌∷◌, Some, None, ◌⊎◌}
use Rattle.ct_value.specs.declared.ty.ColTy.{ColTy}
use Rattle.ct_change.specs.Changelog.{Rows}
use Rattle.rel_algebra.specs.Rel.{Rel}
use Rattle.rel_algebra.specs.Answer.{Table, types_in, answer, wide}
use Rattle.rel_algebra.specs.Types.{columns_of}

-- each table's columns with its rows, as far as both lists go
abbrev pub tables_of : List (List ColTy) → List Rows → List Table
tables_of [] rows = []
tables_of (columns ∷ types) [] = []
tables_of (columns ∷ types) (rows ∷ others) = record { columns = columns; rows = rows } ∷ tables_of types others

-- the tree is well-typed over tables with these columns: it has columns
abbrev pub IsTypedOver : List (List ColTy) → Rel → Type 0
IsTypedOver types rel = (columns : List ColTy) × (columns_of types rel ≡ Some columns)

abbrev pub IsTyped : List Table → Rel → Type 0
IsTyped tables rel = IsTypedOver (types_in tables) rel

-- out of range, or the answer of the tree or of one of its parts has 2^64 copies of a row or more
abbrev pub IsOut : List Table → Rel → Type 0
IsOut tables rel = (answer tables rel ≡ None) ⊎ (wide tables rel ≡ true)
