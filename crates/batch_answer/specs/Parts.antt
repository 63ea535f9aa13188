-- What the parts of a tree are answered with.
use Rattle.std.specs.Prelude.{◌≡◌, ◌<◌, ◌^◌, false, List, Option, Some, None}
use Rattle.ct_value.specs.Bag.{copies}
use Rattle.ct_value.specs.declared.row.Row.{Row}
use Rattle.ct_value.specs.declared.ty.ColTy.{ColTy}
use Rattle.ct_change.specs.Changelog.{Rows}
use Rattle.rel_algebra.specs.Rel.{Rel}
use Rattle.rel_algebra.specs.Answer.{Table, types_in, answer, wide}
use Rattle.rel_algebra.specs.Types.{columns_of, common_columns}
use Rattle.batch_answer.specs.Tables.{IsTyped, IsOut}

-- no row has 2^64 copies
abbrev pub IsFew : Rows → Type 0
IsFew rows = (row : Row) → copies rows row < 2 ^ 64

-- these are the columns and the rows of the tree, and no part of it is out of reach
pub record IsPart (tables : List Table) (rel : Rel) (columns : List ColTy) (rows : Rows) : Type 0 where
  pub typed : columns_of (types_in tables) rel ≡ Some columns
  pub answered : answer tables rel ≡ Some rows
  pub narrow : wide tables rel ≡ false

-- the same, where the tree is well-typed
abbrev pub IsAnswered : List Table → Rel → List ColTy → Rows → Type 0
IsAnswered tables rel columns rows = IsTyped tables rel → IsPart tables rel columns rows

-- it is out, where it is well-typed
abbrev pub IsLost : List Table → Rel → Type 0
IsLost tables rel = IsTyped tables rel → IsOut tables rel

-- over each tree with these columns and rows, a node is answered with those
abbrev pub Makes : (Rel → Rel) → List ColTy → Rows → List ColTy → Rows → Type 0
Makes node columns rows made_columns made_rows =
    (tables : List Table) (rel : Rel) → IsAnswered tables rel columns rows → IsAnswered tables (node rel) made_columns made_rows

-- over each tree with these columns and rows, a node is out
abbrev pub IsOutOver : (Rel → Rel) → List ColTy → Rows → Type 0
IsOutOver node columns rows = (tables : List Table) (rel : Rel) → IsAnswered tables rel columns rows → IsLost tables (node rel)

-- the same of a node over two trees
abbrev pub MakesOfTwo : (Rel → Rel → Rel) → List ColTy → Rows → List ColTy → Rows → List ColTy → Rows → Type 0
MakesOfTwo node left_columns left right_columns right made_columns made_rows =
    (tables : List Table) (rel other : Rel) → IsAnswered tables rel left_columns left → IsAnswered tables other right_columns right → IsAnswered tables (node rel other) made_columns made_rows

abbrev pub IsOutOverTwo : (Rel → Rel → Rel) → List ColTy → Rows → List ColTy → Rows → Type 0
IsOutOverTwo node left_columns left right_columns right =
    (tables : List Table) (rel other : Rel) → IsAnswered tables rel left_columns left → IsAnswered tables other right_columns right → IsLost tables (node rel other)

-- the common columns so far, with those of one input more
abbrev pub begun : Option (List ColTy) → List ColTy → Option (List ColTy)
begun None columns = Some columns
begun (Some others) columns = common_columns others columns
