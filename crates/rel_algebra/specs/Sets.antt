-- Set operations: the rows of two inputs together, those of the left beyond those of the right, and those that both have.
use Rattle.std.specs.Prelude.{ℕ, ◌+◌, ◌-◌, min, Bool, true, false, ◌&&◌, ◌||◌, List, [], ◌∷◌, Option, Some, None, option_map}
use Rattle.ct_value.specs.Bag.{copies}
use Rattle.ct_value.specs.declared.ty.ColTy.{ColTy}
use Rattle.ct_change.specs.Changelog.{Rows}
use Rattle.ct_expr.specs.Types.{both_of, common_ty}
use Rattle.rel_algebra.specs.declared.sets.SetKind.{SetKind}
use Rattle.rel_algebra.specs.declared.sets.SetKind.TheVariants.{Union, Except, Intersect}
use Rattle.rel_algebra.specs.Sums.{together, thinned}

-- which rows of two inputs there are: all of both, those of the left beyond those of the right, or those of both; with `all` each copy
-- counts, and else each row stands once
pub data SetForm : Type 0 where
  union_all : SetForm
  except_rows : Bool → SetForm
  intersect_rows : Bool → SetForm

abbrev pub set_form : Bool → Bool → SetForm
set_form true all = except_rows all
set_form false all = intersect_rows all

-- ---- rows

-- so many copies, or without `all` one where there are any
abbrev pub counted : Bool → ℕ → ℕ
counted true n = n
counted false n = min 1 n

-- how many copies there are of a row of which the left has m and the right n; NULL counts as equal to NULL
abbrev pub set_copies : SetForm → ℕ → ℕ → ℕ
set_copies union_all m n = m + n
set_copies (except_rows all) m n = counted all m - n
set_copies (intersect_rows all) m n = min (counted all m) n

-- of each row of the left so many copies as the operation leaves
abbrev pub left_over : SetForm → Rows → Rows → Rows
left_over form left right = thinned (λ row. set_copies form (copies left row) (copies right row)) left

abbrev pub set_rows : SetForm → Rows → Rows → Rows
set_rows union_all left right = together left right
set_rows (except_rows all) left right = left_over (except_rows all) left right
set_rows (intersect_rows all) left right = left_over (intersect_rows all) left right

-- ---- columns

-- NULL may stand in a row of either where it may in one of them, in a row of the left that isn't on the right where it may on the left, and
-- in one of both where it may on both
abbrev pub set_nullable : SetKind → ColTy → ColTy → Bool
set_nullable Union left right = left.nullable || right.nullable
set_nullable Except left right = left.nullable
set_nullable Intersect left right = left.nullable && right.nullable

-- a column of two: their common type
abbrev pub set_column : SetKind → ColTy → ColTy → Option ColTy
set_column kind left right = option_map (λ ty. record { ty = ty; nullable = set_nullable kind left right }) (common_ty left.ty right.ty)

-- column by column, equally many
abbrev pub set_columns : SetKind → List ColTy → List ColTy → Option (List ColTy)
set_columns kind [] [] = Some []
set_columns kind [] (right ∷ rights) = None
set_columns kind (left ∷ lefts) [] = None
set_columns kind (left ∷ lefts) (right ∷ rights) = both_of (λ column columns. Some (column ∷ columns)) (set_column kind left right) (set_columns kind lefts rights)

abbrev pub set_kind : Bool → SetKind
set_kind true = Except
set_kind false = Intersect
