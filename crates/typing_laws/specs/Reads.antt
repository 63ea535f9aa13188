-- The columns that an expression reads.
use Rattle.std.specs.Prelude.{ℕ, List, [], ◌∷◌, ◌++◌}
use Rattle.ct_expr.specs.Expr.{Expr, Exprs, Whens, OptionalExpr, Column, Literal, Neg, Arith, Compare, And, Or, Not, IsNull, InList, Case, Coalesce, NullIf, Cast, Concat, CharLength, Like, no_exprs, expr_and, no_whens, when_and, no_expr, some_expr}

abbrev mutual
  pub columns_read : Expr → List ℕ
  columns_read (Column n ty) = n ∷ []
  columns_read (Literal v ty) = []
  columns_read (Neg x) = columns_read x
  columns_read (Arith op x y) = columns_read x ++ columns_read y
  columns_read (Compare op x y) = columns_read x ++ columns_read y
  columns_read (And xs) = read_by_all xs
  columns_read (Or xs) = read_by_all xs
  columns_read (Not x) = columns_read x
  columns_read (IsNull x) = columns_read x
  columns_read (InList x xs) = columns_read x ++ read_by_all xs
  columns_read (Case ws o) = read_by_branches ws ++ read_by_else o
  columns_read (Coalesce xs) = read_by_all xs
  columns_read (NullIf x y) = columns_read x ++ columns_read y
  columns_read (Cast x ty) = columns_read x
  columns_read (Concat x y) = columns_read x ++ columns_read y
  columns_read (CharLength x) = columns_read x
  columns_read (Like x y) = columns_read x ++ columns_read y

  pub read_by_all : Exprs → List ℕ
  read_by_all no_exprs = []
  read_by_all (expr_and x xs) = columns_read x ++ read_by_all xs

  pub read_by_branches : Whens → List ℕ
  read_by_branches no_whens = []
  read_by_branches (when_and x y ws) = (columns_read x ++ columns_read y) ++ read_by_branches ws

  pub read_by_else : OptionalExpr → List ℕ
  read_by_else no_expr = []
  read_by_else (some_expr x) = columns_read x
