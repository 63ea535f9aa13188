-- The columns of which operators speak.
use Rattle.std.specs.Prelude.{ℕ, List, [], map, get_or, Option}
use Rattle.ct_value.specs.declared.ty.ColTy.{ColTy}
use Rattle.ct_expr.specs.View.{expr_view}
use Rattle.ct_expr.specs.declared.expr.Expr.{Expr}
use Rattle.rel_algebra.specs.Items.{plain_column}

-- the columns that a node sends, in a table by the nodes' numbers, which has an empty list at 0
abbrev pub columns_in : List (List ColTy) → ℕ → List ColTy
columns_in table v = get_or table v []

-- of each item the column that it hands on, if it is a plain column
abbrev pub plain_columns : List Expr → List (Option ℕ)
plain_columns items = map (λ item. plain_column (expr_view item)) items
