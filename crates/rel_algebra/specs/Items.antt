-- Items that hand on a column of their input as it is.
use Rattle.std.specs.Prelude.{ℕ, Option, Some, None}
use Rattle.ct_expr.specs.Expr.{Expr, Column}

-- the column that an item hands on, if it is a plain column
abbrev pub plain_column : Expr → Option ℕ
plain_column (Column col ty) = Some col
plain_column _ = None
