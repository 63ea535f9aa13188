-- Conditions together.
use Rattle.std.specs.Prelude.{List, [], ◌∷◌}
use Rattle.ct_expr.specs.Expr.{Expr, And, exprs, no_exprs}

-- one condition is itself, several are their And
abbrev pub one_or_all : List Expr → Expr
one_or_all [] = And no_exprs
one_or_all (x ∷ []) = x
one_or_all (x ∷ y ∷ xs) = And (exprs (x ∷ y ∷ xs))
