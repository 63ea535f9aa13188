-- The expressions of the definitions, as views of the code's.
use Rattle.std.specs.Prelude.{List, map}
use Rattle.ct_expr.specs.declared.expr.Expr.TheFolds.{fold-Expr, fold-When}
use Rattle.ct_expr.specs.declared.expr.Expr.TheOpen.{Expr-F, When-F}
use Rattle.ct_expr.specs.declared.expr.Expr.{Expr}
use Rattle.ct_expr.specs.declared.expr.When.{When}
use Rattle.ct_expr.specs.Expr as e

-- one level of a view, the parts within being seen already
abbrev pub expr_step : Expr-F e.Expr (e.Expr × e.Expr) → e.Expr
expr_step (Expr-F.Column col ty) = e.Column col ty
expr_step (Expr-F.Literal value ty) = e.Literal value ty
expr_step (Expr-F.Neg value) = e.Neg value
expr_step (Expr-F.Arith op left right) = e.Arith op left right
expr_step (Expr-F.Compare op left right) = e.Compare op left right
expr_step (Expr-F.And exprs) = e.And (e.exprs exprs)
expr_step (Expr-F.Or exprs) = e.Or (e.exprs exprs)
expr_step (Expr-F.Not value) = e.Not value
expr_step (Expr-F.IsNull value) = e.IsNull value
expr_step (Expr-F.InList value items) = e.InList value (e.exprs items)
expr_step (Expr-F.Case whens otherwise) = e.Case (e.whens whens) (e.optional_expr otherwise)
expr_step (Expr-F.Coalesce exprs) = e.Coalesce (e.exprs exprs)
expr_step (Expr-F.NullIf left right) = e.NullIf left right
expr_step (Expr-F.Cast value ty) = e.Cast value ty
expr_step (Expr-F.Concat left right) = e.Concat left right
expr_step (Expr-F.CharLength value) = e.CharLength value
expr_step (Expr-F.Like value pattern) = e.Like value pattern

abbrev pub when_step : When-F e.Expr (e.Expr × e.Expr) → e.Expr × e.Expr
when_step w = (w.cond, w.result)

unfoldable pub expr_view : Expr → e.Expr
expr_view = fold-Expr e.Expr (e.Expr × e.Expr) expr_step when_step

unfoldable pub when_view : When → e.Expr × e.Expr
when_view = fold-When e.Expr (e.Expr × e.Expr) expr_step when_step

abbrev pub exprs_view : List Expr → List e.Expr
exprs_view = map expr_view

abbrev pub whens_view : List When → List (e.Expr × e.Expr)
whens_view = map when_view
