-- The code's expression that is made of one of the definitions.
use Rattle.std.specs.Prelude.{List, [], ◌∷◌, Option, Some, None}
use Rattle.ct_expr.specs.declared.expr.Expr.{Expr}
use Rattle.ct_expr.specs.declared.expr.Expr.TheVariants as v
use Rattle.ct_expr.specs.declared.expr.When.{When}
use Rattle.ct_expr.specs.Expr as e

abbrev pub when_of : Expr → Expr → When
when_of cond result = record { cond = cond; result = result }

abbrev mutual
  pub expr_of : e.Expr → Expr
  expr_of (e.Column col ty) = v.Column col ty
  expr_of (e.Literal value ty) = v.Literal value ty
  expr_of (e.Neg value) = v.Neg (expr_of value)
  expr_of (e.Arith op left right) = v.Arith op (expr_of left) (expr_of right)
  expr_of (e.Compare op left right) = v.Compare op (expr_of left) (expr_of right)
  expr_of (e.And exprs) = v.And (exprs_of exprs)
  expr_of (e.Or exprs) = v.Or (exprs_of exprs)
  expr_of (e.Not value) = v.Not (expr_of value)
  expr_of (e.IsNull value) = v.IsNull (expr_of value)
  expr_of (e.InList value items) = v.InList (expr_of value) (exprs_of items)
  expr_of (e.Case whens otherwise) = v.Case (whens_of whens) (optional_of otherwise)
  expr_of (e.Coalesce exprs) = v.Coalesce (exprs_of exprs)
  expr_of (e.NullIf left right) = v.NullIf (expr_of left) (expr_of right)
  expr_of (e.Cast value ty) = v.Cast (expr_of value) ty
  expr_of (e.Concat left right) = v.Concat (expr_of left) (expr_of right)
  expr_of (e.CharLength value) = v.CharLength (expr_of value)
  expr_of (e.Like value pattern) = v.Like (expr_of value) (expr_of pattern)

  pub exprs_of : e.Exprs → List Expr
  exprs_of e.no_exprs = []
  exprs_of (e.expr_and expr exprs) = expr_of expr ∷ exprs_of exprs

  pub whens_of : e.Whens → List When
  whens_of e.no_whens = []
  whens_of (e.when_and cond result whens) = when_of (expr_of cond) (expr_of result) ∷ whens_of whens

  pub optional_of : e.OptionalExpr → Option Expr
  optional_of e.no_expr = None
  optional_of (e.some_expr expr) = Some (expr_of expr)
