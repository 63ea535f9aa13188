-- Expressions over the columns of a row. The type stands for the one of the code with the same name: a variant keeps
-- its name and the order of its fields; a branch of a CASE is a condition and a result.
use Rattle.std.specs.Prelude.{ℕ, List, [], ◌∷◌, Option, Some, None}
use Rattle.ct_value.specs.declared.value.CompareOp.{CompareOp}
use Rattle.ct_value.specs.declared.value.Value.{Value}
use Rattle.ct_value.specs.declared.ty.Ty.{Ty}
use Rattle.ct_expr.specs.declared.expr.ArithOp.{ArithOp}

mutual
  pub data Expr : Type 0 where
    -- col, ty
    Column : ℕ → Ty → Expr
    -- value, ty
    Literal : Value → Ty → Expr
    Neg : Expr → Expr
    -- op, left, right
    Arith : ArithOp → Expr → Expr → Expr
    -- op, left, right
    Compare : CompareOp → Expr → Expr → Expr
    And : Exprs → Expr
    Or : Exprs → Expr
    Not : Expr → Expr
    IsNull : Expr → Expr
    -- value, items
    InList : Expr → Exprs → Expr
    -- whens, otherwise
    Case : Whens → OptionalExpr → Expr
    Coalesce : Exprs → Expr
    -- left, right
    NullIf : Expr → Expr → Expr
    -- value, ty
    Cast : Expr → Ty → Expr
    -- left, right
    Concat : Expr → Expr → Expr
    CharLength : Expr → Expr
    -- value, pattern
    Like : Expr → Expr → Expr

  pub data Exprs : Type 0 where
    no_exprs : Exprs
    expr_and : Expr → Exprs → Exprs

  -- cond, result, the branches behind
  pub data Whens : Type 0 where
    no_whens : Whens
    when_and : Expr → Expr → Whens → Whens

  -- an expression that may be missing
  pub data OptionalExpr : Type 0 where
    no_expr : OptionalExpr
    some_expr : Expr → OptionalExpr

-- the lists and the missing parts, made of ordinary ones
abbrev pub exprs : List Expr → Exprs
exprs [] = no_exprs
exprs (x ∷ xs) = expr_and x (exprs xs)

abbrev pub whens : List (Expr × Expr) → Whens
whens [] = no_whens
whens (w ∷ ws) = when_and w.0 w.1 (whens ws)

abbrev pub optional_expr : Option Expr → OptionalExpr
optional_expr None = no_expr
optional_expr (Some x) = some_expr x
