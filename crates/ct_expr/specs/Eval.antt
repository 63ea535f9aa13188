-- What an expression is at a row: a value, or None where it is out of range.
use Rattle.std.specs.Prelude.{ℕ, List, [], ◌∷◌, Option, Some, option_map, slice_index_or}
use Rattle.ct_value.specs.declared.value.Value.{Value}
use Rattle.ct_value.specs.declared.value.Value.TheVariants.{Null}
use Rattle.ct_value.specs.declared.ty.Ty.{Ty}
use Rattle.ct_expr.specs.Expr.{Expr, Exprs, Whens, OptionalExpr, Column, Literal, Neg, Arith, Compare, And, Or, Not, IsNull, InList, Case, Coalesce, NullIf, Cast, Concat, CharLength, Like, no_exprs, expr_and, no_whens, when_and, no_expr, some_expr}
use Rattle.ct_expr.specs.Types.{ty_of}
use Rattle.ct_expr.specs.Values.{minus, arithmetic, comparison, conjunction, disjunction, negation, null_test, in_list, first_chosen, first_known, null_if, conversion, concatenation, char_length, likeness}

-- a column of a row
abbrev pub cell : ℕ → List Value → Value
cell n row = slice_index_or row n Null

abbrev pub typed : Ty → Option Value → Option (Ty × Value)
typed ty v = option_map (λ w. (ty, w)) v

abbrev mutual
  pub eval : Expr → List Value → Option Value
  eval (Column n ty) row = Some (cell n row)
  eval (Literal v ty) row = Some v
  eval (Neg x) row = minus (ty_of x) (eval x row)
  eval (Arith op x y) row = arithmetic op (ty_of x) (ty_of y) (eval x row) (eval y row)
  eval (Compare op x y) row = comparison op (ty_of x) (ty_of y) (eval x row) (eval y row)
  eval (And xs) row = conjunction (evals xs row)
  eval (Or xs) row = disjunction (evals xs row)
  eval (Not x) row = negation (eval x row)
  eval (IsNull x) row = null_test (eval x row)
  eval (InList x xs) row = in_list (ty_of x) (eval x row) (typed_evals xs row)
  eval (Case ws o) row = first_chosen (branches ws row) (otherwise o row)
  eval (Coalesce xs) row = first_known (evals xs row)
  eval (NullIf x y) row = null_if (ty_of x) (ty_of y) (eval x row) (eval y row)
  eval (Cast x ty) row = conversion (ty_of x) ty (eval x row)
  eval (Concat x y) row = concatenation (eval x row) (eval y row)
  eval (CharLength x) row = char_length (eval x row)
  eval (Like x y) row = likeness (eval x row) (eval y row)

  pub evals : Exprs → List Value → List (Option Value)
  evals no_exprs row = []
  evals (expr_and x xs) row = eval x row ∷ evals xs row

  pub typed_evals : Exprs → List Value → List (Option (Ty × Value))
  typed_evals no_exprs row = []
  typed_evals (expr_and x xs) row = typed (ty_of x) (eval x row) ∷ typed_evals xs row

  pub branches : Whens → List Value → List (Option Value × Option Value)
  branches no_whens row = []
  branches (when_and x y ws) row = (eval x row, eval y row) ∷ branches ws row

  -- NULL without an ELSE
  pub otherwise : OptionalExpr → List Value → Option Value
  otherwise no_expr row = Some Null
  otherwise (some_expr x) row = eval x row
