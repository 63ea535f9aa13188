-- Each expression of the definitions is seen of the one that is made of it.
use Rattle.std.specs.Prelude.{option_map}
use Rattle.std.proofs.Common.{◌≡◌, refl, ap, ◌∙◌}
use Rattle.ct_expr.specs.Expr as e
use Rattle.ct_expr.specs.View.{expr_view, exprs_view, whens_view}
use Rattle.ct_expr.proofs.laws.Views.{view_column, view_literal, view_neg, view_arith, view_compare, view_and, view_or, view_not, view_is_null, view_in_list, view_case, view_coalesce, view_null_if, view_cast, view_concat, view_char_length, view_like, view_when}
use Rattle.ct_expr.specs.Views.{when_of, expr_of, exprs_of, whens_of, optional_of}

mutual
  pub seen : (y : e.Expr) → expr_view (expr_of y) ≡ y
  seen (e.Column col ty) = view_column col ty
  seen (e.Literal value ty) = view_literal value ty
  seen (e.Neg value) = view_neg (expr_of value) ∙ ap e.Neg (seen value)
  seen (e.Arith op left right) = view_arith op (expr_of left) (expr_of right) ∙ (λ i. e.Arith op (seen left i) (seen right i))
  seen (e.Compare op left right) = view_compare op (expr_of left) (expr_of right) ∙ (λ i. e.Compare op (seen left i) (seen right i))
  seen (e.And exprs) = view_and (exprs_of exprs) ∙ ap e.And (all_seen exprs)
  seen (e.Or exprs) = view_or (exprs_of exprs) ∙ ap e.Or (all_seen exprs)
  seen (e.Not value) = view_not (expr_of value) ∙ ap e.Not (seen value)
  seen (e.IsNull value) = view_is_null (expr_of value) ∙ ap e.IsNull (seen value)
  seen (e.InList value items) = view_in_list (expr_of value) (exprs_of items) ∙ (λ i. e.InList (seen value i) (all_seen items i))
  seen (e.Case whens otherwise) = view_case (whens_of whens) (optional_of otherwise) ∙ (λ i. e.Case (whens_seen whens i) (optional_seen otherwise i))
  seen (e.Coalesce exprs) = view_coalesce (exprs_of exprs) ∙ ap e.Coalesce (all_seen exprs)
  seen (e.NullIf left right) = view_null_if (expr_of left) (expr_of right) ∙ (λ i. e.NullIf (seen left i) (seen right i))
  seen (e.Cast value ty) = view_cast (expr_of value) ty ∙ ap (λ x. e.Cast x ty) (seen value)
  seen (e.Concat left right) = view_concat (expr_of left) (expr_of right) ∙ (λ i. e.Concat (seen left i) (seen right i))
  seen (e.CharLength value) = view_char_length (expr_of value) ∙ ap e.CharLength (seen value)
  seen (e.Like value pattern) = view_like (expr_of value) (expr_of pattern) ∙ (λ i. e.Like (seen value i) (seen pattern i))

  all_seen : (ys : e.Exprs) → e.exprs (exprs_view (exprs_of ys)) ≡ ys
  all_seen e.no_exprs = refl
  all_seen (e.expr_and expr exprs) = λ i. e.expr_and (seen expr i) (all_seen exprs i)

  whens_seen : (ys : e.Whens) → e.whens (whens_view (whens_of ys)) ≡ ys
  whens_seen e.no_whens = refl
  whens_seen (e.when_and cond result whens) =
      ap (λ w. e.when_and w.0 w.1 (e.whens (whens_view (whens_of whens)))) (view_when (when_of (expr_of cond) (expr_of result)))
      ∙ (λ i. e.when_and (seen cond i) (seen result i) (whens_seen whens i))

  optional_seen : (y : e.OptionalExpr) → e.optional_expr (option_map expr_view (optional_of y)) ≡ y
  optional_seen e.no_expr = refl
  optional_seen (e.some_expr expr) = ap e.some_expr (seen expr)
