-- What the view of each variant is.
use Rattle.std.proofs.Common.{◌≡◌, ℕ, List, Option, Some, None, sym, ap, ◌∙◌}
use Rattle.std.specs.Prelude.{option_map}
use Rattle.ct_value.specs.declared.value.CompareOp.{CompareOp}
use Rattle.ct_value.specs.declared.value.Value.{Value}
use Rattle.ct_value.specs.declared.ty.Ty.{Ty}
use Rattle.ct_expr.specs.declared.expr.ArithOp.{ArithOp}
use Rattle.ct_expr.specs.declared.expr.Expr.{Expr}
use Rattle.ct_expr.specs.declared.expr.Expr.TheVariants as v
use Rattle.ct_expr.specs.declared.expr.When.{When}
use Rattle.ct_expr.specs.declared.expr.Expr.TheOpen.{Expr-F}
use Rattle.ct_expr.specs.declared.expr.Expr.TheFolds.{fold-roll-Expr, fold_out-When}
use Rattle.ct_expr.specs.Expr as e
use Rattle.ct_expr.specs.View.{expr_step, when_step, expr_view, when_view, exprs_view, whens_view}

pub view_column : (col : ℕ) (ty : Ty) → expr_view (v.Column col ty) ≡ e.Column col ty
unfolding expr_view
view_column col ty = ap expr_view (sym (v.rolls-Column col ty)) ∙ fold-roll-Expr e.Expr (e.Expr × e.Expr) expr_step when_step (Expr-F.Column col ty)

pub view_literal : (value : Value) (ty : Ty) → expr_view (v.Literal value ty) ≡ e.Literal value ty
unfolding expr_view
view_literal value ty = ap expr_view (sym (v.rolls-Literal value ty)) ∙ fold-roll-Expr e.Expr (e.Expr × e.Expr) expr_step when_step (Expr-F.Literal value ty)

pub view_neg : (value : Expr) → expr_view (v.Neg value) ≡ e.Neg (expr_view value)
unfolding expr_view
view_neg value = ap expr_view (sym (v.rolls-Neg value)) ∙ fold-roll-Expr e.Expr (e.Expr × e.Expr) expr_step when_step (Expr-F.Neg value)

pub view_arith : (op : ArithOp) (left : Expr) (right : Expr) → expr_view (v.Arith op left right) ≡ e.Arith op (expr_view left) (expr_view right)
unfolding expr_view
view_arith op left right = ap expr_view (sym (v.rolls-Arith op left right)) ∙ fold-roll-Expr e.Expr (e.Expr × e.Expr) expr_step when_step (Expr-F.Arith op left right)

pub view_compare : (op : CompareOp) (left : Expr) (right : Expr) → expr_view (v.Compare op left right) ≡ e.Compare op (expr_view left) (expr_view right)
unfolding expr_view
view_compare op left right = ap expr_view (sym (v.rolls-Compare op left right)) ∙ fold-roll-Expr e.Expr (e.Expr × e.Expr) expr_step when_step (Expr-F.Compare op left right)

pub view_and : (exprs : (List Expr)) → expr_view (v.And exprs) ≡ e.And (e.exprs (exprs_view exprs))
unfolding expr_view
view_and exprs = ap expr_view (sym (v.rolls-And exprs)) ∙ fold-roll-Expr e.Expr (e.Expr × e.Expr) expr_step when_step (Expr-F.And exprs)

pub view_or : (exprs : (List Expr)) → expr_view (v.Or exprs) ≡ e.Or (e.exprs (exprs_view exprs))
unfolding expr_view
view_or exprs = ap expr_view (sym (v.rolls-Or exprs)) ∙ fold-roll-Expr e.Expr (e.Expr × e.Expr) expr_step when_step (Expr-F.Or exprs)

pub view_not : (value : Expr) → expr_view (v.Not value) ≡ e.Not (expr_view value)
unfolding expr_view
view_not value = ap expr_view (sym (v.rolls-Not value)) ∙ fold-roll-Expr e.Expr (e.Expr × e.Expr) expr_step when_step (Expr-F.Not value)

pub view_is_null : (value : Expr) → expr_view (v.IsNull value) ≡ e.IsNull (expr_view value)
unfolding expr_view
view_is_null value = ap expr_view (sym (v.rolls-IsNull value)) ∙ fold-roll-Expr e.Expr (e.Expr × e.Expr) expr_step when_step (Expr-F.IsNull value)

pub view_in_list : (value : Expr) (items : (List Expr)) → expr_view (v.InList value items) ≡ e.InList (expr_view value) (e.exprs (exprs_view items))
unfolding expr_view
view_in_list value items = ap expr_view (sym (v.rolls-InList value items)) ∙ fold-roll-Expr e.Expr (e.Expr × e.Expr) expr_step when_step (Expr-F.InList value items)

pub view_case : (whens : (List When)) (otherwise : (Option Expr)) → expr_view (v.Case whens otherwise) ≡ e.Case (e.whens (whens_view whens)) (e.optional_expr (option_map expr_view otherwise))
unfolding expr_view when_view
view_case whens None = ap expr_view (sym (v.rolls-Case whens None)) ∙ fold-roll-Expr e.Expr (e.Expr × e.Expr) expr_step when_step (Expr-F.Case whens None)
view_case whens (Some x) = ap expr_view (sym (v.rolls-Case whens (Some x))) ∙ fold-roll-Expr e.Expr (e.Expr × e.Expr) expr_step when_step (Expr-F.Case whens (Some x))

pub view_coalesce : (exprs : (List Expr)) → expr_view (v.Coalesce exprs) ≡ e.Coalesce (e.exprs (exprs_view exprs))
unfolding expr_view
view_coalesce exprs = ap expr_view (sym (v.rolls-Coalesce exprs)) ∙ fold-roll-Expr e.Expr (e.Expr × e.Expr) expr_step when_step (Expr-F.Coalesce exprs)

pub view_null_if : (left : Expr) (right : Expr) → expr_view (v.NullIf left right) ≡ e.NullIf (expr_view left) (expr_view right)
unfolding expr_view
view_null_if left right = ap expr_view (sym (v.rolls-NullIf left right)) ∙ fold-roll-Expr e.Expr (e.Expr × e.Expr) expr_step when_step (Expr-F.NullIf left right)

pub view_cast : (value : Expr) (ty : Ty) → expr_view (v.Cast value ty) ≡ e.Cast (expr_view value) ty
unfolding expr_view
view_cast value ty = ap expr_view (sym (v.rolls-Cast value ty)) ∙ fold-roll-Expr e.Expr (e.Expr × e.Expr) expr_step when_step (Expr-F.Cast value ty)

pub view_concat : (left : Expr) (right : Expr) → expr_view (v.Concat left right) ≡ e.Concat (expr_view left) (expr_view right)
unfolding expr_view
view_concat left right = ap expr_view (sym (v.rolls-Concat left right)) ∙ fold-roll-Expr e.Expr (e.Expr × e.Expr) expr_step when_step (Expr-F.Concat left right)

pub view_char_length : (value : Expr) → expr_view (v.CharLength value) ≡ e.CharLength (expr_view value)
unfolding expr_view
view_char_length value = ap expr_view (sym (v.rolls-CharLength value)) ∙ fold-roll-Expr e.Expr (e.Expr × e.Expr) expr_step when_step (Expr-F.CharLength value)

pub view_like : (value : Expr) (pattern : Expr) → expr_view (v.Like value pattern) ≡ e.Like (expr_view value) (expr_view pattern)
unfolding expr_view
view_like value pattern = ap expr_view (sym (v.rolls-Like value pattern)) ∙ fold-roll-Expr e.Expr (e.Expr × e.Expr) expr_step when_step (Expr-F.Like value pattern)

pub view_when : (w : When) → when_view w ≡ (expr_view w.cond, expr_view w.result)
unfolding expr_view when_view
view_when w = fold_out-When e.Expr (e.Expr × e.Expr) expr_step when_step w
