-- What is made of what is seen of an expression is that expression.
use Rattle.std.proofs.Common.{◌≡◌, refl, sym, ap, subst, ◌∙◌, List, [], ◌∷◌, Some, None, map}
use Rattle.ct_expr.specs.declared.expr.Expr.{Expr}
use Rattle.ct_expr.specs.declared.expr.Expr.TheFolds.{map-Expr, map-When, fold-roll-Expr, ind-Expr}
use Rattle.ct_expr.specs.declared.expr.Expr.TheOpen.{Expr-F, When-F}
use Rattle.ct_expr.specs.declared.expr.Expr.TheViews.{roll-Expr, roll-When}
use Rattle.ct_expr.specs.declared.expr.Expr.TheVariants as v
use Rattle.ct_expr.specs.declared.expr.When.{When}
use Rattle.ct_expr.specs.Expr as e
use Rattle.ct_expr.specs.View.{expr_step, when_step, expr_view, when_view, exprs_view, whens_view}
use Rattle.ct_expr.proofs.laws.Views.{view_when}
use Rattle.ct_expr.specs.Views.{when_of, expr_of, exprs_of, whens_of}

abbrev Same : Expr → Type 0
Same x = expr_of (expr_view x) ≡ x

abbrev SameWhen : When → Type 0
SameWhen w = when_of (expr_of (when_view w).0) (expr_of (when_view w).1) ≡ w

abbrev Part : Type 0
Part = (x : Expr) × Same x

abbrev Branch : Type 0
Branch = (w : When) × SameWhen w

exprs_same : (parts : List Part) → exprs_of (e.exprs (exprs_view (map (λ p. p.0) parts))) ≡ map (λ p. p.0) parts
exprs_same [] = refl
exprs_same (p ∷ parts) = λ i. p.1 i ∷ exprs_same parts i

whens_same : (parts : List Branch) → whens_of (e.whens (whens_view (map (λ p. p.0) parts))) ≡ map (λ p. p.0) parts
whens_same [] = refl
whens_same (p ∷ parts) = λ i. p.1 i ∷ whens_same parts i

-- ---- one level

-- the parts without their proofs
abbrev bare : Expr-F Part Branch → Expr-F Expr When
bare y = map-Expr Part Branch Expr When (λ p. p.0) (λ p. p.0) y

abbrev made_step : Expr-F Expr When → Expr
made_step x = expr_of (expr_step (map-Expr Expr When e.Expr (e.Expr × e.Expr) expr_view when_view x))

level_same : (y : Expr-F Part Branch) → made_step (bare y) ≡ roll-Expr (bare y)
level_same (Expr-F.Column col ty) = sym (v.rolls-Column col ty)
level_same (Expr-F.Literal value ty) = sym (v.rolls-Literal value ty)
level_same (Expr-F.Neg value) = ap (λ x. v.Neg x) value.1 ∙ sym (v.rolls-Neg value.0)
level_same (Expr-F.Arith op left right) = (λ i. v.Arith op (left.1 i) (right.1 i)) ∙ sym (v.rolls-Arith op left.0 right.0)
level_same (Expr-F.Compare op left right) = (λ i. v.Compare op (left.1 i) (right.1 i)) ∙ sym (v.rolls-Compare op left.0 right.0)
level_same (Expr-F.And exprs) = ap v.And (exprs_same exprs) ∙ sym (v.rolls-And (map (λ p. p.0) exprs))
level_same (Expr-F.Or exprs) = ap v.Or (exprs_same exprs) ∙ sym (v.rolls-Or (map (λ p. p.0) exprs))
level_same (Expr-F.Not value) = ap (λ x. v.Not x) value.1 ∙ sym (v.rolls-Not value.0)
level_same (Expr-F.IsNull value) = ap (λ x. v.IsNull x) value.1 ∙ sym (v.rolls-IsNull value.0)
level_same (Expr-F.InList value items) = (λ i. v.InList (value.1 i) (exprs_same items i)) ∙ sym (v.rolls-InList value.0 (map (λ p. p.0) items))
level_same (Expr-F.Case whens None) = ap (λ ws. v.Case ws None) (whens_same whens) ∙ sym (v.rolls-Case (map (λ p. p.0) whens) None)
level_same (Expr-F.Case whens (Some otherwise)) = (λ i. v.Case (whens_same whens i) (Some (otherwise.1 i))) ∙ sym (v.rolls-Case (map (λ p. p.0) whens) (Some otherwise.0))
level_same (Expr-F.Coalesce exprs) = ap v.Coalesce (exprs_same exprs) ∙ sym (v.rolls-Coalesce (map (λ p. p.0) exprs))
level_same (Expr-F.NullIf left right) = (λ i. v.NullIf (left.1 i) (right.1 i)) ∙ sym (v.rolls-NullIf left.0 right.0)
level_same (Expr-F.Cast value ty) = ap (λ x. v.Cast x ty) value.1 ∙ sym (v.rolls-Cast value.0 ty)
level_same (Expr-F.Concat left right) = (λ i. v.Concat (left.1 i) (right.1 i)) ∙ sym (v.rolls-Concat left.0 right.0)
level_same (Expr-F.CharLength value) = ap (λ x. v.CharLength x) value.1 ∙ sym (v.rolls-CharLength value.0)
level_same (Expr-F.Like value pattern) = (λ i. v.Like (value.1 i) (pattern.1 i)) ∙ sym (v.rolls-Like value.0 pattern.0)

rolled_same : (x : Expr-F Expr When) → made_step x ≡ roll-Expr x → Same (roll-Expr x)
unfolding expr_view when_view
rolled_same x same = ap expr_of (fold-roll-Expr e.Expr (e.Expr × e.Expr) expr_step when_step x) ∙ same

when_same : (w : When) → Same w.cond → Same w.result → SameWhen w
when_same w cond result = ap (λ v. when_of (expr_of v.0) (expr_of v.1)) (view_when w) ∙ (λ i. when_of (cond i) (result i))

branch_same : (y : When-F Part Branch) → SameWhen (roll-When (map-When Part Branch Expr When (λ p. p.0) (λ p. p.0) y))
branch_same y = when_same (roll-When (map-When Part Branch Expr When (λ p. p.0) (λ p. p.0) y)) y.cond.1 y.result.1

-- ---- all levels

pub same : (x : Expr) → expr_of (expr_view x) ≡ x
same = ind-Expr Same SameWhen
    (λ x y is. subst (λ z. Same (roll-Expr z)) is (rolled_same (bare y) (level_same y)))
    (λ x y is. subst (λ z. SameWhen (roll-When z)) is (branch_same y))
