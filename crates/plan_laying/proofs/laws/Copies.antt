-- A copy of an expression is the expression that is made of the view of what is copied.
use Rattle.std.specs.Prelude.{◌≡◌, List, map, Option, option_map}
use Rattle.std.proofs.Common.{[], ◌∷◌, refl, sym, ap, ◌∙◌, Some, None}
use Rattle.ct_expr.specs.View.{expr_view}
use Rattle.ct_expr.specs.Views.{expr_of}
use Rattle.ct_expr.specs.declared.expr.Expr.{Expr}
use Rattle.ct_expr.proofs.laws.Same.{same}

pub copied : (copy x : Expr) → expr_view copy ≡ expr_view x → copy ≡ expr_of (expr_view x)
copied copy x e = sym (same copy) ∙ ap expr_of e

all_made : (xs : List Expr) → map expr_of (map expr_view xs) ≡ xs
all_made [] = refl
all_made (x ∷ xs) = λ i. same x i ∷ all_made xs i

rest_made : (o : Option Expr) → option_map expr_of (option_map expr_view o) ≡ o
rest_made None = refl
rest_made (Some x) = ap Some (same x)

pub all_copied : (copies xs : List Expr) → map expr_view copies ≡ map expr_view xs → copies ≡ map expr_of (map expr_view xs)
all_copied copies xs e = sym (all_made copies) ∙ ap (map expr_of) e

pub rest_copied : (copy o : Option Expr) → option_map expr_view copy ≡ option_map expr_view o → copy ≡ option_map expr_of (option_map expr_view o)
rest_copied copy o e = sym (rest_made copy) ∙ ap (option_map expr_of) e
