-- Items that are columns in place, as far as a loop has come.
use Rattle.std.proofs.Common.{◌≡◌, ℕ, suc, ◌+◌, ◌<◌, true, false, ◌&&◌, List, ◌∷◌, length, drop, get_or, sym, ap, ◌∙◌, arith}
use Rattle.std.proofs.lemmas.List.{at_drop_more}
use Rattle.ct_expr.specs.declared.expr.Expr.{Expr}
use Rattle.ct_expr.specs.View.{expr_view, exprs_view}
use Rattle.binding.specs.Queries.{is_column, is_in_place}

step : (n width : ℕ) (xs : List Expr) (i : ℕ) (x : Expr) → i < length xs → x ≡ get_or xs i x
    → is_in_place n width (exprs_view (drop i xs)) ≡ (is_column n (expr_view x) && is_in_place (suc n) width (exprs_view (drop (i + 1) xs)))
step n width xs i x l h = at_drop_more (λ ys. is_in_place n width (exprs_view ys)) xs i x l ∙ ap (λ y. is_in_place n width (exprs_view (y ∷ drop (i + 1) xs))) (sym h)

pub elsewhere : (n width : ℕ) (xs : List Expr) (i : ℕ) (x : Expr) → i < length xs → x ≡ get_or xs i x → is_column n (expr_view x) ≡ false → is_in_place n width (exprs_view (drop i xs)) ≡ false
elsewhere n width xs i x l h e = step n width xs i x l h ∙ ap (λ b. b && is_in_place (suc n) width (exprs_view (drop (i + 1) xs))) e

pub in_place : (n m width : ℕ) (xs : List Expr) (i : ℕ) (x : Expr) → i < length xs → x ≡ get_or xs i x → is_column n (expr_view x) ≡ true → m ≡ n + 1
    → is_in_place n width (exprs_view (drop i xs)) ≡ is_in_place m width (exprs_view (drop (i + 1) xs))
in_place n m width xs i x l h e k =
    step n width xs i x l h ∙ ap (λ b. b && is_in_place (suc n) width (exprs_view (drop (i + 1) xs))) e
    ∙ ap (λ j. is_in_place j width (exprs_view (drop (i + 1) xs))) (let one : suc n ≡ m = omega arith in one)
