-- The row of items' values, as far as a loop has come.
use Rattle.std.proofs.Common.{◌≡◌, ℕ, ◌+◌, ◌<◌, ◌≤◌, length, drop, get_or, List, [], ◌∷◌, ◌++◌, map, Option, Some, None, sym, ap, ◌∙◌, refl, append_assoc, append-nil}
use Rattle.std.specs.Prelude.{option_map}
use Rattle.std.proofs.lemmas.List.{at_drop_more, drop_all}
use Rattle.ct_value.specs.declared.value.Value.{Value}
use Rattle.ct_value.specs.declared.row.Row.{Row}
use Rattle.ct_expr.specs.declared.expr.Expr.{Expr}
use Rattle.ct_expr.specs.Eval.{eval}
use Rattle.ct_expr.specs.View.{expr_view, exprs_view}
use Rattle.rel_algebra.specs.Clauses.{collect, row_of}

-- these values, and behind them those of the items
abbrev pub row_from : List Value → Row → List Expr → Option Row
row_from values row items = option_map (λ others. values ++ others) (row_of (map eval (exprs_view items)) row)

nothing_before : (o : Option Row) → option_map (λ others. [] ++ others) o ≡ o
nothing_before None = refl
nothing_before (Some others) = refl

one_more : (values : List Value) (value : Value) (o : Option Row) → option_map (λ others. values ++ others) (option_map (λ others. value ∷ others) o) ≡ option_map (λ others. (values ++ value ∷ []) ++ others) o
one_more values value None = refl
one_more values value (Some others) = ap (λ (xs : Row). Some xs) (sym (append_assoc values (value ∷ []) others))

pub row_begins : (row : Row) (items : List Expr) → row_of (map eval (exprs_view items)) row ≡ row_from [] row items
row_begins row items = sym (nothing_before (row_of (map eval (exprs_view items)) row))

step : (values : List Value) (row : Row) (items : List Expr) (i : ℕ) (item : Expr) → i < length items → item ≡ get_or items i item
    → row_from values row (drop i items) ≡ option_map (λ others. values ++ others) (collect (eval (expr_view item) row ∷ map (λ meaning. meaning row) (map eval (exprs_view (drop (i + 1) items)))))
step values row items i item l h = at_drop_more (row_from values row) items i item l ∙ ap (λ y. row_from values row (y ∷ drop (i + 1) items)) (sym h)

pub row_goes_on : (values : List Value) (row : Row) (items : List Expr) (i : ℕ) (item : Expr) (value : Value) → i < length items → item ≡ get_or items i item → eval (expr_view item) row ≡ Some value
    → row_from values row (drop i items) ≡ row_from (values ++ value ∷ []) row (drop (i + 1) items)
row_goes_on values row items i item value l h e =
    step values row items i item l h
    ∙ ap (λ o. option_map (λ others. values ++ others) (collect (o ∷ map (λ meaning. meaning row) (map eval (exprs_view (drop (i + 1) items)))))) e
    ∙ one_more values value (row_of (map eval (exprs_view (drop (i + 1) items))) row)

pub row_ends : (values : List Value) (row : Row) (items : List Expr) (i : ℕ) → length items ≤ i → row_from values row (drop i items) ≡ Some values
row_ends values row items i l = ap (row_from values row) (drop_all i items l) ∙ ap (λ (xs : Row). Some xs) (append-nil values)

-- an item that is out of range makes the row so
pub row_out : (values : List Value) (row : Row) (items : List Expr) (i : ℕ) (item : Expr) → i < length items → item ≡ get_or items i item → eval (expr_view item) row ≡ None → row_from values row (drop i items) ≡ None
row_out values row items i item l h e =
    step values row items i item l h
    ∙ ap (λ o. option_map (λ others. values ++ others) (collect (o ∷ map (λ meaning. meaning row) (map eval (exprs_view (drop (i + 1) items)))))) e
