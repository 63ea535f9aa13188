-- What is left of a list, one step on and at the end; and values gathered from the left.
use Rattle.std.proofs.Common.{◌≡◌, ℕ, ◌+◌, ◌<◌, ◌≤◌, List, [], ◌∷◌, ◌++◌, length, drop, get_or, map, Option, Some, None, refl, sym, ap, ◌∙◌, append_assoc}
use Rattle.std.specs.Prelude.{option_map}
use Rattle.std.proofs.lemmas.List.{at_drop_more, at_drop_all}
use Rattle.ct_value.specs.declared.row.Row.{Row}
use Rattle.ct_value.specs.declared.value.Value.{Value}
use Rattle.ct_expr.specs.declared.expr.Expr.{Expr}
use Rattle.ct_expr.specs.Eval.{eval}
use Rattle.ct_expr.specs.View.{expr_view, exprs_view}
use Rattle.rel_algebra.specs.Clauses.{collect, row_of}

pub drop_more : {X : Type 0} (xs : List X) (i : ℕ) (x : X) → i < length xs → x ≡ get_or xs i x → drop i xs ≡ x ∷ drop (i + 1) xs
drop_more xs i x l h = at_drop_more (λ ys. ys) xs i x l ∙ ap (λ y. y ∷ drop (i + 1) xs) (sym h)

pub drop_end : {X : Type 0} (xs : List X) (i : ℕ) → length xs ≤ i → drop i xs ≡ []
drop_end xs i l = at_drop_all (λ ys. ys) xs i l

-- the values so far, and those of the items that are left
abbrev pub row_from : List Expr → Row → Row → Option Row
row_from items row values = option_map (λ rest. values ++ rest) (row_of (map eval (exprs_view items)) row)

append_nil : (xs : Row) → xs ++ [] ≡ xs
append_nil [] = refl
append_nil (x ∷ xs) = ap (λ ys. x ∷ ys) (append_nil xs)

pub row_from-start : (items : List Expr) (row values : Row) → values ≡ [] → row_from items row values ≡ row_of (map eval (exprs_view items)) row
row_from-start items row values e = ap (row_from items row) e ∙ same (row_of (map eval (exprs_view items)) row)
  where
    same : (o : Option Row) → option_map (λ rest. [] ++ rest) o ≡ o
    same None = refl
    same (Some rest) = refl

pub row_from-end : (items : List Expr) (row values : Row) → items ≡ [] → row_from items row values ≡ Some values
row_from-end items row values e = ap (λ xs. row_from xs row values) e ∙ ap Some (append_nil values)

pub row_from-more : (item : Expr) (items : List Expr) (row values new : Row) (value : Value) → eval (expr_view item) row ≡ Some value → new ≡ values ++ value ∷ [] → row_from (item ∷ items) row values ≡ row_from items row new
row_from-more item items row values new value e g =
    ap (λ o. option_map (λ rest. values ++ rest) (collect (o ∷ map (λ meaning. meaning row) (map eval (exprs_view items))))) e
    ∙ behind (collect (map (λ meaning. meaning row) (map eval (exprs_view items)))) ∙ ap (row_from items row) (sym g)
  where
    behind : (o : Option Row) → option_map (λ rest. values ++ rest) (option_map (λ others. value ∷ others) o) ≡ option_map (λ rest. (values ++ value ∷ []) ++ rest) o
    behind None = refl
    behind (Some rest) = ap Some (sym (append_assoc values (value ∷ []) rest))

pub row_from-out : (item : Expr) (items : List Expr) (row values : Row) → eval (expr_view item) row ≡ None → row_from (item ∷ items) row values ≡ None
row_from-out item items row values e = ap (λ o. option_map (λ rest. values ++ rest) (collect (o ∷ map (λ meaning. meaning row) (map eval (exprs_view items))))) e

-- ---- values gathered from calls

-- the values so far, and those of what is left
abbrev pub collected : {X : Type 0} → (X → Option Value) → List X → Row → Option Row
collected f items values = option_map (λ rest. values ++ rest) (collect (map f items))

pub collected-start : {X : Type 0} (f : X → Option Value) (items : List X) (values : Row) → values ≡ [] → collected f items values ≡ collect (map f items)
collected-start f items values e = ap (collected f items) e ∙ same (collect (map f items))
  where
    same : (o : Option Row) → option_map (λ rest. [] ++ rest) o ≡ o
    same None = refl
    same (Some rest) = refl

pub collected-end : {X : Type 0} (f : X → Option Value) (items : List X) (values : Row) → items ≡ [] → collected f items values ≡ Some values
collected-end f items values e = ap (λ xs. collected f xs values) e ∙ ap Some (append_nil values)

pub collected-more : {X : Type 0} (f : X → Option Value) (item : X) (items : List X) (values new : Row) (value : Value) → f item ≡ Some value → new ≡ values ++ value ∷ [] → collected f (item ∷ items) values ≡ collected f items new
collected-more f item items values new value e g =
    ap (λ o. option_map (λ rest. values ++ rest) (collect (o ∷ map f items))) e ∙ behind (collect (map f items)) ∙ ap (collected f items) (sym g)
  where
    behind : (o : Option Row) → option_map (λ rest. values ++ rest) (option_map (λ others. value ∷ others) o) ≡ option_map (λ rest. (values ++ value ∷ []) ++ rest) o
    behind None = refl
    behind (Some rest) = ap Some (sym (append_assoc values (value ∷ []) rest))

pub collected-out : {X : Type 0} (f : X → Option Value) (item : X) (items : List X) (values : Row) → f item ≡ None → collected f (item ∷ items) values ≡ None
collected-out f item items values e = ap (λ o. option_map (λ rest. values ++ rest) (collect (o ∷ map f items))) e
