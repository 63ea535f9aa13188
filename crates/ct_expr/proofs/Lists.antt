-- Lists of expressions, as far as a loop has come.
use Rattle.std.proofs.Common.{◌≡◌, ℕ, ◌+◌, ◌<◌, ◌≤◌, length, drop, get_or, List, [], ◌∷◌, Option, Some, None, sym, ap, ◌∙◌, refl, fold, cond, true, false}
use Rattle.std.specs.Prelude.{option_and_then}
use Rattle.std.proofs.lemmas.List.{at_drop_more, drop_all}
use Rattle.ct_value.specs.declared.ty.Ty.{Ty}
use Rattle.ct_expr.specs.declared.expr.Expr.{Expr}
use Rattle.ct_expr.specs.declared.expr.When.{When}
use Rattle.ct_expr.specs.Expr.{exprs, whens}
use Rattle.ct_expr.specs.Types.{ty_of, tys_of, result_tys, with_ty, gather, both_of, begun, joined, type_of, types_of, conds_of, results_of, logic_col, compare_col, case_col, coalesce_col}
use Rattle.ct_value.specs.declared.ty.ColTy.{ColTy}
use Rattle.ct_expr.specs.Eval.{eval, evals, typed_evals, typed, branches}
use Rattle.ct_expr.specs.Values.{or_of, compare_of, first_known, first_chosen, is_true}
use Rattle.ct_value.specs.declared.value.CompareOp.TheVariants.{Eq}
use Rattle.ct_value.specs.declared.value.Value.{Value}
use Rattle.ct_expr.specs.View.{expr_view, exprs_view, whens_view}
use Rattle.ct_expr.proofs.laws.Views.{view_when}

abbrev pub tys_from : Option Ty → List Expr → Option Ty
tys_from o xs = fold (λ o t. Some (with_ty o t)) o (tys_of (exprs (exprs_view xs)))

pub tys_more : (o : Option Ty) (xs : List Expr) (i : ℕ) (x : Expr) → i < length xs → x ≡ get_or xs i x → tys_from o (drop i xs) ≡ tys_from (Some (with_ty o (ty_of (expr_view x)))) (drop (i + 1) xs)
tys_more o xs i x l h = at_drop_more (tys_from o) xs i x l ∙ ap (λ y. tys_from o (y ∷ drop (i + 1) xs)) (sym h)

pub tys_end : (o : Option Ty) (xs : List Expr) (i : ℕ) → length xs ≤ i → tys_from o (drop i xs) ≡ o
tys_end o xs i l = ap (tys_from o) (drop_all i xs l)

abbrev pub results_from : Option Ty → List When → Option Ty
results_from o ws = fold (λ o t. Some (with_ty o t)) o (result_tys (whens (whens_view ws)))

pub results_more : (o : Option Ty) (ws : List When) (i : ℕ) (w : When) → i < length ws → w ≡ get_or ws i w → results_from o (drop i ws) ≡ results_from (Some (with_ty o (ty_of (expr_view w.result)))) (drop (i + 1) ws)
results_more o ws i w l h =
    at_drop_more (results_from o) ws i w l ∙ ap (λ y. results_from o (y ∷ drop (i + 1) ws)) (sym h)
    ∙ ap (λ v. fold (λ o t. Some (with_ty o t)) (Some (with_ty o (ty_of v.1))) (result_tys (whens (whens_view (drop (i + 1) ws))))) (view_when w)

pub results_end : (o : Option Ty) (ws : List When) (i : ℕ) → length ws ≤ i → results_from o (drop i ws) ≡ o
results_end o ws i l = ap (results_from o) (drop_all i ws l)

-- ---- values

pub gather_none : {A B : Type 0} (f : A → B → Option A) (os : List (Option B)) → gather f None os ≡ None
gather_none f [] = refl
gather_none f (o ∷ os) = gather_none f os

abbrev pub all_from : (Value → Value → Value) → List Value → Option Value → List Expr → Option Value
all_from f row o xs = gather (λ v w. Some (f v w)) o (evals (exprs (exprs_view xs)) row)

abbrev pub items_from : Ty → Value → List Value → Option Value → List Expr → Option Value
items_from s v row o xs = gather (λ a w. Some (or_of a (compare_of Eq s w.0 v w.1))) o (typed_evals (exprs (exprs_view xs)) row)

abbrev pub known_from : List Value → List Expr → Option Value
known_from row xs = first_known (evals (exprs (exprs_view xs)) row)

abbrev pub chosen_from : List Value → Option Value → List When → Option Value
chosen_from row o ws = first_chosen (branches (whens (whens_view ws)) row) o

-- one that is out of range makes the whole so
pub all_out : (f : Value → Value → Value) (row : List Value) (a : Value) (xs : List Expr) (i : ℕ) (x : Expr) → i < length xs → x ≡ get_or xs i x → None ≡ eval (expr_view x) row → None ≡ all_from f row (Some a) (drop i xs)
all_out f row a xs i x l h n =
    sym (at_drop_more (all_from f row (Some a)) xs i x l ∙ ap (λ y. all_from f row (Some a) (y ∷ drop (i + 1) xs)) (sym h)
    ∙ ap (λ o. gather (λ v w. Some (f v w)) (both_of (λ v w. Some (f v w)) (Some a) o) (evals (exprs (exprs_view (drop (i + 1) xs))) row)) (sym n)
    ∙ gather_none (λ (v w : Value). Some (f v w)) (evals (exprs (exprs_view (drop (i + 1) xs))) row))

pub items_out : (s : Ty) (v : Value) (row : List Value) (a : Value) (xs : List Expr) (i : ℕ) (x : Expr) → i < length xs → x ≡ get_or xs i x → None ≡ eval (expr_view x) row → None ≡ items_from s v row (Some a) (drop i xs)
items_out s v row a xs i x l h n =
    sym (at_drop_more (items_from s v row (Some a)) xs i x l ∙ ap (λ y. items_from s v row (Some a) (y ∷ drop (i + 1) xs)) (sym h)
    ∙ ap (λ o. gather (λ a w. Some (or_of a (compare_of Eq s w.0 v w.1))) (both_of (λ a w. Some (or_of a (compare_of Eq s w.0 v w.1))) (Some a) (typed (ty_of (expr_view x)) o)) (typed_evals (exprs (exprs_view (drop (i + 1) xs))) row)) (sym n)
    ∙ gather_none (λ (a : Value) (w : Ty × Value). Some (or_of a (compare_of Eq s w.0 v w.1))) (typed_evals (exprs (exprs_view (drop (i + 1) xs))) row))

chosen_step : (row : List Value) (o : Option Value) (ws : List When) (i : ℕ) (w : When) → i < length ws → w ≡ get_or ws i w
    → chosen_from row o (drop i ws) ≡ option_and_then (λ c. cond (is_true c) (eval (expr_view w.result) row) (chosen_from row o (drop (i + 1) ws))) (eval (expr_view w.cond) row)
chosen_step row o ws i w l h =
    at_drop_more (chosen_from row o) ws i w l ∙ ap (λ y. chosen_from row o (y ∷ drop (i + 1) ws)) (sym h)
    ∙ ap (λ v. option_and_then (λ c. cond (is_true c) (eval v.1 row) (chosen_from row o (drop (i + 1) ws))) (eval v.0 row)) (view_when w)

pub chosen_more : (row : List Value) (o : Option Value) (ws : List When) (i : ℕ) (w : When) (c : Value) → i < length ws → w ≡ get_or ws i w → Some c ≡ eval (expr_view w.cond) row → is_true c ≡ false
    → chosen_from row o (drop i ws) ≡ chosen_from row o (drop (i + 1) ws)
chosen_more row o ws i w c l h e t = chosen_step row o ws i w l h ∙ rw (← e, t) refl

pub chosen_here : (row : List Value) (o : Option Value) (ws : List When) (i : ℕ) (w : When) (c : Value) → i < length ws → w ≡ get_or ws i w → Some c ≡ eval (expr_view w.cond) row → is_true c ≡ true
    → chosen_from row o (drop i ws) ≡ eval (expr_view w.result) row
chosen_here row o ws i w c l h e t = chosen_step row o ws i w l h ∙ rw (← e, t) refl

pub chosen_out : (row : List Value) (o : Option Value) (ws : List When) (i : ℕ) (w : When) → i < length ws → w ≡ get_or ws i w → None ≡ eval (expr_view w.cond) row
    → chosen_from row o (drop i ws) ≡ None
chosen_out row o ws i w l h e = chosen_step row o ws i w l h ∙ rw (← e) refl

-- ---- types

abbrev pub truths_from : List ColTy → Option ColTy → List Expr → Option ColTy
truths_from cols o xs = gather logic_col o (types_of (exprs (exprs_view xs)) cols)

abbrev pub conds_from : List ColTy → Option ColTy → List When → Option ColTy
conds_from cols o ws = gather logic_col o (conds_of (whens (whens_view ws)) cols)

abbrev pub equalities_from : ColTy → List ColTy → Option ColTy → List Expr → Option ColTy
equalities_from c cols o xs = gather (λ (a d : ColTy). both_of logic_col (Some a) (compare_col c d)) o (types_of (exprs (exprs_view xs)) cols)

abbrev pub coalesced_from : List ColTy → Option ColTy → List Expr → Option ColTy
coalesced_from cols o xs = joined coalesce_col o (types_of (exprs (exprs_view xs)) cols)

abbrev pub results_cols_from : List ColTy → Option ColTy → List When → Option ColTy
results_cols_from cols o ws = joined case_col o (results_of (whens (whens_view ws)) cols)

pub truths_out : (cols : List ColTy) (a : ColTy) (xs : List Expr) (i : ℕ) (x : Expr) → i < length xs → x ≡ get_or xs i x → None ≡ both_of logic_col (Some a) (type_of (expr_view x) cols) → None ≡ truths_from cols (Some a) (drop i xs)
truths_out cols a xs i x l h n =
    sym (at_drop_more (truths_from cols (Some a)) xs i x l ∙ ap (λ y. truths_from cols (Some a) (y ∷ drop (i + 1) xs)) (sym h)
    ∙ ap (λ o. truths_from cols o (drop (i + 1) xs)) (sym n) ∙ gather_none logic_col (types_of (exprs (exprs_view (drop (i + 1) xs))) cols))

pub in_list_out : (c : ColTy) (cols : List ColTy) (a : ColTy) (xs : List Expr) (i : ℕ) (x : Expr) → i < length xs → x ≡ get_or xs i x → None ≡ both_of (λ (a d : ColTy). both_of logic_col (Some a) (compare_col c d)) (Some a) (type_of (expr_view x) cols) → None ≡ equalities_from c cols (Some a) (drop i xs)
in_list_out c cols a xs i x l h n =
    sym (at_drop_more (equalities_from c cols (Some a)) xs i x l ∙ ap (λ y. equalities_from c cols (Some a) (y ∷ drop (i + 1) xs)) (sym h)
    ∙ ap (λ o. equalities_from c cols o (drop (i + 1) xs)) (sym n) ∙ gather_none (λ (a d : ColTy). both_of logic_col (Some a) (compare_col c d)) (types_of (exprs (exprs_view (drop (i + 1) xs))) cols))

conds_step : (cols : List ColTy) (o : Option ColTy) (ws : List When) (i : ℕ) (w : When) → i < length ws → w ≡ get_or ws i w
    → conds_from cols o (drop i ws) ≡ conds_from cols (both_of logic_col o (type_of (expr_view w.cond) cols)) (drop (i + 1) ws)
conds_step cols o ws i w l h =
    at_drop_more (conds_from cols o) ws i w l ∙ ap (λ y. conds_from cols o (y ∷ drop (i + 1) ws)) (sym h)
    ∙ ap (λ v. conds_from cols (both_of logic_col o (type_of v.0 cols)) (drop (i + 1) ws)) (view_when w)

pub conds_more : (cols : List ColTy) (a b : ColTy) (ws : List When) (i : ℕ) (w : When) → i < length ws → w ≡ get_or ws i w → Some b ≡ both_of logic_col (Some a) (type_of (expr_view w.cond) cols)
    → conds_from cols (Some a) (drop i ws) ≡ conds_from cols (Some b) (drop (i + 1) ws)
conds_more cols a b ws i w l h e = conds_step cols (Some a) ws i w l h ∙ ap (λ o. conds_from cols o (drop (i + 1) ws)) (sym e)

pub conds_out : (cols : List ColTy) (a : ColTy) (ws : List When) (i : ℕ) (w : When) → i < length ws → w ≡ get_or ws i w → None ≡ both_of logic_col (Some a) (type_of (expr_view w.cond) cols)
    → None ≡ conds_from cols (Some a) (drop i ws)
conds_out cols a ws i w l h e = sym (conds_step cols (Some a) ws i w l h ∙ ap (λ o. conds_from cols o (drop (i + 1) ws)) (sym e) ∙ gather_none logic_col (conds_of (whens (whens_view (drop (i + 1) ws))) cols))

cols_step : (cols : List ColTy) (o : Option ColTy) (ws : List When) (i : ℕ) (w : When) → i < length ws → w ≡ get_or ws i w
    → results_cols_from cols o (drop i ws) ≡ option_and_then (λ b. results_cols_from cols (Some b) (drop (i + 1) ws)) (begun case_col o (type_of (expr_view w.result) cols))
cols_step cols o ws i w l h =
    at_drop_more (results_cols_from cols o) ws i w l ∙ ap (λ y. results_cols_from cols o (y ∷ drop (i + 1) ws)) (sym h)
    ∙ ap (λ v. option_and_then (λ b. results_cols_from cols (Some b) (drop (i + 1) ws)) (begun case_col o (type_of v.1 cols))) (view_when w)

pub cols_more : (cols : List ColTy) (o : Option ColTy) (b : ColTy) (ws : List When) (i : ℕ) (w : When) → i < length ws → w ≡ get_or ws i w → Some b ≡ begun case_col o (type_of (expr_view w.result) cols)
    → results_cols_from cols o (drop i ws) ≡ results_cols_from cols (Some b) (drop (i + 1) ws)
cols_more cols o b ws i w l h e = cols_step cols o ws i w l h ∙ ap (λ p. option_and_then (λ b. results_cols_from cols (Some b) (drop (i + 1) ws)) p) (sym e)

pub cols_out : (cols : List ColTy) (o : Option ColTy) (ws : List When) (i : ℕ) (w : When) → i < length ws → w ≡ get_or ws i w → None ≡ begun case_col o (type_of (expr_view w.result) cols)
    → None ≡ results_cols_from cols o (drop i ws)
cols_out cols o ws i w l h e = sym (cols_step cols o ws i w l h ∙ ap (λ p. option_and_then (λ b. results_cols_from cols (Some b) (drop (i + 1) ws)) p) (sym e))
