-- Tables by their names, and conditions of which there is one.
use Rattle.std.proofs.Common.{◌≡◌, ℕ, suc, ◌+◌, ◌<◌, List, [], ◌∷◌, ◌++◌, Some, true, false, cond, length, drop, get_or, refl, sym, ap, ◌∙◌, length-append, arith}
use Rattle.std.specs.Str.{bytes_eq}
use Rattle.std.proofs.lemmas.List.{at_drop_more}
use Rattle.ct_catalog.specs.declared.table.TableDef.{TableDef}
use Rattle.ct_expr.specs.declared.expr.Expr.{Expr}
use Rattle.ct_expr.specs.Expr.{And, exprs}
use Rattle.ct_expr.specs.View.{expr_view, exprs_view}
use Rattle.binding.specs.Nodes.{Bound, expr_list}
use Rattle.binding.specs.Queries.{all_of, find_source}
use Rattle.bind_clauses.specs.Conditions.{one_or_all}

step : (n : ℕ) (xs : List TableDef) (name : List ℕ) (i : ℕ) (x : TableDef) → i < length xs → x ≡ get_or xs i x
    → find_source n (drop i xs) name ≡ cond (bytes_eq name x.name) (Some (n, x)) (find_source (suc n) (drop (i + 1) xs) name)
step n xs name i x l h = at_drop_more (λ ys. find_source n ys name) xs i x l ∙ ap (λ y. find_source n (y ∷ drop (i + 1) xs) name) (sym h)

pub here : (n : ℕ) (xs : List TableDef) (name : List ℕ) (i : ℕ) (x : TableDef) → i < length xs → x ≡ get_or xs i x → bytes_eq name x.name ≡ true → find_source n (drop i xs) name ≡ Some (n, x)
here n xs name i x l h e = step n xs name i x l h ∙ ap (λ b. cond b (Some (n, x)) (find_source (suc n) (drop (i + 1) xs) name)) e

pub not_here : (n m : ℕ) (xs : List TableDef) (name : List ℕ) (i : ℕ) (x : TableDef) → i < length xs → x ≡ get_or xs i x → bytes_eq name x.name ≡ false → m ≡ n + 1
    → find_source n (drop i xs) name ≡ find_source m (drop (i + 1) xs) name
not_here n m xs name i x l h e k =
    step n xs name i x l h ∙ ap (λ b. cond b (Some (n, x)) (find_source (suc n) (drop (i + 1) xs) name)) e
    ∙ ap (λ j. find_source j (drop (i + 1) xs) name) (let one : suc n ≡ m = omega arith in one)

-- ---- one condition, and several

pub as_one : (bs : List Bound) → one_or_all (expr_list bs) ≡ all_of bs
as_one [] = refl
as_one (b ∷ []) = refl
as_one (b ∷ c ∷ bs) = refl

-- the last of one expression
pub only_one : (xs ys : List Expr) (x : Expr) → length xs ≡ 1 → xs ≡ ys ++ x ∷ [] → expr_view x ≡ one_or_all (exprs_view xs)
only_one xs [] x l h = sym (ap (λ zs. one_or_all (exprs_view zs)) h)
only_one xs (y ∷ ys) x l h = absurd (omega (arith, ap length h, length-append ys (x ∷ [])))

pub not_one : (xs : List Expr) → ¬ (length xs ≡ 1) → And (exprs (exprs_view xs)) ≡ one_or_all (exprs_view xs)
not_one [] l = refl
not_one (x ∷ []) l = absurd (l refl)
not_one (x ∷ y ∷ xs) l = refl
