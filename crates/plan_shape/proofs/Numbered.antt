-- Lists of the columns of nodes.
use Rattle.std.proofs.Common.{◌≡◌, ℕ, suc, ◌+◌, ◌<◌, ◌≤◌, ◌==◌, true, false, List, [], ◌∷◌, length, map, drop, get_or, Option, None, refl, sym, ap, ◌∙◌, arith}
use Rattle.std.proofs.lemmas.Bool.{eqb-true}
use Rattle.std.proofs.lemmas.List.{at_drop_more, drop_all}
use Rattle.ct_value.specs.declared.ty.ColTy.{ColTy}
use Rattle.ct_expr.specs.Expr.{Expr}
use Rattle.ct_expr.specs.Types.{both_of}
use Rattle.rel_algebra.specs.declared.join.Pair.{Pair}
use Rattle.rel_algebra.specs.Types.{columns_if, match_fits, pairs_fit}
use Rattle.plan_rules.specs.Columns.{common_of, common_with, matched_columns, only}

-- ---- inputs

pub only-one : (f : ℕ → Option (List ColTy)) (inputs : List ℕ) → length inputs ≡ 1 → only (map f inputs) ≡ f (get_or inputs 0 0)
only-one f [] e = absurd (omega (arith, e))
only-one f (input ∷ []) e = refl
only-one f (input ∷ other ∷ inputs) e = absurd (omega (arith, e))

pub not-one : (f : ℕ → Option (List ColTy)) (inputs : List ℕ) → (length inputs ≡ 1 → ⊥) → only (map f inputs) ≡ None
not-one f [] h = refl
not-one f (input ∷ []) h = absurd (h refl)
not-one f (input ∷ other ∷ inputs) h = refl

pub common-none : (f : ℕ → Option (List ColTy)) (inputs : List ℕ) → (length inputs == 0) ≡ true → common_of (map f inputs) ≡ None
common-none f [] e = refl
common-none f (input ∷ inputs) e = absurd (let l : suc (length inputs) ≡ 0 = eqb-true (length (input ∷ inputs)) 0 e in omega (arith, l))

pub common-first : (f : ℕ → Option (List ColTy)) (inputs : List ℕ) → (length inputs == 0) ≡ false → common_with (f (get_or inputs 0 0)) (map f (drop 1 inputs)) ≡ common_of (map f inputs)
common-first f [] e = absurd (cc)
common-first f (input ∷ inputs) e = refl

pub common-more : (f : ℕ → Option (List ColTy)) (common : Option (List ColTy)) (inputs : List ℕ) (i : ℕ) → i < length inputs → common_with common (map f (drop i inputs)) ≡ common_with common (map f (get_or inputs i 0 ∷ drop (i + 1) inputs))
common-more f common inputs i l = at_drop_more (λ (xs : List ℕ). common_with common (map f xs)) inputs i 0 l

pub common-end : (f : ℕ → Option (List ColTy)) (common : Option (List ColTy)) (inputs : List ℕ) (i : ℕ) → length inputs ≤ i → common_with common (map f (drop i inputs)) ≡ common
common-end f common inputs i l = ap (λ (xs : List ℕ). common_with common (map f xs)) (drop_all i inputs l)

-- ---- joins

module _ (f : ℕ → Option (List ColTy)) (on : List Pair) (rest : Option Expr) (made : List ColTy → List ColTy → List ColTy) where
  pub two-inputs : (inputs : List ℕ) → length inputs ≡ 2 → both_of (λ l r. columns_if (match_fits l r on rest) (made l r)) (f (get_or inputs 0 0)) (f (get_or inputs 1 0)) ≡ matched_columns on rest made (map f inputs)
  two-inputs [] e = absurd (omega (arith, e))
  two-inputs (left ∷ []) e = absurd (omega (arith, e))
  two-inputs (left ∷ right ∷ []) e = refl
  two-inputs (left ∷ right ∷ other ∷ inputs) e = absurd (omega (arith, e))

  pub not-two : (inputs : List ℕ) → (length inputs ≡ 2 → ⊥) → matched_columns on rest made (map f inputs) ≡ None
  not-two [] h = refl
  not-two (left ∷ []) h = refl
  not-two (left ∷ right ∷ []) h = absurd (h refl)
  not-two (left ∷ right ∷ other ∷ inputs) h = refl

pub pairs-more : (left right : List ColTy) (on : List Pair) (i : ℕ) (pair : Pair) → i < length on → pair ≡ get_or on i pair → pairs_fit left right (drop i on) ≡ pairs_fit left right (pair ∷ drop (i + 1) on)
pairs-more left right on i pair l e = at_drop_more (pairs_fit left right) on i pair l ∙ ap (λ p. pairs_fit left right (p ∷ drop (i + 1) on)) (sym e)

pub pairs-end : (left right : List ColTy) (on : List Pair) (i : ℕ) → length on ≤ i → pairs_fit left right (drop i on) ≡ true
pairs-end left right on i l = ap (pairs_fit left right) (drop_all i on l)
