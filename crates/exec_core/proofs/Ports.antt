-- Numbers below a bound, each of which stands once in a list, are no more than the bound.
use Rattle.std.specs.Prelude.{◌≡◌, ◌≢◌, ℕ, ◌<◌, ◌≤◌, ◌==◌, cond, List, length, slice_get}
use Rattle.std.proofs.Common.{zero, suc, [], ◌∷◌, refl, sym, ap, subst, ◌∙◌, arith, Some}
use Rattle.std.specs.List.{AllByRecursion}
use Rattle.std.proofs.lemmas.Bool.{eqb-true, eqb-false}
use Rattle.sound_plans.proofs.laws.Lists.{of_each}
use Rattle.sound_plans.proofs.laws.Consumers.{by_test}

-- those that aren't this one
abbrev others : ℕ → List ℕ → List ℕ
others m [] = []
others m (x ∷ xs) = cond (x == m) (others m xs) (x ∷ others m xs)

abbrev AreApart : List ℕ → Type 0
AreApart [] = Unit {0}
AreApart (x ∷ xs) = AllByRecursion (λ y. y ≢ x) xs × AreApart xs

kept : (P : ℕ → Type 0) (m : ℕ) (xs : List ℕ) → AllByRecursion P xs → AllByRecursion P (others m xs)
kept P m [] h = tt
kept P m (x ∷ xs) h =
    by_test (x == m)
    (λ t. subst (λ b. AllByRecursion P (cond b (others m xs) (x ∷ others m xs))) (sym t) (kept P m xs h.1))
    (λ f. subst (λ b. AllByRecursion P (cond b (others m xs) (x ∷ others m xs))) (sym f) (h.0, kept P m xs h.1))

kept_apart : (m : ℕ) (xs : List ℕ) → AreApart xs → AreApart (others m xs)
kept_apart m [] h = tt
kept_apart m (x ∷ xs) h =
    by_test (x == m)
    (λ t. subst (λ b. AreApart (cond b (others m xs) (x ∷ others m xs))) (sym t) (kept_apart m xs h.1))
    (λ f. subst (λ b. AreApart (cond b (others m xs) (x ∷ others m xs))) (sym f) (kept (λ y. y ≢ x) m xs h.0, kept_apart m xs h.1))

-- without the largest that may stand there, the bound is lower
lower : (m : ℕ) (xs : List ℕ) → AllByRecursion (λ x. x < suc m) xs → AllByRecursion (λ x. x < m) (others m xs)
lower m [] h = tt
lower m (x ∷ xs) h =
    by_test (x == m)
    (λ t. subst (λ b. AllByRecursion (λ y. y < m) (cond b (others m xs) (x ∷ others m xs))) (sym t) (lower m xs h.1))
    (λ f.
    let apart = eqb-false x m f in
    let below = h.0 in
    subst (λ b. AllByRecursion (λ y. y < m) (cond b (others m xs) (x ∷ others m xs))) (sym f) (omega (arith, apart, below), lower m xs h.1))

absent : (m : ℕ) (xs : List ℕ) → AllByRecursion (λ y. y ≢ m) xs → others m xs ≡ xs
absent m [] h = refl
absent m (x ∷ xs) h =
    by_test (x == m)
    (λ t. absurd (h.0 (eqb-true x m t)))
    (λ f. ap (λ b. cond b (others m xs) (x ∷ others m xs)) f ∙ ap (λ ys. x ∷ ys) (absent m xs h.1))

-- and the list shorter by one at most
shorter : (m : ℕ) (xs : List ℕ) → AreApart xs → length xs ≤ suc (length (others m xs))
shorter m [] h = omega arith
shorter m (x ∷ xs) h =
    by_test (x == m)
    (λ t.
    let rest : others m (x ∷ xs) ≡ xs = ap (λ b. cond b (others m xs) (x ∷ others m xs)) t ∙ absent m xs (subst (λ n. AllByRecursion (λ y. y ≢ n) xs) (eqb-true x m t) h.0) in
    let same = ap length rest in
    omega (arith, same))
    (λ f.
    let rest : others m (x ∷ xs) ≡ x ∷ others m xs = ap (λ b. cond b (others m xs) (x ∷ others m xs)) f in
    let same = ap length rest in
    omega (arith, same, shorter m xs h.1))

few : (n : ℕ) (xs : List ℕ) → AllByRecursion (λ x. x < n) xs → AreApart xs → length xs ≤ n
few zero [] below apart = omega arith
few zero (x ∷ xs) below apart = let none = below.0 in absurd (omega (arith, none))
few (suc n) xs below apart = let less = few n (others n xs) (lower n xs below) (kept_apart n xs apart) in omega (arith, less, shorter n xs apart)

apart_by : (xs : List ℕ) → ((p q x : ℕ) → slice_get xs p ≡ Some x → slice_get xs q ≡ Some x → q ≡ p) → AreApart xs
apart_by [] once = tt
apart_by (x ∷ xs) once = (
  of_each (λ y. y ≢ x) xs (λ n y e same. let h : suc n ≡ 0 = once 0 (suc n) x refl (e ∙ ap (λ z. Some z) same) in omega (arith, h)),
  apart_by xs (λ p q y e f. let h : suc q ≡ suc p = once (suc p) (suc q) y e f in omega (arith, h)),
)

pub few_once : (n : ℕ) (xs : List ℕ) → AllByRecursion (λ x. x < n) xs → ((p q x : ℕ) → slice_get xs p ≡ Some x → slice_get xs q ≡ Some x → q ≡ p) → length xs ≤ n
few_once n xs below once = few n xs below (apart_by xs once)
