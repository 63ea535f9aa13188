-- Sums over lists: of filtered, mapped and nested lists, and sums that balance term by term.
use Rattle.std.proofs.Common.{◌≡◌, ℕ, ◌+◌, ◌≤◌, Bool, true, false, cond, ◌&&◌, List, [], ◌∷◌, map, filter, flat_map, refl, sym, ap, arith}
use Rattle.ct_value.specs.Bag.{weigh}
use Rattle.ct_value.proofs.laws.Bags.{weigh-append, weigh-sum}

pub weigh-same : {A : Type 0} (f g : A → ℕ) → ((x : A) → f x ≡ g x) → (xs : List A) → weigh f xs ≡ weigh g xs
weigh-same f g h [] = refl
weigh-same f g h (x ∷ xs) = omega (arith, h x, weigh-same f g h xs)

pub weigh-le : {A : Type 0} (f g : A → ℕ) → ((x : A) → f x ≤ g x) → (xs : List A) → weigh f xs ≤ weigh g xs
weigh-le f g h [] = omega arith
weigh-le f g h (x ∷ xs) = omega (arith, h x, weigh-le f g h xs)

pub weigh-nothing : {A : Type 0} (xs : List A) → weigh (λ _. 0) xs ≡ 0
weigh-nothing [] = refl
weigh-nothing (x ∷ xs) = omega (arith, weigh-nothing xs)

-- where the terms balance, so do the sums
pub weigh-balance : {A : Type 0} (f g h k : A → ℕ) → ((x : A) → f x + g x ≡ h x + k x) → (xs : List A) → weigh f xs + weigh g xs ≡ weigh h xs + weigh k xs
weigh-balance f g h k e [] = refl
weigh-balance f g h k e (x ∷ xs) = omega (arith, e x, weigh-balance f g h k e xs)

pub weigh-filter : {A : Type 0} (f : A → ℕ) (p : A → Bool) (xs : List A) → weigh f (filter p xs) ≡ weigh (λ x. cond (p x) (f x) 0) xs
weigh-filter f p [] = refl
weigh-filter f p (x ∷ xs) =
    elim (p x) as (λ b. weigh f (cond b (x ∷ filter p xs) (filter p xs)) ≡ cond b (f x) 0 + weigh (λ x. cond (p x) (f x) 0) xs) [
      | true ↦ omega (arith, weigh-filter f p xs)
      | false ↦ omega (arith, weigh-filter f p xs)
    ]

pub weigh-map : {A B : Type 0} (f : B → ℕ) (g : A → B) (xs : List A) → weigh f (map g xs) ≡ weigh (λ x. f (g x)) xs
weigh-map f g [] = refl
weigh-map f g (x ∷ xs) = omega (arith, weigh-map f g xs)

pub weigh-flat_map : {A B : Type 0} (f : B → ℕ) (g : A → List B) (xs : List A) → weigh f (flat_map g xs) ≡ weigh (λ x. weigh f (g x)) xs
weigh-flat_map f g [] = refl
weigh-flat_map f g (x ∷ xs) = omega (arith, weigh-append f (g x) (flat_map g xs), weigh-flat_map f g xs)

-- the order of two sums
pub weigh-swap : {A B : Type 0} (f : A → B → ℕ) (xs : List A) (ys : List B) → weigh (λ x. weigh (f x) ys) xs ≡ weigh (λ y. weigh (λ x. f x y) xs) ys
weigh-swap f [] ys = sym (weigh-nothing ys)
weigh-swap f (x ∷ xs) ys = omega (arith, weigh-swap f xs ys, weigh-sum (f x) (λ y. weigh (λ x. f x y) xs) ys)

-- ---- a row of one side, seen when a row of the other comes beside those that it matches

-- what it was as long as it had no match goes, and what it is with a match comes
pub turns : (now none_before none_after unmatched matched : Bool) (w : ℕ) → (now ≡ true → none_after ≡ false) → (now ≡ false → none_after ≡ none_before)
    → cond (cond none_after unmatched matched) w 0 + cond now (cond (none_before && unmatched) w 0) 0 ≡ cond (cond none_before unmatched matched) w 0 + cond now (cond (none_before && matched) w 0) 0
turns false b false u m w h k = ap (λ c. cond (cond c u m) w 0 + 0) (k refl)
turns false b true u m w h k = ap (λ c. cond (cond c u m) w 0 + 0) (k refl)
turns true b true u m w h k = absurd (let e = h refl in cc)
turns true true false u m w h k = omega arith
turns true false false u m w h k = refl

-- what goes stood
pub turns-le : (now none unmatched matched : Bool) (w : ℕ) → cond now (cond (none && unmatched) w 0) 0 ≤ cond (cond none unmatched matched) w 0
turns-le false none u m w = omega arith
turns-le true true u m w = omega arith
turns-le true false u m w = omega arith
