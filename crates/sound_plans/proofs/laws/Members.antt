-- Members of lists, and of lists that are made of others.
use Rattle.std.specs.Prelude.{◌≡◌, ℕ, ◌<◌, ◌⊎◌, Bool, cond, ◌||◌, ◌&&◌, List, ◌++◌, length, map, filter, take, fold, slice_index_or}
use Rattle.std.proofs.Common.{zero, suc, true, false, [], ◌∷◌, refl, sym, ap, subst, ◌∙◌, inl, inr, ⊎_elim, arith}
use Rattle.std.proofs.lemmas.List.Elements.{All-from_recursion, All-contains, All-contains_itself, All-take, All-weaker, Contains-append_cases}
use Rattle.std.proofs.lemmas.Map.Lookups.{CmpEqualImpliesEq}
use Rattle.std.proofs.lemmas.Map.Views.{All-insert_key}
use Rattle.std.specs.BTreeSet.{insert_key}
use Rattle.std.specs.List.{AllByRecursion, Contains, list_any, list_all, flat_map}
use Rattle.std.specs.Ordering.{match_ordering}
use Rattle.std.specs.declared.cmp.Ordering.{Ordering}
use Rattle.std.specs.declared.cmp.Ordering.TheVariants.{Less, Equal, Greater}

-- ---- the first member and the others

pub none : {X : Type 0} (x : X) → Contains {X = X} [] x → ⊥
none x c = omega (arith, c.1)

pub here : {X : Type 0} (x : X) (xs : List X) → Contains (x ∷ xs) x
here x xs = (0, omega arith, refl)

pub there : {X : Type 0} (y : X) (xs : List X) (x : X) → Contains xs x → Contains (y ∷ xs) x
there y xs x c = (suc c.0, omega (arith, c.1), c.2)

pub first_or : {X : Type 0} (y : X) (xs : List X) (x : X) → Contains (y ∷ xs) x → (y ≡ x) ⊎ Contains xs x
first_or {X = X} y xs x c = go c.0 c.1 c.2
  where
    go : (k : ℕ) → k < length (y ∷ xs) → slice_index_or (y ∷ xs) k x ≡ x → (y ≡ x) ⊎ Contains xs x
    go zero l e = inl e
    go (suc k) l e = inr (k, omega (arith, l), e)

pub only_one : {X : Type 0} (y x : X) → Contains (y ∷ []) x → y ≡ x
only_one y x c = ⊎_elim (λ e. e) (λ d. absurd (none x d)) (first_or y [] x c)

-- ---- what holds of each member

pub one_of : {X : Type 0} (P : X → Type 0) (xs : List X) (x : X) → AllByRecursion P xs → Contains xs x → P x
one_of P xs x h c = All-contains P xs x (All-from_recursion P xs h) c

pub each_of : {X : Type 0} (P : X → Type 0) (xs : List X) → ((x : X) → Contains xs x → P x) → AllByRecursion P xs
each_of P [] h = tt
each_of P (y ∷ ys) h = (h y (here y ys), each_of P ys (λ x c. h x (there y ys x c)))

-- of the members of one list alone, where each member of another is one of them
pub each_among : {X : Type 0} (P : X → Type 0) (xs ys : List X) → ((x : X) → Contains ys x → Contains xs x) → AllByRecursion P xs → AllByRecursion P ys
each_among P xs ys among h = each_of P ys (λ x c. one_of P xs x h (among x c))

-- ---- members of what is made of a list

pub of_append : {X : Type 0} (xs ys : List X) (x : X) → Contains (xs ++ ys) x → Contains xs x ⊎ Contains ys x
of_append xs ys x c = Contains-append_cases xs ys x c

pub of_map : {X Y : Type 0} (f : X → Y) (xs : List X) (y : Y) → Contains (map f xs) y → (x : X) × Contains xs x × (f x ≡ y)
of_map f [] y c = absurd (none y c)
of_map {X = X} f (x ∷ xs) y c =
    ⊎_elim
    (λ e. (x, here x xs, e))
    (λ d. let h = of_map f xs y d in (h.0, there x xs h.0 h.1, h.2))
    (first_or (f x) (map f xs) y c)

pub in_map : {X Y : Type 0} (f : X → Y) (xs : List X) (x : X) → Contains xs x → Contains (map f xs) (f x)
in_map f [] x c = absurd (none x c)
in_map f (y ∷ xs) x c =
    ⊎_elim
    (λ e. subst (λ z. Contains (map f (y ∷ xs)) (f z)) e (here (f y) (map f xs)))
    (λ d. there (f y) (map f xs) (f x) (in_map f xs x d))
    (first_or y xs x c)

pub of_filter : {X : Type 0} (test : X → Bool) (xs : List X) (x : X) → Contains (filter test xs) x → Contains xs x × (test x ≡ true)
of_filter test [] x c = absurd (none x c)
of_filter {X = X} test (y ∷ xs) x c = go (of_filter test xs x) (test y) refl c
  where
    go : (Contains (filter test xs) x → Contains xs x × (test x ≡ true)) → (b : Bool) → test y ≡ b → Contains (cond b (y ∷ filter test xs) (filter test xs)) x → Contains (y ∷ xs) x × (test x ≡ true)
    go others true is d =
        ⊎_elim
        (λ e. (subst (λ z. Contains (y ∷ xs) z) e (here y xs), ap test (sym e) ∙ is))
        (λ m. let h = others m in (there y xs x h.0, h.1))
        (first_or y (filter test xs) x d)
    go others false is d = let h = others d in (there y xs x h.0, h.1)

pub of_take : {X : Type 0} (n : ℕ) (xs : List X) (x : X) → Contains (take n xs) x → Contains xs x
of_take n xs x c = All-contains (Contains xs) (take n xs) x (All-take (Contains xs) n xs (All-contains_itself xs)) c

pub of_flat_map : {X Y : Type 0} (f : X → List Y) (xs : List X) (y : Y) → Contains (flat_map f xs) y → (x : X) × Contains xs x × Contains (f x) y
of_flat_map f [] y c = absurd (none y c)
of_flat_map f (x ∷ xs) y c =
    ⊎_elim
    (λ d. (x, here x xs, d))
    (λ d. let h = of_flat_map f xs y d in (h.0, there x xs h.0 h.1, h.2))
    (of_append (f x) (flat_map f xs) y c)

-- ---- tests

pub one_passes : {X : Type 0} (test : X → Bool) (xs : List X) → list_any test xs ≡ true → (x : X) × Contains xs x × (test x ≡ true)
one_passes test [] e = absurd (cc)
one_passes {X = X} test (y ∷ xs) e = go (one_passes test xs) (test y) refl e
  where
    go : (list_any test xs ≡ true → (x : X) × Contains xs x × (test x ≡ true)) → (b : Bool) → test y ≡ b → (b || list_any test xs) ≡ true → (x : X) × Contains (y ∷ xs) x × (test x ≡ true)
    go others true is i = (y, here y xs, is)
    go others false is i = let h = others i in (h.0, there y xs h.0 h.1, h.2)

pub each_passes : {X : Type 0} (test : X → Bool) (xs : List X) (x : X) → list_all test xs ≡ true → Contains xs x → test x ≡ true
each_passes test [] x e c = absurd (none x c)
each_passes {X = X} test (y ∷ xs) x e c = go (each_passes test xs x) (test y) refl e
  where
    go : (list_all test xs ≡ true → Contains xs x → test x ≡ true) → (b : Bool) → test y ≡ b → (b && list_all test xs) ≡ true → test x ≡ true
    go others true is i = ⊎_elim (λ same. ap test (sym same) ∙ is) (λ d. others i d) (first_or y xs x c)
    go others false is i = absurd (cc)

-- ---- members of what is sorted in

module _ {K : Type 0} (cmp : K → K → Ordering) where
  of_insert : (xs : List K) (k x : K) → Contains (insert_key cmp xs k) x → Contains xs x ⊎ (k ≡ x)
  of_insert xs k x c =
      All-contains (λ y. Contains xs y ⊎ (k ≡ y)) (insert_key cmp xs k) x
      (All-insert_key cmp k (λ y. Contains xs y ⊎ (k ≡ y)) xs (All-weaker (Contains xs) (λ y. Contains xs y ⊎ (k ≡ y)) (λ y d. inl d) xs (All-contains_itself xs)) (inr refl)) c

  pub of_sorted : (ys xs : List K) (x : K) → Contains (fold (insert_key cmp) ys xs) x → Contains ys x ⊎ Contains xs x
  of_sorted ys [] x c = inl c
  of_sorted ys (k ∷ xs) x c =
      ⊎_elim
      (λ d. ⊎_elim (λ old. inl old) (λ e. inr (subst (λ z. Contains (k ∷ xs) z) e (here k xs))) (of_insert ys k x d))
      (λ d. inr (there k xs x d))
      (of_sorted (insert_key cmp ys k) xs x c)

  stays : (xs : List K) (k x : K) → Contains xs x → Contains (insert_key cmp xs k) x
  stays [] k x c = absurd (none x c)
  stays (y ∷ xs) k x c =
      elim (cmp k y) as (λ r. Contains (match_ordering r (k ∷ y ∷ xs) (y ∷ xs) (y ∷ insert_key cmp xs k)) x) [
        | Less ↦ there k (y ∷ xs) x c
        | Equal ↦ c
        | Greater ↦
            ⊎_elim
            (λ e. subst (λ z. Contains (y ∷ insert_key cmp xs k) z) e (here y (insert_key cmp xs k)))
            (λ d. there y (insert_key cmp xs k) x (stays xs k x d))
            (first_or y xs x c)
      ]

  module _ (exact : CmpEqualImpliesEq cmp) where
    comes : (xs : List K) (k : K) → Contains (insert_key cmp xs k) k
    comes [] k = here k []
    comes (y ∷ xs) k = go (comes xs k) (cmp k y) refl
      where
        go : Contains (insert_key cmp xs k) k → (r : Ordering) → cmp k y ≡ r → Contains (match_ordering r (k ∷ y ∷ xs) (y ∷ xs) (y ∷ insert_key cmp xs k)) k
        go others Less e = here k (y ∷ xs)
        go others Equal e = subst (λ z. Contains (y ∷ xs) z) (sym (exact k y e)) (here y xs)
        go others Greater e = there y (insert_key cmp xs k) k others

    pub in_sorted : (ys xs : List K) (x : K) → Contains ys x ⊎ Contains xs x → Contains (fold (insert_key cmp) ys xs) x
    in_sorted ys [] x c = ⊎_elim (λ d. d) (λ d. absurd (none x d)) c
    in_sorted ys (k ∷ xs) x c =
        in_sorted (insert_key cmp ys k) xs x
        (⊎_elim (λ d. inl (stays ys k x d)) (λ d. ⊎_elim (λ e. inl (subst (λ z. Contains (insert_key cmp ys k) z) e (comes ys k))) (λ m. inr m) (first_or k xs x d)) c)
