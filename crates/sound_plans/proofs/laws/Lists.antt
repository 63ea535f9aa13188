-- Lists by number, and walks over lists of nodes, at one place.
use Rattle.std.specs.Prelude.{◌≡◌, ℕ, ◌<◌, ◌==◌, Bool, ◌&&◌, ◌||◌, not, ◌+◌, List, drop, get_or, length, map, slice_get, Option}
use Rattle.std.specs.List.{AllByRecursion, list_any}
use Rattle.std.specs.Str.{bytes_eq}
use Rattle.std.proofs.Common.{zero, suc, true, false, [], ◌∷◌, refl, sym, ap, subst, ◌∙◌, arith, Some, None}
use Rattle.std.proofs.lemmas.Bool.{eqb-true, eq-eqb}
use Rattle.std.proofs.lemmas.Slice.Eq.{bytes_eq-Decides}

-- ---- tests

pub both : (a b : Bool) → (a && b) ≡ true → (a ≡ true) × (b ≡ true)
both true b e = (refl, e)
both false b e = absurd (cc)

pub not_true : (a : Bool) → not a ≡ true → a ≡ false
not_true true e = absurd (cc)
not_true false e = refl

pub same_number : (n : ℕ) → (n == n) ≡ true
same_number n = eq-eqb n n refl

-- ---- options

pub the_same : {A : Type 0} (a b : A) → Some a ≡ Some b → a ≡ b
the_same a b e = cc

pub no_both : {A : Type 0} {P : Type 0} (o : Option A) (a : A) → o ≡ None → o ≡ Some a → P
no_both o a e f = absurd (let h : None ≡ Some a = sym e ∙ f in cc)

-- ---- places

pub within : {A : Type 0} (xs : List A) (n : ℕ) (x : A) → slice_get xs n ≡ Some x → n < length xs
within [] n x e = absurd (cc)
within (y ∷ xs) zero x e = omega arith
within (y ∷ xs) (suc n) x e = omega (arith, within xs n x e)

pub found : {A : Type 0} (xs : List A) (n : ℕ) → n < length xs → (x : A) × (slice_get xs n ≡ Some x)
found [] n l = absurd (omega arith)
found (x ∷ xs) zero l = (x, refl)
found (x ∷ xs) (suc n) l = found xs n (omega arith)

pub map_at : {A B : Type 0} (f : A → B) (xs : List A) (n : ℕ) (x : A) → slice_get xs n ≡ Some x → slice_get (map f xs) n ≡ Some (f x)
map_at f [] n x e = absurd (cc)
map_at f (y ∷ xs) zero x e = ap (λ z. Some (f z)) (the_same y x e)
map_at f (y ∷ xs) (suc n) x e = map_at f xs n x e

pub drop_at : {A : Type 0} (xs : List A) (k n : ℕ) → slice_get (drop k xs) n ≡ slice_get xs (k + n)
drop_at xs zero n = let e : 0 + n ≡ n = omega arith in ap (slice_get xs) (sym e)
drop_at [] (suc k) n = refl
drop_at (x ∷ xs) (suc k) n = let e : suc k + n ≡ suc (k + n) = omega arith in drop_at xs k n ∙ ap (slice_get (x ∷ xs)) (sym e)

pub map_length : {A B : Type 0} (f : A → B) (xs : List A) → length (map f xs) ≡ length xs
map_length f [] = refl
map_length f (x ∷ xs) = ap suc (map_length f xs)

pub got : {A : Type 0} (d : A) (xs : List A) (n : ℕ) (x : A) → slice_get xs n ≡ Some x → get_or xs n d ≡ x
got d [] n x e = absurd (cc)
got d (y ∷ xs) zero x e = the_same y x e
got d (y ∷ xs) (suc n) x e = got d xs n x e

pub all_at : {A : Type 0} (P : A → Type 0) (xs : List A) → AllByRecursion P xs → (n : ℕ) (x : A) → slice_get xs n ≡ Some x → P x
all_at P [] h n x e = absurd (cc)
all_at P (y ∷ xs) h zero x e = subst P (the_same y x e) h.0
all_at P (y ∷ xs) h (suc n) x e = all_at P xs h.1 n x e

pub of_each : {A : Type 0} (P : A → Type 0) (xs : List A) → ((n : ℕ) (x : A) → slice_get xs n ≡ Some x → P x) → AllByRecursion P xs
of_each P [] h = tt
of_each P (x ∷ xs) h = (h 0 x refl, of_each P xs (λ n y e. h (suc n) y e))

-- two functions that agree at each item
pub map_same : {A B : Type 0} (f g : A → B) (xs : List A) → AllByRecursion (λ x. f x ≡ g x) xs → map f xs ≡ map g xs
map_same f g [] h = refl
map_same f g (x ∷ xs) h = λ i. h.0 i ∷ map_same f g xs h.1 i

pub map_map : {A B C : Type 0} (f : B → C) (g : A → B) (xs : List A) → map f (map g xs) ≡ map (λ x. f (g x)) xs
map_map f g [] = refl
map_map f g (x ∷ xs) = ap (λ ys. f (g x) ∷ ys) (map_map f g xs)

-- ---- equal numbers

pub same_numbers : (xs ys : List ℕ) → bytes_eq xs ys ≡ true → xs ≡ ys
same_numbers xs ys e = (bytes_eq-Decides xs ys).0 e

-- ---- a number among the inputs of a node

or_here : (a b : Bool) → a ≡ true → (a || b) ≡ true
or_here true b e = refl
or_here false b e = absurd (cc)

or_later : (a b : Bool) → b ≡ true → (a || b) ≡ true
or_later true b e = refl
or_later false b e = e

pub is_there : (v : ℕ) (inputs : List ℕ) (p : ℕ) → slice_get inputs p ≡ Some v → list_any (λ input. input == v) inputs ≡ true
is_there v [] p e = absurd (cc)
is_there v (x ∷ xs) zero e = or_here (x == v) (list_any (λ input. input == v) xs) (eq-eqb x v (the_same x v e))
is_there v (x ∷ xs) (suc p) e = or_later (x == v) (list_any (λ input. input == v) xs) (is_there v xs p e)

pub is_somewhere : (v : ℕ) (inputs : List ℕ) → list_any (λ input. input == v) inputs ≡ true → (p : ℕ) × (slice_get inputs p ≡ Some v)
is_somewhere v [] e = absurd (cc)
is_somewhere v (x ∷ xs) e = go (x == v) refl e (λ f. is_somewhere v xs f)
  where
    go : (b : Bool) → (x == v) ≡ b → (b || list_any (λ input. input == v) xs) ≡ true → (list_any (λ input. input == v) xs ≡ true → (p : ℕ) × (slice_get xs p ≡ Some v)) → (p : ℕ) × (slice_get (x ∷ xs) p ≡ Some v)
    go true i f later = (0, ap (λ y. Some y) (eqb-true x v i))
    go false i f later = let l = later f in (suc l.0, l.1)
