-- Sums over lists and over the numbers below a bound, and lists that are dealt out.
use Rattle.std.specs.Prelude.{◌≡◌, ℕ, ◌+◌, ◌-◌, ◌<◌, ◌≤◌, Bool, cond, List, ◌++◌, length, min}
use Rattle.std.proofs.Common.{zero, suc, true, false, [], ◌∷◌, refl, sym, ap, ◌∙◌, arith, take, eqb, inl, inr}
use Rattle.std.specs.List.{AllByRecursion, filter}
use Rattle.std.proofs.lemmas.List.{take_at}
use Rattle.std.proofs.lemmas.Bool.{eq-eqb, ne_eqb, cases_eq}
use Rattle.ct_value.specs.Bag.{weigh}
use Rattle.op_rules.specs.Tasks.{total}

-- how far one has to go into the list for the first n that pass
abbrev pub reach : {A : Type 0} → (A → Bool) → ℕ → List A → ℕ
reach q zero xs = 0
reach q (suc n) [] = 0
reach q (suc n) (x ∷ xs) = cond (q x) (suc (reach q n xs)) (suc (reach q (suc n) xs))

-- what a filter keeps weighs what passes
pub weigh-filter : {A : Type 0} (f : A → ℕ) (q : A → Bool) (xs : List A) → weigh f (filter q xs) ≡ weigh (λ x. cond (q x) (f x) 0) xs
weigh-filter f q [] = refl
weigh-filter f q (x ∷ xs) =
    elim (q x) as (λ b. weigh f (cond b (x ∷ filter q xs) (filter q xs)) ≡ cond b (f x) 0 + weigh (λ x. cond (q x) (f x) 0) xs) [
      | true ↦ omega (arith, weigh-filter f q xs)
      | false ↦ omega (arith, weigh-filter f q xs)
    ]

-- a front of what a filter keeps is what it keeps of a front
pub take-filter : {A : Type 0} (q : A → Bool) (n : ℕ) (xs : List A) → take n (filter q xs) ≡ filter q (take (reach q n xs) xs)
take-filter q zero xs = refl
take-filter q (suc n) [] = refl
take-filter q (suc n) (x ∷ xs) =
    elim (q x) as (λ b. q x ≡ b → take (suc n) (cond b (x ∷ filter q xs) (filter q xs)) ≡ filter q (take (cond b (suc (reach q n xs)) (suc (reach q (suc n) xs))) (x ∷ xs))) [
      | true ↦ λ e. ap (λ r. x ∷ r) (take-filter q n xs) ∙ ap (λ b. cond b (x ∷ filter q (take (reach q n xs) xs)) (filter q (take (reach q n xs) xs))) (sym e)
      | false ↦ λ e. take-filter q (suc n) xs ∙ ap (λ b. cond b (x ∷ filter q (take (reach q (suc n) xs) xs)) (filter q (take (reach q (suc n) xs) xs))) (sym e)
    ] refl

-- what a filter keeps of a front is a front of what it keeps
pub filter-take : {A : Type 0} (q : A → Bool) (n : ℕ) (xs : List A) → filter q (take n xs) ≡ take (length (filter q (take n xs))) (filter q xs)
filter-take q zero xs = refl
filter-take q (suc n) [] = refl
filter-take q (suc n) (x ∷ xs) =
    elim (q x) as (λ b. cond b (x ∷ filter q (take n xs)) (filter q (take n xs)) ≡ take (length (cond b (x ∷ filter q (take n xs)) (filter q (take n xs)))) (cond b (x ∷ filter q xs) (filter q xs))) [
      | true ↦ ap (λ r. x ∷ r) (filter-take q n xs)
      | false ↦ filter-take q n xs
    ]

pub total-zero : (n : ℕ) → total n (λ i. 0) ≡ 0
total-zero zero = refl
total-zero (suc n) = omega (arith, total-zero n)

pub total-sum : (n : ℕ) (f g : ℕ → ℕ) → total n (λ i. f i + g i) ≡ total n f + total n g
total-sum zero f g = refl
total-sum (suc n) f g = omega (arith, total-sum n f g)

pub total-same : (n : ℕ) (f g : ℕ → ℕ) → ((i : ℕ) → i < n → f i ≡ g i) → total n f ≡ total n g
total-same zero f g h = refl
total-same (suc n) f g h = omega (arith, total-same n f g (λ i l. h i (omega arith)), h n (omega arith))

pub total_le : (n : ℕ) (f g : ℕ → ℕ) → ((i : ℕ) → i < n → f i ≤ g i) → total n f ≤ total n g
total_le zero f g h = omega arith
total_le (suc n) f g h = omega (arith, total_le n f g (λ i l. h i (omega arith)), h n (omega arith))

-- a sum that is w at one place
pub total_past : (n a w : ℕ) → n ≤ a → total n (λ i. cond (eqb a i) w 0) ≡ 0
total_past zero a w l = refl
total_past (suc n) a w l =
    let e : eqb a n ≡ false = ne_eqb a n (λ p. omega arith) in
    rw e (omega (arith, total_past n a w (omega arith)))

pub total_one : (n a w : ℕ) → a < n → total n (λ i. cond (eqb a i) w 0) ≡ w
total_one zero a w l = absurd (omega arith)
total_one (suc n) a w l =
    elim (cases_eq a n) [
      | inl e ↦ let q : eqb a n ≡ true = eq-eqb a n e in rw q (omega (arith, total_past n a w (omega arith)))
      | inr d ↦ let q : eqb a n ≡ false = ne_eqb a n d in rw q (omega (arith, total_one n a w (omega arith)))
    ]

-- each term lies below the sum
pub total_part : (n i : ℕ) (f : ℕ → ℕ) → i < n → f i ≤ total n f
total_part zero i f l = absurd (omega arith)
total_part (suc n) i f l =
    elim (cases_eq i n) [
      | inl e ↦ rw e (omega arith)
      | inr d ↦ omega (arith, total_part n i f (omega arith))
    ]

-- a sum above 0 has a term above 0
pub total_some : (n : ℕ) (f : ℕ → ℕ) → 0 < total n f → (i : ℕ) × (i < n) × (0 < f i)
total_some zero f l = absurd (omega arith)
total_some (suc n) f l =
    elim (cases_eq (f n) 0) [
      | inl e ↦ let r = total_some n f (omega arith) in (r.0, omega (arith, r.1), r.2)
      | inr d ↦ (n, omega arith, omega arith)
    ]

pub all-take : {A : Type 0} (P : A → Type 0) (n : ℕ) (xs : List A) → AllByRecursion P xs → AllByRecursion P (take n xs)
all-take P zero xs h = tt
all-take P (suc n) [] h = tt
all-take P (suc n) (x ∷ xs) h = (h.0, all-take P n xs h.1)

pub all-append_left : {A : Type 0} (P : A → Type 0) (xs ys : List A) → AllByRecursion P (xs ++ ys) → AllByRecursion P xs
all-append_left P [] ys h = tt
all-append_left P (x ∷ xs) ys h = (h.0, all-append_left P xs ys h.1)

pub all-filter : {A : Type 0} (P : A → Type 0) (q : A → Bool) (xs : List A) → AllByRecursion P xs → AllByRecursion P (filter q xs)
all-filter P q [] h = tt
all-filter P q (x ∷ xs) h =
    elim (q x) as (λ b. AllByRecursion P (cond b (x ∷ filter q xs) (filter q xs))) [ true ↦ (h.0, all-filter P q xs h.1) | false ↦ all-filter P q xs h.1 ]

pub filter_passes : {A : Type 0} (q : A → Bool) (xs : List A) → AllByRecursion (λ x. q x ≡ true) (filter q xs)
filter_passes q [] = tt
filter_passes q (x ∷ xs) =
    elim (q x) as (λ b. q x ≡ b → AllByRecursion (λ y. q y ≡ true) (cond b (x ∷ filter q xs) (filter q xs))) [ true ↦ λ e. (e, filter_passes q xs) | false ↦ λ e. filter_passes q xs ] refl

pub all-weaker : {A : Type 0} (P Q : A → Type 0) → ((x : A) → P x → Q x) → (xs : List A) → AllByRecursion P xs → AllByRecursion Q xs
all-weaker P Q w [] h = tt
all-weaker P Q w (x ∷ xs) h = (w x h.0, all-weaker P Q w xs h.1)

-- a sum with one term above 0
pub total_only : (n i : ℕ) (f : ℕ → ℕ) → i < n → ((k : ℕ) → k < n → 0 < f k → i ≡ k) → total n f ≡ f i
total_only n i f l only =
    total-same n f (λ k. cond (eqb i k) (f i) 0) (λ k m.
    elim (cases_eq i k) [
      | inl e ↦ let q : eqb i k ≡ true = eq-eqb i k e in rw (q, e)
      | inr d ↦ let q : eqb i k ≡ false = ne_eqb i k d in rw q (elim (cases_eq (f k) 0) [ inl z ↦ z | inr a ↦ absurd (d (only k m (omega arith))) ])
    ])
    ∙ total_one n i (f i) l

-- a difference of sums lies below the sum of the differences
pub total_minus : (n : ℕ) (f g : ℕ → ℕ) → total n f - total n g ≤ total n (λ i. f i - g i)
total_minus zero f g = omega arith
total_minus (suc n) f g = omega (arith, total_minus n f g)

pub total_minus_is : (n : ℕ) (f g : ℕ → ℕ) → ((i : ℕ) → i < n → g i ≤ f i) → total n (λ i. f i - g i) + total n g ≡ total n f
total_minus_is zero f g h = refl
total_minus_is (suc n) f g h = omega (arith, total_minus_is n f g (λ i l. h i (omega arith)), h n (omega arith))

pub take_end : {A : Type 0} (xs ys zs : List A) → xs ++ ys ≡ zs → xs ≡ take (length xs) zs
take_end xs ys zs e = sym (take_at xs ys (length xs) refl) ∙ ap (take (length xs)) e

take-nil : {A : Type 0} (m : ℕ) → ◌≡◌ {A = List A} (take m []) []
take-nil zero = refl
take-nil (suc m) = refl

min-zero : (m : ℕ) → min m 0 ≡ 0
min-zero m = omega arith

zero-min : (m : ℕ) → min 0 m ≡ 0
zero-min m = omega arith

min-suc : (m n : ℕ) → min (suc m) (suc n) ≡ suc (min m n)
min-suc m n = omega arith

pub take_both : {A : Type 0} (m n : ℕ) (xs : List A) → take m (take n xs) ≡ take (min m n) xs
take_both m zero xs = rw min-zero (take-nil m)
take_both zero (suc n) xs = rw zero-min refl
take_both (suc m) (suc n) [] = sym (take-nil (min (suc m) (suc n)))
take_both (suc m) (suc n) (x ∷ xs) = rw min-suc (ap (λ r. x ∷ r) (take_both m n xs))

-- a sum in which one place alone counts
pub total_at : (n j : ℕ) (f : ℕ → ℕ) → j < n → total n (λ i. cond (eqb i j) (f i) 0) ≡ f j
total_at n j f l =
    total-same n (λ i. cond (eqb i j) (f i) 0) (λ i. cond (eqb j i) (f j) 0) (λ i m.
    elim (cases_eq i j) [
      | inl e ↦ let q : eqb i j ≡ true = eq-eqb i j e in let q2 : eqb j i ≡ true = eq-eqb j i (sym e) in rw (q, q2) (ap f e)
      | inr d ↦ let q : eqb i j ≡ false = ne_eqb i j d in let q2 : eqb j i ≡ false = ne_eqb j i (λ e. d (sym e)) in rw (q, q2) refl
    ])
    ∙ total_one n j (f j) l

pub cond_le : (b : Bool) (x y : ℕ) → x ≤ y → cond b x 0 ≤ cond b y 0
cond_le true x y h = h
cond_le false x y h = omega arith

pub cond_minus : (b : Bool) (x y : ℕ) → cond b x 0 - cond b y 0 ≤ x - y
cond_minus true x y = omega arith
cond_minus false x y = omega arith

pub total_cond_le : (n : ℕ) (b : ℕ → Bool) (f g : ℕ → ℕ) → ((i : ℕ) → i < n → f i ≤ g i) → total n (λ i. cond (b i) (f i) 0) ≤ total n (λ i. cond (b i) (g i) 0)
total_cond_le n b f g h = total_le n _ _ (λ i l. cond_le (b i) (f i) (g i) (h i l))

pub total_cond_minus : (n : ℕ) (b : ℕ → Bool) (f g : ℕ → ℕ) → total n (λ i. cond (b i) (f i) 0) - total n (λ i. cond (b i) (g i) 0) ≤ total n (λ i. f i - g i)
total_cond_minus n b f g =
    let x = total_minus n (λ i. cond (b i) (f i) 0) (λ i. cond (b i) (g i) 0) in
    let y : total n (λ i. cond (b i) (f i) 0 - cond (b i) (g i) 0) ≤ total n (λ i. f i - g i) = total_le n _ _ (λ i l. cond_minus (b i) (f i) (g i)) in
    omega arith

pub cond_below : (b : Bool) (x : ℕ) → cond b x 0 ≤ x
cond_below true x = omega arith
cond_below false x = omega arith

pub cond_of_minus : (b : Bool) (x y : ℕ) → cond b (x - y) 0 ≡ cond b x 0 - cond b y 0
cond_of_minus true x y = refl
cond_of_minus false x y = omega arith

pub total_cond : (n : ℕ) (b : Bool) (f : ℕ → ℕ) → total n (λ i. cond b (f i) 0) ≡ cond b (total n f) 0
total_cond n true f = refl
total_cond n false f = total-zero n

pub cond_sum : (b : Bool) (x y z : ℕ) → x ≡ y + z → cond b x 0 ≡ cond b y 0 + cond b z 0
cond_sum true x y z h = h
cond_sum false x y z h = omega arith
