-- A function of two numbers that is changed at places.
use Rattle.std.specs.Prelude.{◌≡◌, ℕ, ◌==◌, ◌&&◌, Bool, cond}
use Rattle.std.proofs.Common.{true, false, refl, sym, ap, subst, ◌∙◌, inl, inr, ◌⊎◌, eqb}
use Rattle.std.proofs.Math.Path.{fun_ext}
use Rattle.std.proofs.lemmas.Bool.{eqb-true, eq-eqb, cases_Bool, and_parts, false≢true}
use Rattle.stream_model.specs.Machine.{put}

cond_swap : {A : Type 0} (p q : Bool) (x y z : A) → (p ≡ true → q ≡ true → ⊥) → cond q y (cond p x z) ≡ cond p x (cond q y z)
cond_swap true true x y z apart = absurd (apart refl refl)
cond_swap true false x y z apart = refl
cond_swap false q x y z apart = refl

pub at_both : (m n a b : ℕ) → ((m == a) && (n == b)) ≡ true → (m ≡ a) × (n ≡ b)
at_both m n a b is = let parts = and_parts (eqb m a) (eqb n b) is in (eqb-true m a parts.0, eqb-true n b parts.1)

pub both_at : (m n a b : ℕ) → m ≡ a → n ≡ b → ((m == a) && (n == b)) ≡ true
both_at m n a b first second = let q : eqb m a ≡ true = eq-eqb m a first in let r : eqb n b ≡ true = eq-eqb n b second in rw (q, r) refl

pub off_is : (m n a b : ℕ) → ((m ≡ a) × (n ≡ b) → ⊥) → ((m == a) && (n == b)) ≡ false
off_is m n a b apart = elim (cases_Bool ((m == a) && (n == b))) [ inl q ↦ absurd (apart (at_both m n a b q)) | inr q ↦ q ]

-- a place is another one, or isn't
pub same_or_off : (a b c d : ℕ) → ((a ≡ c) × (b ≡ d)) ⊎ ((a ≡ c) × (b ≡ d) → ⊥)
same_or_off a b c d = elim (cases_Bool ((a == c) && (b == d))) [
  | inl q ↦ inl (at_both a b c d q)
  | inr q ↦ inr (λ p. false≢true (sym q ∙ both_at a b c d p.0 p.1))
]

-- a function changed at a place by what it is there
abbrev pub change_at : {A : Type 0} → (A → A) → ℕ → ℕ → (ℕ → ℕ → A) → ℕ → ℕ → A
change_at h a b f = put f a b (h (f a b))

pub put_here : {A : Type 0} (f : ℕ → ℕ → A) (a b : ℕ) (x : A) → put f a b x a b ≡ x
put_here f a b x = rw (both_at a b a b refl refl) refl

pub put_off : {A : Type 0} (f : ℕ → ℕ → A) (a b m n : ℕ) (x : A) → ((m ≡ a) × (n ≡ b) → ⊥) → put f a b x m n ≡ f m n
put_off f a b m n x apart = rw (off_is m n a b apart) refl

pub put_swap : {A : Type 0} (f : ℕ → ℕ → A) (a b c d : ℕ) (x y : A) → ((a ≡ c) × (b ≡ d) → ⊥) → put (put f a b x) c d y ≡ put (put f c d y) a b x
put_swap f a b c d x y apart = fun_ext (λ m. fun_ext (λ n. cond_swap ((m == a) && (n == b)) ((m == c) && (n == d)) x y (f m n) (λ p q.
    let one = at_both m n a b p in let two = at_both m n c d q in apart (sym one.0 ∙ two.0, sym one.1 ∙ two.1))))

pub swap_at : {A : Type 0} (f : ℕ → ℕ → A) (a b c d : ℕ) (h k : A → A) → ((a ≡ c) × (b ≡ d) → ⊥) → change_at k c d (change_at h a b f) ≡ change_at h a b (change_at k c d f)
swap_at f a b c d h k apart =
    ap (λ y. put (put f a b (h (f a b))) c d (k y)) (put_off f a b c d (h (f a b)) (λ p. apart (sym p.0, sym p.1)))
    ∙ put_swap f a b c d (h (f a b)) (k (f c d)) apart
    ∙ ap (λ x. put (put f c d (k (f c d))) a b (h x)) (sym (put_off f c d a b (k (f c d)) apart))

put_twice : {A : Type 0} (f : ℕ → ℕ → A) (a b : ℕ) (x y : A) → put (put f a b x) a b y ≡ put f a b y
put_twice f a b x y = fun_ext (λ m. fun_ext (λ n. twice ((m == a) && (n == b)) x y (f m n)))
  where
    twice : {A : Type 0} (p : Bool) (x y z : A) → cond p y (cond p x z) ≡ cond p y z
    twice true x y z = refl
    twice false x y z = refl

-- the same place changed twice, by what may be done in either order to what is there
one_place : {A : Type 0} (f : ℕ → ℕ → A) (a b : ℕ) (h k : A → A) → k (h (f a b)) ≡ h (k (f a b)) → change_at k a b (change_at h a b f) ≡ change_at h a b (change_at k a b f)
one_place f a b h k either =
    ap (λ z. put (put f a b (h (f a b))) a b (k z)) (put_here f a b (h (f a b)))
    ∙ put_twice f a b (h (f a b)) (k (h (f a b)))
    ∙ ap (put f a b) either
    ∙ sym (put_twice f a b (k (f a b)) (h (k (f a b))))
    ∙ sym (ap (λ z. put (put f a b (k (f a b))) a b (h z)) (put_here f a b (k (f a b))))

pub same_place : {A : Type 0} (f : ℕ → ℕ → A) (a b c d : ℕ) (h k : A → A) → a ≡ c → b ≡ d → k (h (f a b)) ≡ h (k (f a b)) → change_at k c d (change_at h a b f) ≡ change_at h a b (change_at k c d f)
same_place f a b c d h k first second either =
    subst (λ m. change_at k m d (change_at h a b f) ≡ change_at h a b (change_at k m d f)) first
    (subst (λ n. change_at k a n (change_at h a b f) ≡ change_at h a b (change_at k a n f)) second (one_place f a b h k either))

-- two places changed, by what may be done in either order
pub both_ways : {A : Type 0} (f : ℕ → ℕ → A) (a b c d : ℕ) (h k : A → A) → ((x : A) → k (h x) ≡ h (k x)) → change_at k c d (change_at h a b f) ≡ change_at h a b (change_at k c d f)
both_ways f a b c d h k either = elim (same_or_off a b c d) [
  | inl p ↦ same_place f a b c d h k p.0 p.1 (either (f a b))
  | inr off ↦ swap_at f a b c d h k off
]
