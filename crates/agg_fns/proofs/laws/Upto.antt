-- Lists of which the first items were turned into others.
use Rattle.std.proofs.Common.{◌≡◌, ℕ, zero, suc, ◌<◌, ◌+◌, ◌&&◌, Bool, true, false, List, [], ◌∷◌, length, refl, ap, subst, ◌∙◌, arith, slice_index_or, slice_set}
use Rattle.std.specs.List.{list_all, AllByRecursion}

-- of the first so many it holds, and the others are as before
abbrev pub Upto : {A : Type 0} → (A → A → Type 0) → ℕ → List A → List A → Type 0
Upto R n [] [] = Unit {0}
Upto R n [] (new ∷ news) = ⊥
Upto R n (old ∷ olds) [] = ⊥
Upto R zero (old ∷ olds) (new ∷ news) = (old ≡ new) × Upto R zero olds news
Upto R (suc n) (old ∷ olds) (new ∷ news) = R old new × Upto R n olds news

module _ {A : Type 0} (R : A → A → Type 0) where
  pub upto_none : (xs : List A) → Upto R 0 xs xs
  upto_none [] = tt
  upto_none (x ∷ xs) = (refl, upto_none xs)

  upto_next : (n : ℕ) (olds news : List A) (d : A) (x : A) → Upto R n olds news → n < length olds → ((old : A) → old ≡ slice_index_or news n d → R old x) → Upto R (suc n) olds (slice_set news n x)
  upto_next n [] [] d x u l h = absurd (omega arith)
  upto_next n [] (new ∷ news) d x u l h = absurd u
  upto_next n (old ∷ olds) [] d x u l h = absurd u
  upto_next zero (old ∷ olds) (new ∷ news) d x u l h = (h old u.0, u.1)
  upto_next (suc n) (old ∷ olds) (new ∷ news) d x u l h = (u.0, upto_next n olds news d x u.1 (omega arith) h)

  pub upto_more : (n : ℕ) (olds news : List A) (d : A) (x : A) → Upto R n olds news → n < length olds → ((old : A) → old ≡ slice_index_or news n d → R old x) → Upto R (n + 1) olds (slice_set news n x)
  upto_more n olds news d x u l h = subst (λ m. Upto R m olds (slice_set news n x)) (let e : suc n ≡ n + 1 = omega arith in e) (upto_next n olds news d x u l h)

  -- what is known of an item that is as before
  pub item_before : (P : A → Type 0) (n : ℕ) (olds news : List A) (d : A) → Upto R n olds news → n < length olds → AllByRecursion P olds → P (slice_index_or news n d)
  item_before P n [] [] d u l all = absurd (omega arith)
  item_before P n [] (new ∷ news) d u l all = absurd u
  item_before P n (old ∷ olds) [] d u l all = absurd u
  item_before P zero (old ∷ olds) (new ∷ news) d u l all = subst P u.0 all.0
  item_before P (suc n) (old ∷ olds) (new ∷ news) d u l all = item_before P n olds news d u.1 (omega arith) all.1

  -- a test that fails at an item that is as before
  pub fails_at : (test : A → Bool) (n : ℕ) (olds news : List A) (d : A) → Upto R n olds news → n < length olds → test (slice_index_or news n d) ≡ false → list_all test olds ≡ false
  fails_at test n [] [] d u l e = absurd (omega arith)
  fails_at test n [] (new ∷ news) d u l e = absurd u
  fails_at test n (old ∷ olds) [] d u l e = absurd u
  fails_at test zero (old ∷ olds) (new ∷ news) d u l e = ap (λ b. b && list_all test olds) (ap test u.0 ∙ e)
  fails_at test (suc n) (old ∷ olds) (new ∷ news) d u l e = elim (test old) as (λ b. (b && list_all test olds) ≡ false) [ true ↦ fails_at test n olds news d u.1 (omega arith) e | false ↦ refl ]
