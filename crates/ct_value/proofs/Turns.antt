-- The turns of a loop that compares two lists, item by item.
use Rattle.std.proofs.Common.{◌≡◌, ℕ, suc, ◌+◌, ◌<◌, min, List, [], ◌∷◌, length, get_or, drop, true, false, refl, sym, ◌∙◌, arith, true≢false, not-suc-le-zero, length-drop, drop-cons, nat_cmp, Ordering, Less, Equal, Greater}
use Rattle.std.specs.Ordering.{ordering_then, is_ne, MatchOrdering}
use Rattle.std.specs.Cmp.{ranked}
use Rattle.std.specs.Cmp.Lexicographic.{slice_cmp}

shifted : (a b i c d : ℕ) (r : Ordering) → i ≡ min a b → c + i ≡ a → d + i ≡ b → MatchOrdering r (a < b) (a ≡ b) (b < a) → MatchOrdering r (c < d) (c ≡ d) (d < c)
shifted a b i c d Less m p q h = let l : a < b = h in omega arith
shifted a b i c d Equal m p q h = let l : a ≡ b = h in omega arith
shifted a b i c d Greater m p q h = let l : b < a = h in omega arith

pub decides : (o k : Ordering) → is_ne o ≡ true → o ≡ ordering_then o k
decides Less k e = refl
decides Equal k e = absurd (true≢false (sym e))
decides Greater k e = refl

pub defers : (o k : Ordering) → is_ne o ≡ false → k ≡ ordering_then o k
defers Less k e = absurd (true≢false e)
defers Equal k e = refl
defers Greater k e = absurd (true≢false e)

module _ {X : Type 0} (R : X → X → Ordering) where
  -- the parts from i on begin with x and y
  pub begun : (xs ys : List X) (i : ℕ) (x y : X) → i < length xs → i < length ys → x ≡ get_or xs i x → y ≡ get_or ys i y
      → slice_cmp R (x ∷ drop (i + 1) xs) (y ∷ drop (i + 1) ys) ≡ slice_cmp R (drop i xs) (drop i ys)
  begun xs ys i x y h g e d =
      let s : i + 1 ≡ suc i = omega arith in
      (λ j. slice_cmp R (e j ∷ drop (s j) xs) (d j ∷ drop (s j) ys))
      ∙ sym (λ j. slice_cmp R (drop-cons xs i x h j) (drop-cons ys i y g j))

  by_lengths : (us vs : List X) (r : Ordering) → min (length us) (length vs) ≡ 0
      → MatchOrdering r (length us < length vs) (length us ≡ length vs) (length vs < length us) → r ≡ slice_cmp R us vs
  by_lengths [] [] Less m h = absurd (not-suc-le-zero h)
  by_lengths [] [] Equal m h = refl
  by_lengths [] [] Greater m h = absurd (not-suc-le-zero h)
  by_lengths [] (v ∷ vs) Less m h = refl
  by_lengths [] (v ∷ vs) Equal m h = let e : 0 ≡ suc (length vs) = h in absurd (omega arith)
  by_lengths [] (v ∷ vs) Greater m h = absurd (not-suc-le-zero h)
  by_lengths (u ∷ us) [] Less m h = absurd (not-suc-le-zero h)
  by_lengths (u ∷ us) [] Equal m h = let e : suc (length us) ≡ 0 = h in absurd (omega arith)
  by_lengths (u ∷ us) [] Greater m h = refl
  by_lengths (u ∷ us) (v ∷ vs) r m h = let e : min (suc (length us)) (suc (length vs)) ≡ 0 = m in absurd (omega arith)

  -- where one of the two has no more items, the lengths decide
  pub ended : (xs ys : List X) (i : ℕ) (r : Ordering) → i ≡ min (length xs) (length ys) → r ≡ nat_cmp (length xs) (length ys)
      → r ≡ slice_cmp R (drop i xs) (drop i ys)
  ended xs ys i r m h =
      let p = length-drop i xs in
      let q = length-drop i ys in
      by_lengths (drop i xs) (drop i ys) r (omega arith) (shifted (length xs) (length ys) i (length (drop i xs)) (length (drop i ys)) r m (omega arith) (omega arith) (ranked _ _ r h))
