-- Where one of two orders has no more columns, how many they have decides.
use Rattle.std.proofs.Common.{◌≡◌, ℕ, zero, suc, ◌<◌, min, List, [], ◌∷◌, length, drop, refl, arith, nat_cmp, Ordering, Less, Equal, Greater}
use Rattle.std.specs.Ordering.{MatchOrdering}
use Rattle.std.specs.Cmp.{ranked}
use Rattle.std.specs.Cmp.Lexicographic.{slice_cmp}
use Rattle.ct_value.specs.declared.row.Row.{Row}
use Rattle.rel_algebra.specs.declared.sort.SortCol.{SortCol}
use Rattle.op_topn.specs.Keys.{directed_cmp, rank_key}

-- this is the order of the numbers
abbrev IsOrderOf : ℕ → ℕ → Ordering → Type 0
IsOrderOf m n found = MatchOrdering found (m < n) (m ≡ n) (n < m)

one_less : (m n : ℕ) (found : Ordering) → IsOrderOf (suc m) (suc n) found → IsOrderOf m n found
one_less m n Less h = let l : suc m < suc n = h in omega arith
one_less m n Equal h = let e : suc m ≡ suc n = h in omega arith
one_less m n Greater h = let l : suc n < suc m = h in omega arith

module _ (row other : Row) where
  by_lengths : (order others : List SortCol) (i : ℕ) (found : Ordering) → i ≡ min (length order) (length others) → IsOrderOf (length order) (length others) found
      → found ≡ slice_cmp directed_cmp (rank_key (drop i order) row).0 (rank_key (drop i others) other).0
  by_lengths [] [] zero Less m h = let l : 0 < 0 = h in absurd (omega arith)
  by_lengths [] [] zero Equal m h = refl
  by_lengths [] [] zero Greater m h = let l : 0 < 0 = h in absurd (omega arith)
  by_lengths [] (sort2 ∷ others) zero Less m h = refl
  by_lengths [] (sort2 ∷ others) zero Equal m h = let e : 0 ≡ suc (length others) = h in absurd (omega arith)
  by_lengths [] (sort2 ∷ others) zero Greater m h = let l : suc (length others) < 0 = h in absurd (omega arith)
  by_lengths (sort ∷ order) [] zero Less m h = let l : suc (length order) < 0 = h in absurd (omega arith)
  by_lengths (sort ∷ order) [] zero Equal m h = let e : suc (length order) ≡ 0 = h in absurd (omega arith)
  by_lengths (sort ∷ order) [] zero Greater m h = refl
  by_lengths (sort ∷ order) (sort2 ∷ others) zero found m h = let e : 0 ≡ min (suc (length order)) (suc (length others)) = m in absurd (omega arith)
  by_lengths [] others (suc i) found m h = let e : suc i ≡ min 0 (length others) = m in absurd (omega arith)
  by_lengths (sort ∷ order) [] (suc i) found m h = let e : suc i ≡ min (suc (length order)) 0 = m in absurd (omega arith)
  by_lengths (sort ∷ order) (sort2 ∷ others) (suc i) found m h =
      let e : suc i ≡ min (suc (length order)) (suc (length others)) = m in
      by_lengths order others i found (omega arith) (one_less (length order) (length others) found h)

  -- what the lengths answer, the columns behind the shorter one's last answer
  pub ended : (order others : List SortCol) (i : ℕ) (found : Ordering) → i ≡ min (length order) (length others) → found ≡ nat_cmp (length order) (length others)
      → found ≡ slice_cmp directed_cmp (rank_key (drop i order) row).0 (rank_key (drop i others) other).0
  ended order others i found m h = by_lengths order others i found m (ranked _ _ found h)
