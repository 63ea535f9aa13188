-- A chain of joins ends where there are no more inputs, or no more pairs.
use Rattle.std.proofs.Common.{◌≡◌, ℕ, zero, suc, ◌≤◌, min, List, [], ◌∷◌, length, drop, refl, arith}
use Rattle.rel_algebra.specs.declared.join.Pair.{Pair}
use Rattle.upsert_keys.specs.declared.seen.Seen.{Seen}
use Rattle.upsert_keys.specs.Joins.{chain}

chain_none : (seen : Seen) (on : List (List Pair)) → chain seen on [] ≡ seen
chain_none seen [] = refl
chain_none seen (pairs ∷ on) = refl

pub chain_end : (seen : Seen) (on : List (List Pair)) (others : List Seen) (i : ℕ) → min (length on) (length others) ≤ i → chain seen (drop i on) (drop i others) ≡ seen
chain_end seen [] others zero h = refl
chain_end seen (pairs ∷ on) [] zero h = refl
chain_end seen (pairs ∷ on) (other ∷ others) zero h = absurd (let g : min (suc (length on)) (suc (length others)) ≤ 0 = h in omega (arith, g))
chain_end seen [] others (suc i) h = refl
chain_end seen (pairs ∷ on) [] (suc i) h = chain_none seen (drop i on)
chain_end seen (pairs ∷ on) (other ∷ others) (suc i) h = chain_end seen on others i (let g : min (suc (length on)) (suc (length others)) ≤ suc i = h in omega (arith, g))
