-- What is told rank by rank, one rank after the other.
use Rattle.std.proofs.Common.{◌≡◌, ℕ, zero, suc, ◌+◌, Bool, true, false, T, ◌&&◌, List, [], ◌∷◌, ◌++◌, take, Option, Some, None, refl, sym, ap, subst, ◌∙◌, append_assoc, append-nil, arith}
use Rattle.ct_value.specs.Bag.{items, bag_of, at_most_all, items_in_order}
use Rattle.ct_value.specs.declared.row.Row.{Row}
use Rattle.ct_change.specs.declared.change.Change.{Change}
use Rattle.ct_change.specs.Changelog.{Mode, append, retract, upsert, Rows}
use Rattle.ct_change.specs.Emission.{emission, CanTell}
use Rattle.rel_algebra.specs.declared.sort.SortCol.{SortCol}
use Rattle.rel_algebra.specs.Ranks.{rank_cmp, in_rank_order}
use Rattle.emission_rules.specs.Ranking.{told_by_rank}
use Rattle.op_topn.specs.Tells.{shown_at, CanTellFrom, IsNext, AreRanked}

-- ---- one rank, and then the others

module _ (mode : Mode) (ranked : Bool) where
  nothing_left : (olds news : List Row) → olds ≡ [] → news ≡ [] → (rank : ℕ) → told_by_rank ranked mode rank olds news ≡ []
  nothing_left olds news p q rank = (λ i. told_by_rank ranked mode rank (p i) (q i))

  pub told_end : (olds news : List Row) → olds ≡ [] → news ≡ [] → (rank : ℕ) (sent : List Change) → sent ++ told_by_rank ranked mode rank olds news ≡ sent
  told_end olds news p q rank sent = ap (λ xs. sent ++ xs) (nothing_left olds news p q rank) ∙ append-nil sent

  same_told : (rank : ℕ) (olds news a b : List Row) → olds ≡ a → news ≡ b → told_by_rank ranked mode rank olds news ≡ told_by_rank ranked mode rank a b
  same_told rank olds news a b p q = λ i. told_by_rank ranked mode rank (p i) (q i)

  pub told_next : (rank : ℕ) (olds news laters newers : List Row) (old new : Option Row) → IsNext olds old laters → IsNext news new newers
      → told_by_rank ranked mode rank olds news ≡ emission mode (shown_at ranked rank old) (shown_at ranked rank new) ++ told_by_rank ranked mode (suc rank) laters newers
  told_next rank olds news laters newers None None p q = same_told rank olds news [] [] p.0 q.0 ∙ sym (same_told (suc rank) laters newers [] [] p.1 q.1)
  told_next rank olds news laters newers None (Some new) p q = same_told rank olds news [] (new ∷ newers) p.0 q ∙ sym (ap (λ xs. emission mode None (shown_at ranked rank (Some new)) ++ xs) (same_told (suc rank) laters newers [] newers p.1 refl))
  told_next rank olds news laters newers (Some old) None p q = same_told rank olds news (old ∷ laters) [] p q.0 ∙ sym (ap (λ xs. emission mode (shown_at ranked rank (Some old)) None ++ xs) (same_told (suc rank) laters newers laters [] refl q.1))
  told_next rank olds news laters newers (Some old) (Some new) p q = same_told rank olds news (old ∷ laters) (new ∷ newers) p q

  can_nothing : (mode : Mode) → CanTell mode None None
  can_nothing append = refl
  can_nothing retract = tt
  can_nothing (upsert key) = tt

  same_can : (rank : ℕ) (olds news a b : List Row) → olds ≡ a → news ≡ b → CanTellFrom mode ranked rank olds news → CanTellFrom mode ranked rank a b
  same_can rank olds news a b p q can = subst (λ x. CanTellFrom mode ranked rank x b) p (subst (λ x. CanTellFrom mode ranked rank olds x) q can)

  pub can_next : (rank : ℕ) (olds news laters newers : List Row) (old new : Option Row) → IsNext olds old laters → IsNext news new newers → CanTellFrom mode ranked rank olds news
      → CanTell mode (shown_at ranked rank old) (shown_at ranked rank new) × CanTellFrom mode ranked (suc rank) laters newers
  can_next rank olds news laters newers None None p q can = (can_nothing mode, same_can (suc rank) [] [] laters newers (sym p.1) (sym q.1) tt)
  can_next rank olds news laters newers None (Some new) p q can =
      let c = same_can rank olds news [] (new ∷ newers) p.0 q can in
      (c.0, same_can (suc rank) [] newers laters newers (sym p.1) refl c.1)
  can_next rank olds news laters newers (Some old) None p q can =
      let c = same_can rank olds news (old ∷ laters) [] p q.0 can in
      (c.0, same_can (suc rank) laters [] laters newers refl (sym q.1) c.1)
  can_next rank olds news laters newers (Some old) (Some new) p q can = same_can rank olds news (old ∷ laters) (new ∷ newers) p q can

  -- one more rank is told
  pub one_more : (rank : ℕ) (olds news laters newers : List Row) (old new : Option Row) (sent told all : List Change) → IsNext olds old laters → IsNext news new newers
      → told ≡ sent ++ emission mode (shown_at ranked rank old) (shown_at ranked rank new) → sent ++ told_by_rank ranked mode rank olds news ≡ all → told ++ told_by_rank ranked mode (rank + 1) laters newers ≡ all
  one_more rank olds news laters newers old new sent told all p q e f =
      let next : rank + 1 ≡ suc rank = omega arith in
      (λ i. e i ++ told_by_rank ranked mode (next i) laters newers)
      ∙ append_assoc sent (emission mode (shown_at ranked rank old) (shown_at ranked rank new)) (told_by_rank ranked mode (suc rank) laters newers)
      ∙ ap (λ xs. sent ++ xs) (sym (told_next rank olds news laters newers old new p q)) ∙ f

  pub can_more : (rank : ℕ) (olds news laters newers : List Row) (old new : Option Row) → IsNext olds old laters → IsNext news new newers → CanTellFrom mode ranked rank olds news → CanTellFrom mode ranked (rank + 1) laters newers
  can_more rank olds news laters newers old new p q can = subst (λ n. CanTellFrom mode ranked n laters newers) (let e : suc rank ≡ rank + 1 = omega arith in e) (can_next rank olds news laters newers old new p q can).1

-- ---- first rows

both : (a b : Bool) → T a → T b → T (a && b)
both true b p q = q
both false b p q = p

pub first_part : (a b : Bool) → T (a && b) → T a
first_part true b p = tt
first_part false b p = p

pub second_part : (a b : Bool) → T (a && b) → T b
second_part true b p = p
second_part false b p = absurd p

-- the first rows in rank order are in it
take-ranked : (order : List SortCol) (n : ℕ) (rows : List Row) → AreRanked order rows → AreRanked order (take n rows)
take-ranked order zero rows r = tt
take-ranked order (suc n) [] r = tt
take-ranked order (suc n) (row ∷ rows) r = both _ _ (below n rows (first_part _ _ r)) (take-ranked order n rows (second_part _ _ r))
  where
    below : (n : ℕ) (rows : List Row) → T (at_most_all (rank_cmp order) row rows) → T (at_most_all (rank_cmp order) row (take n rows))
    below zero rows h = tt
    below (suc n) [] h = tt
    below (suc n) (x ∷ rows) h = both _ _ (first_part _ _ h) (below n rows (second_part _ _ h))

pub first_ranked : (order : List SortCol) (bound : ℕ) (rows : Rows) → AreRanked order (take bound (in_rank_order order rows))
first_ranked order bound rows = take-ranked order bound (in_rank_order order rows) (items_in_order (bag_of {R = rank_cmp order} (items rows)))
