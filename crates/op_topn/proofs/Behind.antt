-- The first rows of a partition stay where what goes and what comes stands behind them.
use Rattle.std.proofs.Common.{◌≡◌, ℕ, zero, suc, ◌+◌, ◌<◌, ◌==◌, Bool, true, false, T, not, cond, List, [], ◌∷◌, ◌++◌, length, map, take, Option, Some, None, refl, sym, ap, subst, ◌∙◌, arith, Ordering, Less, Equal, Greater}
use Rattle.std.specs.List.{AllByRecursion, slice_get}
use Rattle.std.proofs.lemmas.Bool.{ne_eqb}
use Rattle.std.specs.Ordering.{is_gt}
use Rattle.std.specs.Cmp.{tied_itself, upto}
use Rattle.std.specs.Option.{unwrap_or}
use Rattle.ct_value.specs.Bag.{items, bag_of, put, drop_one, occurs, one_at, weigh, copies, add, remove, items_in_order}
use Rattle.ct_value.proofs.laws.Bags.{add-remove, items-add, weigh-put, same_items, in_order-put}
use Rattle.ct_value.specs.Order.{row_cmp, row_total, row_exact}
use Rattle.ct_value.specs.declared.row.Row.{Row}
use Rattle.ct_change.specs.declared.kind.Kind.TheVariants.{I, D}
use Rattle.ct_change.specs.Changelog.{Mode, Rows}
use Rattle.ct_change.specs.Emission.{replaced}
use Rattle.ct_change.proofs.laws.Emissions.{emission-same}
use Rattle.ct_change.proofs.laws.Meanings.{same_row-itself}
use Rattle.rel_algebra.specs.declared.sort.SortCol.{SortCol}
use Rattle.rel_algebra.specs.Ranks.{rank_cmp, in_rank_order, shown}
use Rattle.rel_algebra.proofs.laws.Ranks.{rank_total, rank_exact}
use Rattle.emission_rules.specs.Ranking.{Ranking, beyond, by_rank, told, told_by_rank, told_by_row}
use Rattle.emission_rules.proofs.laws.Ranked.{weigh-ranked}
use Rattle.op_topn.specs.Kept.{HasRow, IsBehind}
use Rattle.op_topn.specs.Tells.{AreRanked}
use Rattle.op_topn.proofs.Walks.{first_part, second_part}

-- one more row, put among those in rank order
ranked-add : (order : List SortCol) (rows : Rows) (row : Row) → in_rank_order order (add rows row) ≡ put (rank_cmp order) row (in_rank_order order rows)
ranked-add order rows row =
    same_items (rank_cmp order) (rank_total order) (rank_exact order) (in_rank_order order (add rows row)) (put (rank_cmp order) row (in_rank_order order rows))
    (items_in_order (bag_of {R = rank_cmp order} (items (add rows row))))
    (in_order-put (rank_cmp order) (rank_total order) row (in_rank_order order rows) (items_in_order (bag_of {R = rank_cmp order} (items rows))))
    (λ other.
    let f = one_at (rank_cmp order) other in
    weigh-ranked f order (add rows row)
    ∙ ap (weigh f) (items-add row_total rows row)
    ∙ weigh-put row_cmp f row (items rows)
    ∙ ap (λ n. f row + n) (sym (weigh-ranked f order rows))
    ∙ sym (weigh-put (rank_cmp order) f row (in_rank_order order rows)))

pub greater : (o : Ordering) → is_gt o ≡ true → o ≡ Greater
greater Less e = absurd (cc)
greater Equal e = absurd (cc)
greater Greater e = refl

-- no row stands behind itself
never : (order : List SortCol) (row : Row) {A : Type 0} → rank_cmp order row row ≡ Greater → A
never order row h = absurd (let e = tied_itself (rank_total order) row in cc)

module _ (order : List SortCol) where
  -- a row that is put behind the first ones leaves them
  put_behind : (n : ℕ) (row : Row) (rows : List Row) → IsBehind order n (take n rows) (Some row) → take n (put (rank_cmp order) row rows) ≡ take n rows
  put_behind zero row rows h = refl
  put_behind (suc n) row [] h = absurd (omega (arith, h.0))
  put_behind (suc n) row (other ∷ rows) h =
      ap (λ b. take (suc n) (cond b (other ∷ put (rank_cmp order) row rows) (row ∷ other ∷ rows))) (ap is_gt h.1.0)
      ∙ ap (λ xs. other ∷ xs) (put_behind n row rows (omega (arith, h.0), h.1.1))

  -- and one that stands behind those among which it was put, left the same ones before it
  was_behind : (n : ℕ) (row : Row) (rows : List Row) → IsBehind order n (take n (put (rank_cmp order) row rows)) (Some row) → take n (put (rank_cmp order) row rows) ≡ take n rows
  was_behind zero row rows h = refl
  was_behind (suc n) row [] h = never order row h.1.0
  was_behind (suc n) row (other ∷ rows) h =
      elim (is_gt (rank_cmp order row other)) as (λ b. IsBehind order (suc n) (take (suc n) (cond b (other ∷ put (rank_cmp order) row rows) (row ∷ other ∷ rows))) (Some row)
      → take (suc n) (cond b (other ∷ put (rank_cmp order) row rows) (row ∷ other ∷ rows)) ≡ other ∷ take n rows) [
        | true ↦ λ g. ap (λ xs. other ∷ xs) (was_behind n row rows (omega (arith, g.0), g.1.1))
        | false ↦ λ g. never order row g.1.0
      ] h

  module _ (n : ℕ) where
    abbrev firsts : Rows → List Row
    firsts rows = take n (in_rank_order order rows)

    come_stays : (rows : Rows) (row : Row) → IsBehind order n (firsts rows) (Some row) → firsts (add rows row) ≡ firsts rows
    come_stays rows row h = ap (take n) (ranked-add order rows row) ∙ put_behind n row (in_rank_order order rows) h

    gone_stays : (rows : Rows) (row : Row) → 0 < copies rows row → IsBehind order n (firsts rows) (Some row) → firsts (remove rows row) ≡ firsts rows
    gone_stays rows row some h =
        let back : in_rank_order order rows ≡ put (rank_cmp order) row (in_rank_order order (remove rows row)) =
        ap (in_rank_order order) (sym (add-remove row_total row_exact rows row some)) ∙ ranked-add order (remove rows row) row in
        sym (ap (take n) back ∙ was_behind n row (in_rank_order order (remove rows row)) (subst (λ xs. IsBehind order n (take n xs) (Some row)) back h))

    -- the first rows stay where what goes and what comes stands behind them
    pub stays : (rows : Rows) (gone come : Option Row) → HasRow rows gone → IsBehind order n (firsts rows) gone → IsBehind order n (firsts rows) come → firsts (replaced rows gone come) ≡ firsts rows
    stays rows None None has g c = refl
    stays rows None (Some row) has g c = come_stays rows row c
    stays rows (Some row) None has g c = gone_stays rows row has g
    stays rows (Some left) (Some row) has g c =
        let e = gone_stays rows left has g in
        come_stays (remove rows left) row (subst (λ xs. IsBehind order n xs (Some row)) (sym e) c) ∙ e

  -- ---- a row behind the last of them is behind all

  not_gt : (b : Bool) → T (not b) → b ≡ false
  not_gt true h = absurd h
  not_gt false h = refl

  above : (row low high : Row) → T (not (is_gt (rank_cmp order low high))) → rank_cmp order row high ≡ Greater → rank_cmp order row low ≡ Greater
  above row low high l h =
      elim (is_gt (rank_cmp order row low)) as (λ b. is_gt (rank_cmp order row low) ≡ b → rank_cmp order row low ≡ Greater) [
        | true ↦ λ e. greater (rank_cmp order row low) e
        | false ↦ λ e. absurd (let u = upto (rank_total order) row low high e (not_gt _ l) in let g = ap is_gt h in cc)
      ] refl

  pub behind_all : (rows : List Row) (place : ℕ) (last row : Row) → AreRanked order rows → slice_get rows place ≡ Some last → length rows ≡ suc place → rank_cmp order row last ≡ Greater
      → AllByRecursion (λ other. rank_cmp order row other ≡ Greater) rows
  behind_all [] place last row r e n h = absurd (omega (arith, n))
  behind_all (first ∷ []) zero last row r e n h = (ap (rank_cmp order row) (ap (λ o. unwrap_or o first) e) ∙ h, tt)
  behind_all (first ∷ []) (suc place) last row r e n h = absurd (omega (arith, n))
  behind_all (first ∷ second ∷ rows) zero last row r e n h = absurd (omega (arith, n))
  behind_all (first ∷ second ∷ rows) (suc place) last row r e n h =
      let rest = behind_all (second ∷ rows) place last row (second_part _ _ r) e (omega (arith, n)) h in
      (above row first second (first_part _ _ (first_part _ _ r)) rest.0, rest)

-- ---- nothing is told of rows that stay

same_beyond : (rows : List Row) → beyond rows rows ≡ []
same_beyond [] = refl
same_beyond (row ∷ rows) =
    ap (λ b. cond (cond b 1 0 + occurs row_cmp row rows == 0) (row ∷ beyond rows (row ∷ rows)) (beyond rows (cond b rows (row ∷ drop_one row_cmp row rows)))) (same_row-itself row)
    ∙ ap (λ b. cond b (row ∷ beyond rows (row ∷ rows)) (beyond rows rows)) (ne_eqb (1 + occurs row_cmp row rows) 0 (λ p. omega arith))
    ∙ same_beyond rows

same_ranks : (ranked : Bool) (mode : Mode) (rank : ℕ) (rows : List Row) → told_by_rank ranked mode rank rows rows ≡ []
same_ranks ranked mode rank [] = refl
same_ranks ranked mode rank (row ∷ rows) =
    ap (λ xs. xs ++ told_by_rank ranked mode (suc rank) rows rows) (emission-same mode (Some (shown ranked (row, rank))))
    ∙ same_ranks ranked mode (suc rank) rows

pub nothing_told : (r : Ranking) (rows : List Row) → told r rows rows ≡ []
nothing_told r rows =
    elim (by_rank r) as (λ b. cond b (told_by_rank r.ranked r.output 1 rows rows) (told_by_row rows rows) ≡ []) [
      | true ↦ same_ranks r.ranked r.output 1 rows
      | false ↦ ap (λ xs. map (λ row. record { kind = D; row = row }) xs ++ map (λ row. record { kind = I; row = row }) xs) (same_beyond rows)
    ]
