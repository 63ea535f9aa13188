-- The rows beyond those of another list, both in rank order, found by a walk over the two.
use Rattle.std.proofs.Common.{◌≡◌, ℕ, zero, suc, ◌+◌, ◌<◌, ◌≤◌, ◌==◌, Bool, true, false, cond, T, not, ◌&&◌, List, [], ◌∷◌, ◌++◌, length, map, drop, refl, sym, ap, subst, ◌∙◌, append_assoc, arith}
use Rattle.std.specs.List.{AllByRecursion}
use Rattle.std.specs.declared.cmp.Ordering.{Ordering}
use Rattle.std.specs.declared.cmp.Ordering.TheVariants.{Less, Equal, Greater}
use Rattle.std.specs.Ordering.{is_lt, is_gt, ordering_reverse}
use Rattle.std.specs.Cmp.{tied_itself, eq_by_cmp_equiv}
use Rattle.std.proofs.lemmas.Bool.{eq-eqb, ne_eqb, false≢true}
use Rattle.ct_value.specs.Bag.{at_most_all, occurs, drop_one, one_at}
use Rattle.ct_value.specs.Order.{row_cmp, row_total}
use Rattle.ct_value.specs.declared.row.Row.{Row}
use Rattle.ct_change.specs.declared.kind.Kind.{Kind}
use Rattle.ct_change.specs.declared.change.Change.{Change}
use Rattle.ct_change.specs.Changelog.{same_row}
use Rattle.ct_change.proofs.laws.Meanings.{same_row-true, same_row-itself}
use Rattle.rel_algebra.specs.declared.sort.SortCol.{SortCol}
use Rattle.rel_algebra.specs.Ranks.{rank_cmp}
use Rattle.rel_algebra.proofs.laws.Ranks.{rank_total, rank_exact}
use Rattle.emission_rules.specs.Ranking.{beyond}
use Rattle.op_topn.specs.Tells.{past, heads, AreRanked}

first : (a b : Bool) → T (a && b) → T a
first true b p = tt
first false b p = p

second : (a b : Bool) → T (a && b) → T b
second true b p = p
second false b p = absurd p

-- rows as changes of one kind
abbrev pub of_kind : Kind → List Row → List Change
of_kind kind rows = map (λ row. record { kind = kind; row = row }) rows

-- the others without their first one
abbrev pub tail_of : List Row → List Row
tail_of [] = []
tail_of (row ∷ rows) = rows

pub drop-next : (n : ℕ) (rows : List Row) → drop (n + 1) rows ≡ tail_of (drop n rows)
drop-next n rows = ap (λ m. drop m rows) (let e : n + 1 ≡ suc n = omega arith in e) ∙ go n rows
  where
    go : (n : ℕ) (rows : List Row) → drop (suc n) rows ≡ tail_of (drop n rows)
    go zero [] = refl
    go (suc n) [] = refl
    go zero (row ∷ rows) = refl
    go (suc n) (row ∷ rows) = go n rows

-- a row that is none of the first list's doesn't matter among the others
beyond-skip : (other : Row) (rows others : List Row) → AllByRecursion (λ row. same_row row other ≡ false) rows → beyond rows (other ∷ others) ≡ beyond rows others
beyond-skip other [] others apart = refl
beyond-skip other (row ∷ rows) others apart =
    let none : one_at row_cmp row other ≡ 0 = ap (λ b. cond b 1 0) apart.0 in
    let count : occurs row_cmp row (other ∷ others) ≡ occurs row_cmp row others = omega arith in
    let dropped : drop_one row_cmp row (other ∷ others) ≡ other ∷ drop_one row_cmp row others = ap (λ b. cond b others (other ∷ drop_one row_cmp row others)) apart.0 in
    ap (λ n. cond (n == 0) (row ∷ beyond rows (other ∷ others)) (beyond rows (drop_one row_cmp row (other ∷ others)))) count
    ∙ ap (λ xs. cond (occurs row_cmp row others == 0) (row ∷ beyond rows (other ∷ others)) (beyond rows xs)) dropped
    ∙ (λ i. cond (occurs row_cmp row others == 0) (row ∷ beyond-skip other rows others apart.1 i) (beyond-skip other rows (drop_one row_cmp row others) apart.1 i))

module _ (order : List SortCol) where
  turned : (a b : Row) → is_lt (rank_cmp order a b) ≡ true → is_gt (rank_cmp order b a) ≡ true
  turned a b e = ap is_gt ((rank_total order).antisymm b a) ∙ go (rank_cmp order a b) e
    where
      go : (o : Ordering) → is_lt o ≡ true → is_gt (ordering_reverse o) ≡ true
      go Less q = refl
      go Equal q = absurd (cc)
      go Greater q = absurd (cc)

  -- a row before another isn't that one, nor one of those from it on
  differs : (a b : Row) → is_lt (rank_cmp order a b) ≡ true → same_row b a ≡ false
  differs a b e = elim (same_row b a) as (λ t. same_row b a ≡ t → t ≡ false) [
    | true ↦ λ s. absurd (
        let same = same_row-true b a s in
        let tied : is_lt (rank_cmp order a b) ≡ false = ap (λ x. is_lt (rank_cmp order a x)) same ∙ ap is_lt (tied_itself (rank_total order) a) in
        false≢true (sym tied ∙ e))
    | false ↦ λ s. refl
  ] refl

  -- where a row is the first of others, none of them stands before it
  pub heads-past : (row : Row) (rows : List Row) → heads row rows ≡ true → rows ≡ past order row rows
  heads-past row [] e = absurd (false≢true e)
  heads-past row (other ∷ others) e =
      let tied : is_lt (rank_cmp order other row) ≡ false = ap (λ x. is_lt (rank_cmp order other x)) (same_row-true row other e) ∙ ap is_lt (tied_itself (rank_total order) other) in
      sym (ap (λ b. cond b (past order row others) (other ∷ others)) tied)

  later_differ : (a b : Row) (rows : List Row) → is_lt (rank_cmp order a b) ≡ true → T (at_most_all (rank_cmp order) b rows) → AllByRecursion (λ row. same_row row a ≡ false) rows
  later_differ a b [] e h = tt
  later_differ a b (row ∷ rows) e h = (
    elim (same_row row a) as (λ t. same_row row a ≡ t → t ≡ false) [
      | true ↦ λ s. absurd (
          let same = same_row-true row a s in
          let after : is_gt (rank_cmp order b row) ≡ true = ap (λ x. is_gt (rank_cmp order b x)) same ∙ turned a b e in
          subst (λ t. T (not t)) after (first _ _ h))
      | false ↦ λ s. refl
    ] refl,
    later_differ a b rows e (second _ _ h),
  )

  -- those before all of the rows don't matter among the others
  beyond-past : (row : Row) (rows others : List Row) → AreRanked order (row ∷ rows) → beyond (row ∷ rows) others ≡ beyond (row ∷ rows) (past order row others)
  beyond-past row rows [] r = refl
  beyond-past row rows (other ∷ others) r =
      elim (is_lt (rank_cmp order other row)) as (λ t. is_lt (rank_cmp order other row) ≡ t → beyond (row ∷ rows) (other ∷ others) ≡ beyond (row ∷ rows) (cond t (past order row others) (other ∷ others))) [
        | true ↦ λ e. beyond-skip other (row ∷ rows) others (differs other row e, later_differ other row rows e (first _ _ r)) ∙ beyond-past row rows others r
        | false ↦ λ e. refl
      ] refl

  pub past-ranked : (row : Row) (others : List Row) → AreRanked order others → AreRanked order (past order row others)
  past-ranked row [] r = r
  past-ranked row (other ∷ others) r =
      elim (is_lt (rank_cmp order other row)) as (λ t. AreRanked order (cond t (past order row others) (other ∷ others))) [
        | true ↦ past-ranked row others (second _ _ r)
        | false ↦ r
      ]

  pub tail-ranked : (rows : List Row) → AreRanked order rows → AreRanked order (tail_of rows)
  tail-ranked [] r = r
  tail-ranked (row ∷ rows) r = second _ _ r

  -- one turn of the walk
  pub one_turn : (row : Row) (rows others : List Row) → AreRanked order (row ∷ rows) → AreRanked order others
      → beyond (row ∷ rows) others ≡ cond (heads row (past order row others)) (beyond rows (tail_of (past order row others))) (row ∷ beyond rows (past order row others))
  one_turn row rows others r q = beyond-past row rows others r ∙ go others q
    where
      none_in : (xs : List Row) → AllByRecursion (λ x. same_row x row ≡ false) xs → occurs row_cmp row xs ≡ 0
      none_in [] h = refl
      none_in (x ∷ xs) h =
          let apart : same_row row x ≡ false = (eq_by_cmp_equiv row_total).symm row x ∙ h.0 in
          let here : one_at row_cmp row x ≡ 0 = ap (λ b. cond b 1 0) apart in
          let rest = none_in xs h.1 in
          omega arith

      -- of others none of which is before the row
      at_first : (other : Row) (others : List Row) → AreRanked order (other ∷ others) → is_lt (rank_cmp order other row) ≡ false
          → beyond (row ∷ rows) (other ∷ others) ≡ cond (same_row row other) (beyond rows others) (row ∷ beyond rows (other ∷ others))
      at_first other others q e =
          elim (same_row row other) as (λ t. same_row row other ≡ t → cond (cond t 1 0 + occurs row_cmp row others == 0) (row ∷ beyond rows (other ∷ others)) (beyond rows (cond t others (other ∷ drop_one row_cmp row others))) ≡ cond t (beyond rows others) (row ∷ beyond rows (other ∷ others))) [
            | true ↦ λ s. ap (λ b. cond b (row ∷ beyond rows (other ∷ others)) (beyond rows others)) (ne_eqb (1 + occurs row_cmp row others) 0 (λ p. omega arith))
            | false ↦ λ s.
                let later : is_lt (rank_cmp order row other) ≡ true = order_of (rank_cmp order row other) (λ p. tied p s) (λ p. e_turned p) in
                let none = none_in others (later_differ row other others later (first _ _ q)) in
                ap (λ b. cond b (row ∷ beyond rows (other ∷ others)) (beyond rows (other ∷ drop_one row_cmp row others))) (eq-eqb (0 + occurs row_cmp row others) 0 (omega arith))
          ] refl
        where
          order_of : (o : Ordering) → (o ≡ Equal → ⊥) → (o ≡ Greater → ⊥) → is_lt o ≡ true
          order_of Less p q = refl
          order_of Equal p q = absurd (p refl)
          order_of Greater p q = absurd (q refl)

          tied : rank_cmp order row other ≡ Equal → same_row row other ≡ false → ⊥
          tied p s = let same = rank_exact order row other p in false≢true (sym s ∙ ap (same_row row) (sym same) ∙ same_row-itself row)

          e_turned : rank_cmp order row other ≡ Greater → ⊥
          e_turned p = let back : is_lt (rank_cmp order other row) ≡ true = ap is_lt ((rank_total order).antisymm other row) ∙ ap (λ o. is_lt (ordering_reverse o)) p in false≢true (sym e ∙ back)

      go : (others : List Row) → AreRanked order others → beyond (row ∷ rows) (past order row others) ≡ cond (heads row (past order row others)) (beyond rows (tail_of (past order row others))) (row ∷ beyond rows (past order row others))
      go [] q = refl
      go (other ∷ others) q =
          elim (is_lt (rank_cmp order other row)) as (λ t. is_lt (rank_cmp order other row) ≡ t → beyond (row ∷ rows) (cond t (past order row others) (other ∷ others)) ≡ cond (heads row (cond t (past order row others) (other ∷ others))) (beyond rows (tail_of (cond t (past order row others) (other ∷ others)))) (row ∷ beyond rows (cond t (past order row others) (other ∷ others)))) [
            | true ↦ λ e. go others (second _ _ q)
            | false ↦ λ e. at_first other others q e
          ] refl

  -- ---- one turn of the loop

  -- what is told once a row was looked up among the others, and what is left
  pub next_told : (kind : Kind) (row : Row) (rows others : List Row) (told all : List Change) (found : Bool) → AreRanked order (row ∷ rows) → AreRanked order others → found ≡ heads row (past order row others)
      → told ++ of_kind kind (beyond (row ∷ rows) others) ≡ all
      → cond found (told ++ of_kind kind (beyond rows (tail_of (past order row others)))) ((told ++ record { kind = kind; row = row } ∷ []) ++ of_kind kind (beyond rows (past order row others))) ≡ all
  next_told kind row rows others told all found r q is e =
      elim found as (λ t. t ≡ heads row (past order row others) → cond t (told ++ of_kind kind (beyond rows (tail_of (past order row others)))) ((told ++ record { kind = kind; row = row } ∷ []) ++ of_kind kind (beyond rows (past order row others))) ≡ all) [
        | true ↦ λ h. ap (λ xs. told ++ of_kind kind xs) (sym (one_turn row rows others r q ∙ ap (λ b. cond b (beyond rows (tail_of (past order row others))) (row ∷ beyond rows (past order row others))) (sym h))) ∙ e
        | false ↦ λ h.
            append_assoc told (record { kind = kind; row = row } ∷ []) (of_kind kind (beyond rows (past order row others)))
            ∙ ap (λ xs. told ++ of_kind kind xs) (sym (one_turn row rows others r q ∙ ap (λ b. cond b (beyond rows (tail_of (past order row others))) (row ∷ beyond rows (past order row others))) (sym h))) ∙ e
      ] is

pub heads_some : (row : Row) (rows : List Row) → heads row rows ≡ true → 0 < length rows
heads_some row [] e = absurd (cc)
heads_some row (x ∷ rows) e = omega arith

pub drop_some : (n : ℕ) (rows : List Row) → 0 < length (drop n rows) → n + 1 ≤ length rows
drop_some zero rows h = omega arith
drop_some (suc n) [] h = absurd (omega arith)
drop_some (suc n) (row ∷ rows) h = let l = drop_some n rows h in omega arith
