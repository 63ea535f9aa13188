-- Keys of what is shown: those of the input, and what names each row where each rank has one of its own.
use Rattle.std.proofs.Common.{◌≡◌, ℕ, suc, pos, ◌<◌, ◌≤◌, ◌==◌, inl, inr, Bool, true, false, cond, ◌||◌, List, [], ◌∷◌, ◌++◌, length, map, Option, Some, None, refl, sym, ap, subst, ◌∙◌, arith}
use Rattle.std.specs.List.{AllByRecursion}
use Rattle.std.proofs.lemmas.Bool.{eqb-true}
use Rattle.ct_value.specs.Bag.{copies, occurs}
use Rattle.ct_value.specs.Order.{row_cmp}
use Rattle.ct_value.specs.Rows.{project}
use Rattle.ct_value.specs.declared.row.Row.{Row}
use Rattle.ct_value.specs.declared.value.Value.TheVariants.{Num}
use Rattle.ct_change.specs.Changelog.{Rows, same_row}
use Rattle.ct_change.proofs.laws.Meanings.{same_row-true, same_row-itself}
use Rattle.rel_algebra.specs.Clauses.{Fits}
use Rattle.rel_algebra.specs.Ranks.{in_rank_order, ranked_from, shown}
use Rattle.rel_algebra.proofs.laws.Fits.{fits-length}
use Rattle.op_rules.specs.Edges.{IsUnique, LiesIn}
use Rattle.op_rules.proofs.laws.Histories.{all-each}
use Rattle.emission_rules.specs.TopFits.{HasInputKey, IsUniqueKey}
use Rattle.emission_rules.specs.Ranking.{Ranking, key_of, members, first, by_rank, names, IsSound}
use Rattle.emission_rules.proofs.laws.TopAnswers.{IsWide, standing, project-front}
use Rattle.emission_rules.proofs.laws.TopHistories.{length-take}
use Rattle.emission_rules.proofs.laws.Places.{at_rank, entry, entries, one_of-some, one_of-le, standing_at, places_of, places_unique, rank_of, occurs-shown, key-entry}
use Rattle.emission_rules.proofs.laws.Ranked.{all-first, first_few}
use Rattle.emission_rules.proofs.laws.TopStanding.{Standing}
use Rattle.emission_rules.proofs.laws.TopTold.{shown_plain}

-- a key of what stands is one where less stands
pub unique_less : (set : List ℕ) (a b : Standing) → ((row : Row) → a row ≤ b row) → IsUnique set b → IsUnique set a
unique_less set a b less unique x y same p q =
    let u = unique x y same (let l = less x in omega arith) (let l = less y in omega arith) in
    (u.0, let l = less x in let m = u.1 in omega arith)

-- in a list of one row at most all rows are one
alone : (xs : List Row) (a b : Row) → length xs ≤ 1 → 0 < occurs row_cmp a xs → 0 < occurs row_cmp b xs → (a ≡ b) × (occurs row_cmp a xs ≤ 1)
alone [] a b short x y = absurd (omega arith)
alone (z ∷ xs) a b short x y = go xs (omega arith) x y
  where
    is : (c : Row) (t : Bool) → same_row c z ≡ t → 0 < cond {A = ℕ} t 1 0 → c ≡ z
    is c true e h = same_row-true c z e
    is c false e h = absurd (omega arith)

    le : (t : Bool) → cond {A = ℕ} t 1 0 ≤ 1
    le true = omega arith
    le false = omega arith

    go : (xs : List Row) → length xs ≤ 0 → 0 < occurs row_cmp a (z ∷ xs) → 0 < occurs row_cmp b (z ∷ xs) → (a ≡ b) × (occurs row_cmp a (z ∷ xs) ≤ 1)
    go [] s p q = (is a (same_row a z) refl (omega arith) ∙ sym (is b (same_row b z) refl (omega arith)), (let l = le (same_row a z) in omega arith))
    go (w ∷ xs) s p q = absurd (omega arith)

-- the row of a rank occurs, and one that occurs once has one rank
some_rank : (from : ℕ) (xs : List Row) (rank : ℕ) (row : Row) → at_rank from xs rank ≡ Some row → 0 < occurs row_cmp row xs
some_rank from [] rank row e = absurd (cc)
some_rank from (x ∷ xs) rank row e =
    elim (rank == from) as (λ b. cond b (Some x) (at_rank (suc from) xs rank) ≡ Some row → 0 < occurs row_cmp row (x ∷ xs)) [
      | true ↦ λ q.
          let is : x ≡ row = cc in
          let here : same_row row x ≡ true = ap (same_row row) is ∙ same_row-itself row in
          let one : cond {A = ℕ} (same_row row x) 1 0 ≡ 1 = ap (λ b. cond {A = ℕ} b 1 0) here in
          omega arith
      | false ↦ λ q. let rest = some_rank (suc from) xs rank row q in omega arith
    ] e

once_rank : (from : ℕ) (xs : List Row) (rank other : ℕ) (row : Row) → at_rank from xs rank ≡ Some row → at_rank from xs other ≡ Some row → occurs row_cmp row xs ≤ 1 → rank ≡ other
once_rank from [] rank other row e f few = absurd (cc)
once_rank from (x ∷ xs) rank other row e f few =
    elim (rank == from) as (λ b. (rank == from) ≡ b → cond b (Some x) (at_rank (suc from) xs rank) ≡ Some row → rank ≡ other) [
      | true ↦ λ a q. elim (other == from) as (λ b. (other == from) ≡ b → cond b (Some x) (at_rank (suc from) xs other) ≡ Some row → rank ≡ other) [
        | true ↦ λ c p. eqb-true rank from a ∙ sym (eqb-true other from c)
        | false ↦ λ c p. absurd (let is : x ≡ row = cc in twice is (some_rank (suc from) xs other row p))
      ] refl f
      | false ↦ λ a q. elim (other == from) as (λ b. (other == from) ≡ b → cond b (Some x) (at_rank (suc from) xs other) ≡ Some row → rank ≡ other) [
        | true ↦ λ c p. absurd (let is : x ≡ row = cc in twice is (some_rank (suc from) xs rank row q))
        | false ↦ λ c p. once_rank (suc from) xs rank other row q p (omega arith)
      ] refl f
    ] refl e
  where
    twice : x ≡ row → 0 < occurs row_cmp row xs → ⊥
    twice is some =
        let here : same_row row x ≡ true = ap (same_row row) is ∙ same_row-itself row in
        let one : cond {A = ℕ} (same_row row x) 1 0 ≡ 1 = ap (λ b. cond {A = ℕ} b 1 0) here in
        omega arith

-- ---- keys of what is shown

module _ (r : Ranking) (sound : IsSound r) (rows : Rows) (fits : (row : Row) → 0 < copies rows row → Fits r.columns row) (Has : List ℕ → Type 0) (has_key : (columns : List ℕ) → Has columns → IsUnique columns (copies rows)) where
  wide_rows : (row : Row) → 0 < copies rows row → IsWide r row
  wide_rows row some = fits-length r.columns row (fits row some)

  ranked_standing : r.ranked ≡ true → (row : Row) → standing r rows row ≡ standing_at r sound.within (places_of r sound.within (λ k. first r k rows)) row
  ranked_standing e row =
      ap (λ b. occurs row_cmp row (map (shown b) (ranked_from 1 (first r (key_of r row) rows)))) e
      ∙ occurs-shown r sound.within 1 (first r (key_of r row) rows) row
      (all-each (λ x. (key_of r row ≡ key_of r x) × IsWide r x) (IsWide r) (λ x h. h.1) (first r (key_of r row) rows) (all-first r (IsWide r) (key_of r row) rows wide_rows))

  plain_standing : r.ranked ≡ false → (row : Row) → standing r rows row ≡ occurs row_cmp row (first r (key_of r row) rows)
  plain_standing e row = ap (λ b. occurs row_cmp row (map (shown b) (ranked_from 1 (first r (key_of r row) rows)))) e ∙ ap (occurs row_cmp row) (shown_plain 1 (first r (key_of r row) rows))

  ranked_names : r.ranked ≡ true → names r ≡ r.partition ++ length r.columns ∷ []
  ranked_names e = ap (λ b. cond b (r.partition ++ length r.columns ∷ []) r.partition) e

  plain_names : r.ranked ≡ false → names r ≡ r.partition
  plain_names e = ap (λ b. cond b (r.partition ++ length r.columns ∷ []) r.partition) e

  pub names_unique : r.ranked ≡ true → (set : List ℕ) → LiesIn (names r) set → IsUnique set (standing r rows)
  names_unique e set lies a b same x y =
      let u = places_unique r sound.within set (subst (λ n. LiesIn n set) (ranked_names e) lies) (places_of r sound.within (λ k. first r k rows)) a b same
      (let s = ranked_standing e a in omega arith) (let s = ranked_standing e b in omega arith) in
      (u.0, let s = ranked_standing e a in let l = u.1 in omega arith)

  -- a row that is shown with its rank is one that stands
  record IsRanked (row : Row) : Type 0 where
    pub of : Row
    pub rank : ℕ
    pub is : entry of rank ≡ row
    pub at : at_rank 1 (first r (key_of r row) rows) rank ≡ Some of
    pub stands : 0 < copies rows of

  of_entries : (rank : ℕ) (o : Option Row) (row : Row) → entries rank o ≡ Some row → (x : Row) × (o ≡ Some x) × (entry x rank ≡ row)
  of_entries rank None row e = absurd (cc)
  of_entries rank (Some x) row e = (x, refl, cc)

  is_ranked : r.ranked ≡ true → (row : Row) → 0 < standing r rows row → IsRanked row
  is_ranked e row some =
      let s = ranked_standing e row in
      let place = at_rank 1 (first r (key_of r row) rows) (rank_of r sound.within row) in
      let o = of_entries (rank_of r sound.within row) place row (one_of-some (entries (rank_of r sound.within row) place) row (omega arith)) in
      record {
        of = o.0;
        rank = rank_of r sound.within row;
        is = o.2;
        at = o.1;
        stands = (let a = some_rank 1 (first r (key_of r row) rows) (rank_of r sound.within row) o.0 o.1 in let f = first_few r (key_of r row) rows o.0 in omega arith);
      }

  ranked_key : r.ranked ≡ true → (set : List ℕ) → HasInputKey Has (length r.columns) set → IsUnique set (standing r rows)
  ranked_key e set k a b same x y =
      let p = is_ranked e a x in
      let q = is_ranked e b y in
      let front = λ (row : Row) (rank : ℕ) (some : 0 < copies rows row). project-front k.columns row (Num (pos rank) ∷ []) (subst (λ n. AllByRecursion (λ column. column < n) k.columns) (sym (wide_rows row some)) k.within) in
      let agree : project k.columns p.of ≡ project k.columns q.of =
      sym (front p.of p.rank p.stands) ∙ ap (project k.columns) p.is ∙ k.lies a b same ∙ sym (ap (project k.columns) q.is) ∙ front q.of q.rank q.stands in
      let one = has_key k.columns k.has p.of q.of agree p.stands q.stands in
      let key_a : key_of r a ≡ key_of r p.of = sym (ap (key_of r) p.is) ∙ key-entry r sound.within p.of p.rank (wide_rows p.of p.stands) in
      let key_b : key_of r b ≡ key_of r q.of = sym (ap (key_of r) q.is) ∙ key-entry r sound.within q.of q.rank (wide_rows q.of q.stands) in
      let keys : key_of r b ≡ key_of r a = key_b ∙ sym (ap (key_of r) one.0) ∙ sym key_a in
      let at_b : at_rank 1 (first r (key_of r a) rows) q.rank ≡ Some p.of = ap (λ z. at_rank 1 (first r z rows) q.rank) (sym keys) ∙ q.at ∙ ap Some (sym one.0) in
      let ranks = once_rank 1 (first r (key_of r a) rows) p.rank q.rank p.of p.at at_b (let f = first_few r (key_of r a) rows p.of in let l = one.1 in omega arith) in
      (sym p.is ∙ (λ i. entry (one.0 i) (ranks i)) ∙ q.is, let s = ranked_standing e a in let l = one_of-le (entries (rank_of r sound.within a) (at_rank 1 (first r (key_of r a) rows) (rank_of r sound.within a))) a in omega arith)

  plain_key : r.ranked ≡ false → (set : List ℕ) → HasInputKey Has (length r.columns) set → IsUnique set (standing r rows)
  plain_key e set k a b same x y =
      let p = plain_standing e a in
      let q = plain_standing e b in
      let f = first_few r (key_of r a) rows a in
      let g = first_few r (key_of r b) rows b in
      let one = has_key k.columns k.has a b (k.lies a b same) (omega arith) (omega arith) in
      (one.0, let l = one.1 in omega arith)

  plain_one : r.ranked ≡ false → (set : List ℕ) → by_rank r ≡ true → LiesIn (names r) set → IsUnique set (standing r rows)
  plain_one e set one lies a b same x y =
      let p = plain_standing e a in
      let q = plain_standing e b in
      let bound = eqb-true r.bound 1 (sym (ap (λ b. b || (r.bound == 1)) e) ∙ one) in
      let keys : key_of r a ≡ key_of r b = subst (λ n. LiesIn n set) (plain_names e) lies a b same in
      let there : occurs row_cmp b (first r (key_of r a) rows) ≡ occurs row_cmp b (first r (key_of r b) rows) = ap (λ k. occurs row_cmp b (first r k rows)) keys in
      let u = alone (first r (key_of r a) rows) a b (let l = length-take r.bound (in_order (key_of r a)) in omega arith) (omega arith) (omega arith) in
      (u.0, let l = u.1 in omega arith)
    where
      in_order : Row → List Row
      in_order key = in_rank_order r.order (members r key rows)

  pub unique_set : (set : List ℕ) → IsUniqueKey Has r set → IsUnique set (standing r rows)
  unique_set set h =
      elim r.ranked as (λ b. r.ranked ≡ b → IsUnique set (standing r rows)) [
        | true ↦ λ e. elim h [ inl k ↦ ranked_key e set k | inr n ↦ names_unique e set n.1 ]
        | false ↦ λ e. elim h [ inl k ↦ plain_key e set k | inr n ↦ plain_one e set n.0 n.1 ]
      ] refl
