-- With ranks: the row at each place, which is a partition and a rank, and what is told where one row of a place gives way to another.
use Rattle.std.proofs.Common.{◌≡◌, ℕ, suc, pos, negsuc, ◌+◌, ◌<◌, ◌≤◌, ◌==◌, Bool, true, false, cond, ◌&&◌, nat_le, List, [], ◌∷◌, ◌++◌, length, map, Option, Some, None, option_map, refl, sym, ap, subst, ◌∙◌, arith, slice_index_or}
use Rattle.std.specs.List.{AllByRecursion}
use Rattle.std.proofs.lemmas.Bool.{eqb-true, eqb-false, eq-eqb, ne_eqb, leb-true, leb-false, le-leb}
use Rattle.ct_value.specs.Bag.{occurs, one_at}
use Rattle.ct_value.specs.Order.{row_cmp}
use Rattle.ct_value.specs.Rows.{project}
use Rattle.ct_value.specs.declared.row.Row.{Row}
use Rattle.ct_value.specs.declared.value.Value.{Value}
use Rattle.ct_value.specs.declared.value.Value.TheVariants.{Null, Bool as Truth, Num, Text}
use Rattle.ct_change.specs.declared.kind.Kind.{Kind}
use Rattle.ct_change.specs.declared.kind.Kind.TheVariants.{I, UA, D}
use Rattle.ct_change.specs.Changelog.{Mode, append, retract, upsert, same_row, admits, addition}
use Rattle.ct_change.specs.Emission.{emission, update}
use Rattle.ct_change.specs.KeyRows.{key_row}
use Rattle.ct_change.proofs.laws.KeyRows.{key_stays}
use Rattle.ct_change.proofs.laws.Meanings.{same_row-true, same_row-itself}
use Rattle.rel_algebra.specs.Ranks.{ranked_from, shown}
use Rattle.op_rules.specs.Edges.{LiesIn, IsUnique}
use Rattle.emission_rules.specs.Ranking.{Ranking, key_of, told_by_rank}
use Rattle.emission_rules.proofs.laws.TopAnswers.{project-front, IsWide}
use Rattle.emission_rules.proofs.laws.TopStanding.{Standing, Leads, leads-append}

-- the rank in a rank's column
abbrev pub number : Value → ℕ
number Null = 0
number (Truth truth) = 0
number (Num (pos n)) = n
number (Num (negsuc n)) = 0
number (Text text) = 0

-- the row at each place, if there is one
abbrev pub Places : Type 0
Places = Row → ℕ → Option Row

abbrev pub one_of : Option Row → Row → ℕ
one_of None row = 0
one_of (Some other) row = one_at row_cmp row other

-- the row of a rank among rows that begin at this one
abbrev pub at_rank : ℕ → List Row → ℕ → Option Row
at_rank from [] rank = None
at_rank from (row ∷ rows) rank = cond (rank == from) (Some row) (at_rank (suc from) rows rank)

pub at_rank-below : (from : ℕ) (rows : List Row) (rank : ℕ) → rank < from → at_rank from rows rank ≡ None
at_rank-below from [] rank l = refl
at_rank-below from (row ∷ rows) rank l = ap (λ b. cond b (Some row) (at_rank (suc from) rows rank)) (ne_eqb rank from (λ e. omega arith)) ∙ at_rank-below (suc from) rows rank (omega arith)

-- a row with its rank
abbrev pub entry : Row → ℕ → Row
entry row rank = row ++ Num (pos rank) ∷ []

abbrev pub entries : ℕ → Option Row → Option Row
entries rank o = option_map (λ row. entry row rank) o

pub one_of-le : (o : Option Row) (row : Row) → one_of o row ≤ 1
one_of-le None row = omega arith
one_of-le (Some other) row = elim (same_row row other) as (λ s. cond {A = ℕ} s 1 0 ≤ 1) [ true ↦ omega arith | false ↦ omega arith ]

pub one_of-some : (o : Option Row) (row : Row) → 0 < one_of o row → o ≡ Some row
one_of-some None row some = absurd (omega arith)
one_of-some (Some other) row some = elim (same_row row other) as (λ s. same_row row other ≡ s → 0 < cond {A = ℕ} s 1 0 → Some other ≡ Some row) [ true ↦ λ e h. ap Some (sym (same_row-true row other e)) | false ↦ λ e h. absurd (omega arith) ] refl some

pub cell-behind : (row : Row) (value : Value) → slice_index_or (row ++ value ∷ []) (length row) Null ≡ value
cell-behind [] value = refl
cell-behind (x ∷ row) value = cell-behind row value

-- rows that agree on columns and on one more agree on all of these
pub project-at : (cs : List ℕ) (last : ℕ) (a b : Row) → project cs a ≡ project cs b → slice_index_or a last Null ≡ slice_index_or b last Null → project (cs ++ last ∷ []) a ≡ project (cs ++ last ∷ []) b
project-at [] last a b e f = (λ i. f i ∷ [])
project-at (c ∷ cs) last a b e f =
    let head : slice_index_or a c Null ≡ slice_index_or b c Null = cc in
    let tail : project cs a ≡ project cs b = cc in
    (λ i. head i ∷ project-at cs last a b tail f i)

module _ (r : Ranking) (within : AllByRecursion (λ column. column < length r.columns) r.partition) where
  abbrev pub rank_of : Row → ℕ
  rank_of row = number (slice_index_or row (length r.columns) Null)

  pub key-entry : (row : Row) (rank : ℕ) → IsWide r row → key_of r (entry row rank) ≡ key_of r row
  key-entry row rank wide = project-front r.partition row (Num (pos rank) ∷ []) (subst (λ n. AllByRecursion (λ column. column < n) r.partition) (sym wide) within)

  pub rank-entry : (row : Row) (rank : ℕ) → IsWide r row → rank_of (entry row rank) ≡ rank
  rank-entry row rank wide = ap (λ n. number (slice_index_or (entry row rank) n Null)) (sym wide) ∙ ap number (cell-behind row (Num (pos rank)))

  -- what stands where each place has its row
  abbrev pub standing_at : Places → Standing
  standing_at places = λ row. one_of (entries (rank_of row) (places (key_of r row) (rank_of row))) row

  -- the places of partitions whose first rows these are
  abbrev pub places_of : (Row → List Row) → Places
  places_of firsts = λ key rank. at_rank 1 (firsts key) rank

  -- rows that are shown with their ranks stand at their places
  pub occurs-shown : (from : ℕ) (rows : List Row) (row : Row) → AllByRecursion (IsWide r) rows → occurs row_cmp row (map (shown true) (ranked_from from rows)) ≡ one_of (entries (rank_of row) (at_rank from rows (rank_of row))) row
  occurs-shown from [] row wide = refl
  occurs-shown from (x ∷ rows) row wide =
      let rest = occurs-shown (suc from) rows row wide.1 in
      elim (rank_of row == from) as (λ b. (rank_of row == from) ≡ b → one_at row_cmp row (entry x from) + occurs row_cmp row (map (shown true) (ranked_from (suc from) rows)) ≡ one_of (entries (rank_of row) (cond b (Some x) (at_rank (suc from) rows (rank_of row)))) row) [
        | true ↦ λ e.
            let is : rank_of row ≡ from = eqb-true (rank_of row) from e in
            let none_later : one_of (entries (rank_of row) (at_rank (suc from) rows (rank_of row))) row ≡ 0 = ap (λ o. one_of (entries (rank_of row) o) row) (at_rank-below (suc from) rows (rank_of row) (omega arith)) in
            let here : one_at row_cmp row (entry x (rank_of row)) ≡ one_at row_cmp row (entry x from) = ap (λ n. one_at row_cmp row (entry x n)) is in
            omega arith
        | false ↦ λ e.
            let apart : one_at row_cmp row (entry x from) ≡ 0 =
            elim (same_row row (entry x from)) as (λ b. same_row row (entry x from) ≡ b → ◌≡◌ {A = ℕ} (cond b 1 0) 0) [
              | true ↦ λ s. absurd (eqb-false (rank_of row) from e (ap rank_of (same_row-true row (entry x from) s) ∙ rank-entry x from wide.0))
              | false ↦ λ s. refl
            ] refl in
            omega arith
      ] refl

  -- ---- keys

  project-names : (columns : List ℕ) (last : ℕ) (a b : Row) → project (columns ++ last ∷ []) a ≡ project (columns ++ last ∷ []) b → (project columns a ≡ project columns b) × (slice_index_or a last Null ≡ slice_index_or b last Null)
  project-names [] last a b e = (refl, cc)
  project-names (column ∷ columns) last a b e =
      let head : slice_index_or a column Null ≡ slice_index_or b column Null = cc in
      let tail : project (columns ++ last ∷ []) a ≡ project (columns ++ last ∷ []) b = cc in
      let rest = project-names columns last a b tail in
      ((λ i. head i ∷ rest.0 i), rest.1)

  pub same_place : (a b : Row) → project (r.partition ++ length r.columns ∷ []) a ≡ project (r.partition ++ length r.columns ∷ []) b → (key_of r a ≡ key_of r b) × (rank_of a ≡ rank_of b)
  same_place a b e = let n = project-names r.partition (length r.columns) a b e in (n.0, ap number n.1)

  -- a place has one row
  pub places_unique : (set : List ℕ) → LiesIn (r.partition ++ length r.columns ∷ []) set → (places : Places) → IsUnique set (standing_at places)
  places_unique set lies places a b same x y =
      let at = same_place a b (lies a b same) in
      let one = one_of-some (entries (rank_of a) (places (key_of r a) (rank_of a))) a x in
      let other = one_of-some (entries (rank_of b) (places (key_of r b) (rank_of b))) b y in
      let both : Some a ≡ Some b = sym one ∙ (λ i. entries (at.1 i) (places (at.0 i) (at.1 i))) ∙ other in
      (cc, one_of-le (entries (rank_of a) (places (key_of r a) (rank_of a))) a)

  -- ---- another row at one place

  abbrev pub with_at : Places → Row → ℕ → Option Row → Places
  with_at places key rank o = λ k n. cond (same_row k key && (n == rank)) o (places k n)

  module _ (Ok : Standing → Type 0) (ok : (places : Places) → Ok (standing_at places)) (key : Row) where
    abbrev pub IsIn : Row → Type 0
    IsIn row = (key ≡ key_of r row) × IsWide r row

    abbrev pub IsInto : Option Row → Type 0
    IsInto None = Unit {0}
    IsInto (Some row) = IsIn row

    abbrev hits : ℕ → Row → Bool
    hits rank row = same_row (key_of r row) key && (rank_of row == rank)

    hits_true : (rank : ℕ) (row : Row) → hits rank row ≡ true → (key_of r row ≡ key) × (rank_of row ≡ rank)
    hits_true rank row e =
        elim (same_row (key_of r row) key) as (λ b. same_row (key_of r row) key ≡ b → (b && (rank_of row == rank)) ≡ true → (key_of r row ≡ key) × (rank_of row ≡ rank)) [
          | true ↦ λ s h. (same_row-true (key_of r row) key s, eqb-true (rank_of row) rank h)
          | false ↦ λ s h. absurd (cc)
        ] refl e

    hits_where : (rank : ℕ) (row : Row) → key_of r row ≡ key → rank_of row ≡ rank → hits rank row ≡ true
    hits_where rank row e f = ap (λ b. b && (rank_of row == rank)) (ap (λ k. same_row k key) e ∙ same_row-itself key) ∙ eq-eqb (rank_of row) rank f

    -- a row of another place isn't one of this place
    misses : (rank : ℕ) (o : Option Row) → IsInto o → (row : Row) → hits rank row ≡ false → one_of (entries rank o) row ≡ 0
    misses rank None is row e = refl
    misses rank (Some x) is row e =
        elim (same_row row (entry x rank)) as (λ b. same_row row (entry x rank) ≡ b → ◌≡◌ {A = ℕ} (cond b 1 0) 0) [
          | true ↦ λ s.
              let same = same_row-true row (entry x rank) s in
              let hit = hits_where rank row (ap (key_of r) same ∙ key-entry x rank is.1 ∙ sym is.0) (ap rank_of same ∙ rank-entry x rank is.1) in
              absurd (let both : true ≡ false = sym hit ∙ e in cc)
          | false ↦ λ s. refl
        ] refl

    there : (places : Places) (rank : ℕ) (o : Option Row) (row : Row) → hits rank row ≡ true → standing_at (with_at places key rank o) row ≡ one_of (entries rank o) row
    there places rank o row e =
        ap (λ b. one_of (entries (rank_of row) (cond b o (places (key_of r row) (rank_of row)))) row) e ∙ ap (λ n. one_of (entries n o) row) (hits_true rank row e).1

    away : (places : Places) (rank : ℕ) (o : Option Row) (row : Row) → hits rank row ≡ false → standing_at (with_at places key rank o) row ≡ standing_at places row
    away places rank o row e = ap (λ b. one_of (entries (rank_of row) (cond b o (places (key_of r row) (rank_of row)))) row) e

    -- one row of the place gives way to the other
    swapped : (places : Places) (rank : ℕ) (old new : Option Row) → IsInto old → IsInto new → places key rank ≡ old → (row : Row)
        → standing_at (with_at places key rank new) row + one_of (entries rank old) row ≡ standing_at places row + one_of (entries rank new) row
    swapped places rank old new p q e row =
        elim (hits rank row) as (λ b. hits rank row ≡ b → standing_at (with_at places key rank new) row + one_of (entries rank old) row ≡ standing_at places row + one_of (entries rank new) row) [
          | true ↦ λ h.
              let at = hits_true rank row h in
              let now = there places rank new row h in
              let before : standing_at places row ≡ one_of (entries rank old) row = (λ i. one_of (entries (at.1 i) (places (at.0 i) (at.1 i))) row) ∙ ap (λ o. one_of (entries rank o) row) e in
              omega arith
          | false ↦ λ h.
              let now = away places rank new row h in
              let a = misses rank old p row h in
              let b = misses rank new q row h in
              omega arith
        ] refl

    bag_emission : (places : Places) (rank : ℕ) (old new : Option Row) → IsInto old → IsInto new → places key rank ≡ old → Leads Ok retract (standing_at places) (emission retract (entries rank old) (entries rank new)) (standing_at (with_at places key rank new))
    bag_emission places rank None None p q e = λ row. let s = swapped places rank None None p q e row in omega arith
    bag_emission places rank None (Some b) p q e = (standing_at (with_at places key rank (Some b)), λ row. let s = swapped places rank None (Some b) p q e row in omega arith, ok (with_at places key rank (Some b)), λ row. refl)
    bag_emission places rank (Some a) None p q e = (standing_at (with_at places key rank None), λ row. let s = swapped places rank (Some a) None p q e row in omega arith, ok (with_at places key rank None), λ row. refl)
    bag_emission places rank (Some a) (Some b) p q e =
        elim (same_row (entry a rank) (entry b rank)) as (λ c. same_row (entry a rank) (entry b rank) ≡ c → Leads Ok retract (standing_at places) (cond c [] (update retract (entry a rank) (entry b rank))) (standing_at (with_at places key rank (Some b)))) [
          | true ↦ λ f row.
              let s = swapped places rank (Some a) (Some b) p q e row in
              let same : one_at row_cmp row (entry a rank) ≡ one_at row_cmp row (entry b rank) = ap (one_at row_cmp row) (same_row-true _ _ f) in
              omega arith
          | false ↦ λ f. (
            standing_at (with_at places key rank None),
            λ row. let s = swapped places rank (Some a) None p tt e row in omega arith,
            ok (with_at places key rank None),
            (
              standing_at (with_at places key rank (Some b)),
              λ row. let s = swapped places rank (Some a) None p tt e row in let t = swapped places rank (Some a) (Some b) p q e row in omega arith,
              ok (with_at places key rank (Some b)),
              λ row. refl,
            ),
          )
        ] refl

    -- as last rows, by a key that names the place
    module _ (columns : List ℕ) (named : LiesIn (r.partition ++ length r.columns ∷ []) columns) (names : LiesIn columns (r.partition ++ length r.columns ∷ [])) where
      -- a value that tells a rank is that rank
      of_number : (value : Value) (rank : ℕ) → 0 < rank → number value ≡ rank → value ≡ Num (pos rank)
      of_number Null rank some e = absurd (omega arith)
      of_number (Truth truth) rank some e = absurd (omega arith)
      of_number (Num (pos n)) rank some e = ap (λ m. Num (pos m)) e
      of_number (Num (negsuc n)) rank some e = absurd (omega arith)
      of_number (Text text) rank some e = absurd (omega arith)

      named_by : (rank : ℕ) (x row : Row) → 0 < rank → IsIn x → same_row (project columns (entry x rank)) (project columns row) ≡ hits rank row
      named_by rank x row some is =
          elim (hits rank row) as (λ c. hits rank row ≡ c → same_row (project columns (entry x rank)) (project columns row) ≡ c) [
            | true ↦ λ h.
                let at = hits_true rank row h in
                let value = of_number (slice_index_or row (length r.columns) Null) rank some at.1 in
                let mine : slice_index_or (entry x rank) (length r.columns) Null ≡ Num (pos rank) = ap (λ n. slice_index_or (entry x rank) n Null) (sym is.1) ∙ cell-behind x (Num (pos rank)) in
                let same = names (entry x rank) row (project-at r.partition (length r.columns) (entry x rank) row (key-entry x rank is.1 ∙ sym is.0 ∙ sym at.0) (mine ∙ sym value)) in
                ap (same_row (project columns (entry x rank))) (sym same) ∙ same_row-itself (project columns (entry x rank))
            | false ↦ λ h. elim (same_row (project columns (entry x rank)) (project columns row)) as (λ c. same_row (project columns (entry x rank)) (project columns row) ≡ c → c ≡ false) [
              | true ↦ λ f.
                  let at = same_place (entry x rank) row (named (entry x rank) row (same_row-true _ _ f)) in
                  let hit = hits_where rank row (sym at.0 ∙ key-entry x rank is.1 ∙ sym is.0) (sym at.1 ∙ rank-entry x rank is.1) in
                  absurd (let both : true ≡ false = sym hit ∙ h in cc)
              | false ↦ λ f. refl
            ] refl
          ] refl

      -- by a row that agrees on the key with the place's
      step_to : (kind : Kind) (places : Places) (rank : ℕ) (x told : Row) (new : Option Row) → 0 < rank → admits (upsert columns) kind ≡ true → IsIn x → project columns told ≡ project columns (entry x rank)
          → ((row : Row) → addition row (record { kind = kind; row = told }) ≡ one_of (entries rank new) row)
          → Leads Ok (upsert columns) (standing_at places) (record { kind = kind; row = told } ∷ []) (standing_at (with_at places key rank new))
      step_to kind places rank x told new some fine is same e = (
        standing_at (with_at places key rank new),
        (
          fine,
          λ row.
              let is_hit : same_row (project columns told) (project columns row) ≡ hits rank row = ap (λ k. same_row k (project columns row)) same ∙ named_by rank x row some is in
              elim (hits rank row) as (λ c. hits rank row ≡ c → standing_at (with_at places key rank new) row ≡ cond (same_row (project columns told) (project columns row)) (addition row (record { kind = kind; row = told })) (standing_at places row)) [
                | true ↦ λ h. there places rank new row h ∙ (sym (e row) ∙ sym (ap (λ c. cond c (addition row (record { kind = kind; row = told })) (standing_at places row)) (is_hit ∙ h)))
                | false ↦ λ h. away places rank new row h ∙ sym (ap (λ c. cond c (addition row (record { kind = kind; row = told })) (standing_at places row)) (is_hit ∙ h))
              ] refl,
        ),
        ok (with_at places key rank new),
        λ row. refl,
      )

      last_emission : (places : Places) (rank : ℕ) (old new : Option Row) → 0 < rank → IsInto old → IsInto new → places key rank ≡ old
          → Leads Ok (upsert columns) (standing_at places) (emission (upsert columns) (entries rank old) (entries rank new)) (standing_at (with_at places key rank new))
      last_emission places rank None None some p q e = λ row. let s = swapped places rank None None p q e row in omega arith
      last_emission places rank None (Some b) some p q e = step_to I places rank b (entry b rank) (Some b) some refl q refl (λ row. refl)
      last_emission places rank (Some a) None some p q e = step_to D places rank a (key_row columns (entry a rank)) None some refl p (key_stays columns (entry a rank)) (λ row. refl)
      last_emission places rank (Some a) (Some b) some p q e =
          elim (same_row (entry a rank) (entry b rank)) as (λ c. same_row (entry a rank) (entry b rank) ≡ c → Leads Ok (upsert columns) (standing_at places) (cond c [] (update (upsert columns) (entry a rank) (entry b rank))) (standing_at (with_at places key rank (Some b)))) [
            | true ↦ λ f row.
                let s = swapped places rank (Some a) (Some b) p q e row in
                let same : one_at row_cmp row (entry a rank) ≡ one_at row_cmp row (entry b rank) = ap (one_at row_cmp row) (same_row-true _ _ f) in
                omega arith
            | false ↦ λ f. step_to UA places rank b (entry b rank) (Some b) some refl q refl (λ row. refl)
          ] refl

    -- ---- rank by rank

    -- the mode's key, if it has one, names the place
    abbrev pub Tells : Mode → Type 0
    Tells append = ⊥
    Tells retract = Unit {0}
    Tells (upsert columns) = LiesIn (r.partition ++ length r.columns ∷ []) columns × LiesIn columns (r.partition ++ length r.columns ∷ [])

    emission_leads : (output : Mode) → Tells output → (places : Places) (rank : ℕ) (old new : Option Row) → 0 < rank → IsInto old → IsInto new → places key rank ≡ old
        → Leads Ok output (standing_at places) (emission output (entries rank old) (entries rank new)) (standing_at (with_at places key rank new))
    emission_leads append tells places rank old new some p q e = absurd tells
    emission_leads retract tells places rank old new some p q e = bag_emission places rank old new p q e
    emission_leads (upsert columns) tells places rank old new some p q e = last_emission columns tells.0 tells.1 places rank old new some p q e

    -- from a rank on, the places of the partition have the rows of a list
    abbrev pub HaveFrom : ℕ → List Row → Places → Type 0
    HaveFrom from rows places = (rank : ℕ) → from ≤ rank → places key rank ≡ at_rank from rows rank

    -- and then those of another list
    abbrev pub TurnFrom : ℕ → List Row → Places → Places → Type 0
    TurnFrom from news places after = (k : Row) (rank : ℕ) → after k rank ≡ cond (same_row k key && nat_le from rank) (at_rank from news rank) (places k rank)

    module _ (output : Mode) (tells : Tells output) where
      abbrev LeadsFrom : ℕ → List Row → List Row → Type 0
      LeadsFrom from olds news = (places after : Places) → HaveFrom from olds places → TurnFrom from news places after → Leads Ok output (standing_at places) (told_by_rank true output from olds news) (standing_at after)

      -- a rank, and then the later ones
      one_rank : (from : ℕ) (old new : Option Row) (olds news laters newers : List Row) → 0 < from → IsInto old → IsInto new
          → ((rank : ℕ) → at_rank from olds rank ≡ cond (rank == from) old (at_rank (suc from) laters rank))
          → ((rank : ℕ) → at_rank from news rank ≡ cond (rank == from) new (at_rank (suc from) newers rank))
          → LeadsFrom (suc from) laters newers
          → (places after : Places) → HaveFrom from olds places → TurnFrom from news places after
          → Leads Ok output (standing_at places) (emission output (entries from old) (entries from new) ++ told_by_rank true output (suc from) laters newers) (standing_at after)
      one_rank from old new olds news laters newers some p q old_at new_at rest places after have turn =
          let here : places key from ≡ old = have from (omega arith) ∙ (old_at from ∙ ap (λ b. cond b old (at_rank (suc from) laters from)) (eq-eqb from from refl)) in
          let next = with_at places key from new in
          leads-append Ok output (standing_at places) (standing_at next) (standing_at after) (emission output (entries from old) (entries from new)) (told_by_rank true output (suc from) laters newers)
          (emission_leads output tells places from old new some p q here)
          (rest next after
          (λ rank l. ap (λ b. cond (same_row key key && b) new (places key rank)) (later rank l) ∙ no_hit (same_row key key) new (places key rank) ∙ have rank (omega arith) ∙ old_at rank ∙ ap (λ b. cond b old (at_rank (suc from) laters rank)) (later rank l))
          (λ k rank. turn k rank ∙ elim (same_row k key) as (λ b. cond (b && nat_le from rank) (at_rank from news rank) (places k rank) ≡ cond (b && nat_le (suc from) rank) (at_rank (suc from) newers rank) (cond (b && (rank == from)) new (places k rank))) [
            | true ↦ at_key k rank
            | false ↦ refl
          ]))
        where
          later : (rank : ℕ) → suc from ≤ rank → (rank == from) ≡ false
          later rank l = ne_eqb rank from (λ e. omega arith)

          no_hit : (b : Bool) (x y : Option Row) → cond (b && false) x y ≡ y
          no_hit true x y = refl
          no_hit false x y = refl

          at_key : (k : Row) (rank : ℕ) → cond (nat_le from rank) (at_rank from news rank) (places k rank) ≡ cond (nat_le (suc from) rank) (at_rank (suc from) newers rank) (cond (rank == from) new (places k rank))
          at_key k rank =
              ap (λ o. cond (nat_le from rank) o (places k rank)) (new_at rank)
              ∙ elim (rank == from) as (λ b. (rank == from) ≡ b → cond (nat_le from rank) (cond b new (at_rank (suc from) newers rank)) (places k rank) ≡ cond (nat_le (suc from) rank) (at_rank (suc from) newers rank) (cond b new (places k rank))) [
                | true ↦ λ e.
                    let is = eqb-true rank from e in
                    ap (λ b. cond b new (places k rank)) (le-leb from rank (omega arith)) ∙ sym (ap (λ b. cond b (at_rank (suc from) newers rank) new) (not_le (suc from) rank (omega arith)))
                | false ↦ λ e. ap (λ b. cond b (at_rank (suc from) newers rank) (places k rank)) (same_le rank (eqb-false rank from e))
              ] refl
            where
              not_le : (m n : ℕ) → n < m → nat_le m n ≡ false
              not_le m n l = elim (nat_le m n) as (λ b. nat_le m n ≡ b → b ≡ false) [ true ↦ λ e. absurd (let h = leb-true m n e in omega arith) | false ↦ λ e. refl ] refl

              same_le : (rank : ℕ) → (rank ≡ from → ⊥) → nat_le from rank ≡ nat_le (suc from) rank
              same_le rank apart =
                  elim (nat_le (suc from) rank) as (λ b. nat_le (suc from) rank ≡ b → nat_le from rank ≡ b) [
                    | true ↦ λ e. le-leb from rank (let h = leb-true (suc from) rank e in omega arith)
                    | false ↦ λ e. not_le from rank (let h = leb-false (suc from) rank e in below rank h apart)
                  ] refl
                where
                  below : (rank : ℕ) → rank < suc from → (rank ≡ from → ⊥) → rank < from
                  below rank l apart = elim (rank == from) as (λ b. (rank == from) ≡ b → rank < from) [ true ↦ λ e. absurd (apart (eqb-true rank from e)) | false ↦ λ e. let h = eqb-false rank from e in omega arith ] refl

      nothing_at : (from rank : ℕ) → at_rank from [] rank ≡ cond (rank == from) None (at_rank (suc from) [] rank)
      nothing_at from rank = elim (rank == from) as (λ b. ◌≡◌ {A = Option Row} None (cond b None None)) [ true ↦ refl | false ↦ refl ]

      pub by_rank_leads : (from : ℕ) (olds news : List Row) → 0 < from → AllByRecursion IsIn olds → AllByRecursion IsIn news → LeadsFrom from olds news
      by_rank_leads from [] [] some p q places after have turn = λ row. ap (λ o. one_of (entries (rank_of row) o) row) (sym (turn (key_of r row) (rank_of row) ∙ stays (key_of r row) (rank_of row)))
        where
          stays : (k : Row) (rank : ℕ) → cond (same_row k key && nat_le from rank) None (places k rank) ≡ places k rank
          stays k rank = elim (same_row k key) as (λ b. same_row k key ≡ b → cond (b && nat_le from rank) None (places k rank) ≡ places k rank) [
            | true ↦ λ e. elim (nat_le from rank) as (λ b. nat_le from rank ≡ b → cond b None (places k rank) ≡ places k rank) [
              | true ↦ λ l. sym (ap (λ z. places z rank) (same_row-true k key e) ∙ have rank (leb-true from rank l))
              | false ↦ λ l. refl
            ] refl
            | false ↦ λ e. refl
          ] refl
      by_rank_leads from [] (new ∷ news) some p q places after have turn =
          one_rank from None (Some new) [] (new ∷ news) [] news some tt q.0 (nothing_at from) (λ rank. refl) (by_rank_leads (suc from) [] news (omega arith) tt q.1) places after have turn
      by_rank_leads from (old ∷ olds) [] some p q places after have turn =
          one_rank from (Some old) None (old ∷ olds) [] olds [] some p.0 tt (λ rank. refl) (nothing_at from) (by_rank_leads (suc from) olds [] (omega arith) p.1 tt) places after have turn
      by_rank_leads from (old ∷ olds) (new ∷ news) some p q places after have turn =
          one_rank from (Some old) (Some new) (old ∷ olds) (new ∷ news) olds news some p.0 q.0 (λ rank. refl) (λ rank. refl) (by_rank_leads (suc from) olds news (omega arith) p.1 q.1) places after have turn
