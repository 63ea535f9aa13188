-- What a Top-N tells along a history: it leads from what is shown of the rows before to what is shown of the rows after.
use Rattle.std.proofs.Common.{◌≡◌, ℕ, zero, suc, ◌<◌, ◌≤◌, ◌==◌, Bool, true, false, cond, ◌&&◌, ◌||◌, nat_le, List, [], ◌∷◌, ◌++◌, length, map, take, Ok, refl, sym, ap, subst, ◌∙◌, arith, append_assoc}
use Rattle.std.specs.List.{AllByRecursion}
use Rattle.std.proofs.lemmas.Bool.{eqb-true, leb-false}
use Rattle.ct_value.specs.Bag.{copies, occurs}
use Rattle.ct_value.specs.Order.{row_cmp}
use Rattle.ct_value.specs.declared.row.Row.{Row}
use Rattle.ct_change.specs.declared.kind.KindSet.{KindSet}
use Rattle.ct_change.specs.declared.change.Change.{Change}
use Rattle.ct_change.specs.KeyRows.{key_row, deleted, row_told}
use Rattle.ct_change.proofs.laws.KeyRows.{key_stays}
use Rattle.ct_change.specs.Changelog.{Mode, append, retract, upsert, Rows, same_row, adds, has, apply, fold, fold_from, MayCome, IsValidFrom}
use Rattle.ct_change.proofs.laws.Meanings.{same_row-true, same_row-itself}
use Rattle.rel_algebra.specs.Clauses.{Fits}
use Rattle.rel_algebra.specs.Ranks.{in_rank_order, ranked_from, shown, rank_columns}
use Rattle.rel_algebra.proofs.laws.Fits.{fits-length}
use Rattle.op_rules.specs.History.{Arrival, at_port, joined}
use Rattle.op_rules.specs.Rules.{Answer, appended, along}
use Rattle.op_rules.specs.Edges.{LiesIn}
use Rattle.op_rules.proofs.laws.Histories.{at_port-append, rows_after, all-append, all-each}
use Rattle.emission_rules.specs.TopFits.{output_kinds}
use Rattle.emission_rules.specs.Ranking.{Ranking, key_of, by_rank, first, told_by_rank, told_by_row, tells, tells_all, topn_rule, TellsRanks, IsSound}
use Rattle.emission_rules.proofs.laws.TopAnswers.{IsWide, standing, keys-shown}
use Rattle.emission_rules.proofs.laws.TopMessages.{Turns, by_row_leads, one_leads_bag, one_leads_last}
use Rattle.emission_rules.proofs.laws.Places.{Places, at_rank, at_rank-below, standing_at, places_of, occurs-shown, same_place, Tells, TurnFrom, by_rank_leads}
use Rattle.emission_rules.specs.Arriving.{FitsIn}
use Rattle.emission_rules.proofs.laws.Arriving.{come-fit}
use Rattle.emission_rules.proofs.laws.Ranked.{all-first, other_members, all_after, first_grow}
use Rattle.emission_rules.proofs.laws.TopStanding.{Standing, Leads, leads-from, leads-to, leads-append}
use Rattle.emission_rules.proofs.laws.TopTold.{all_fit, shown_plain, rows_told, only_inserts, kinds_told}

pub length-take : (n : ℕ) (xs : List Row) → length (take n xs) ≤ n
length-take zero xs = omega arith
length-take (suc n) [] = omega arith
length-take (suc n) (x ∷ xs) = let h = length-take n xs in omega arith

-- a Top-N that is sound, whose partitions are of this subtask, and whose input has these kinds
module _ (r : Ranking) (sound : IsSound r) (Here : Row → Type 0) (kinds : KindSet) (Ok : Standing → Type 0) where
  pub record IsTaken (change : Change) : Type 0 where
    pub fits : FitsIn r.input r.columns change
    pub here : Here (key_of r change.row)
    pub kind : has kinds change.kind ≡ true

  pub record IsTold (change : Change) : Type 0 where
    pub here : Here (key_of r change.row)
    -- the row that is shown
    pub whole : Row
    pub fits : Fits (rank_columns r.ranked r.columns) whole
    pub tells : change.row ≡ row_told r.output (adds change.kind) whole
    pub kind : has (output_kinds r kinds) change.kind ≡ true

  abbrev pub AllFit : Rows → Type 0
  AllFit rows = (row : Row) → 0 < copies rows row → Fits r.columns row

  -- with ranks it is fine whatever rows the places have; without them, where no row stands more often than it is shown
  abbrev pub IsFineBy : Bool → Rows → Type 0
  IsFineBy true rows = (places : Places) → Ok (standing_at r sound.within places)
  IsFineBy false rows = (m : Standing) → ((row : Row) → m row ≤ standing r rows row) → Ok m

  wide : (row : Row) → Fits r.columns row → IsWide r row
  wide row fits = fits-length r.columns row fits

  pub first_short : (key : Row) (rows : Rows) → length (first r key rows) ≤ r.bound
  first_short key rows = length-take r.bound _

  -- ---- one change

  module _ (rows : Rows) (change : Change) (fits_rows : AllFit rows) (taken : IsTaken change) (may : MayCome r.input rows change) where
    abbrev key : Row
    key = key_of r change.row

    abbrev fresh : Rows
    fresh = apply r.input rows change

    abbrev olds : List Row
    olds = first r (key_of r change.row) rows

    abbrev news : List Row
    news = first r (key_of r change.row) (apply r.input rows change)

    pub fits_after : AllFit (apply r.input rows change)
    fits_after = all_after r rows change sound.keeps may (Fits r.columns) fits_rows (come-fit r.input r.columns change taken.fits)

    stays : (k : Row) → same_row k (key_of r change.row) ≡ false → first r k (apply r.input rows change) ≡ first r k rows
    stays k apart = ap (λ (m : Rows). take r.bound (in_rank_order r.order m)) (other_members r rows change sound.keeps may k apart)

    of_key : (k : Row) → same_row k (key_of r change.row) ≡ true → k ≡ key_of r change.row
    of_key k e = same_row-true k (key_of r change.row) e

    -- ---- with ranks

    module _ (e : r.ranked ≡ true) (ok : (places : Places) → Ok (standing_at r sound.within places)) where
      ranked_standing : (all : Rows) → AllFit all → (row : Row) → standing r all row ≡ standing_at r sound.within (places_of r sound.within (λ k. first r k all)) row
      ranked_standing all fits row =
          ap (λ b. occurs row_cmp row (map (shown b) (ranked_from 1 (first r (key_of r row) all)))) e
          ∙ occurs-shown r sound.within 1 (first r (key_of r row) all) row
          (all-each (λ x. (key_of r row ≡ key_of r x) × IsWide r x) (IsWide r) (λ x h. h.1) (first r (key_of r row) all) (all-first r (IsWide r) (key_of r row) all (λ x there. wide x (fits x there))))

      ranked_turn : TurnFrom r sound.within Ok ok key 1 news (places_of r sound.within (λ k. first r k rows)) (places_of r sound.within (λ k. first r k fresh))
      ranked_turn k rank =
          elim (same_row k (key_of r change.row)) as (λ b. same_row k (key_of r change.row) ≡ b → at_rank 1 (first r k fresh) rank ≡ cond (b && nat_le 1 rank) (at_rank 1 news rank) (at_rank 1 (first r k rows) rank)) [
            | true ↦ λ s. elim (nat_le 1 rank) as (λ b. nat_le 1 rank ≡ b → at_rank 1 (first r k fresh) rank ≡ cond b (at_rank 1 news rank) (at_rank 1 (first r k rows) rank)) [
              | true ↦ λ l. ap (λ z. at_rank 1 (first r z fresh) rank) (of_key k s)
              | false ↦ λ l. let low = leb-false 1 rank l in at_rank-below 1 (first r k fresh) rank (omega arith) ∙ sym (at_rank-below 1 (first r k rows) rank (omega arith))
            ] refl
            | false ↦ λ s. ap (λ xs. at_rank 1 xs rank) (stays k s)
          ] refl

      tells_names : (output : Mode) → TellsRanks r output → Tells r sound.within Ok ok key output
      tells_names append t = t
      tells_names retract t = tt
      tells_names (upsert columns) t = subst (λ b. LiesIn (cond b (r.partition ++ length r.columns ∷ []) r.partition) columns × LiesIn columns (cond b (r.partition ++ length r.columns ∷ []) r.partition)) e (t.1, t.2)

      ranked_leads : Leads Ok r.output (standing r rows) (tells r rows change) (standing r fresh)
      ranked_leads =
          let before = standing_at r sound.within (places_of r sound.within (λ k. first r k rows)) in
          let after = standing_at r sound.within (places_of r sound.within (λ k. first r k fresh)) in
          let plain : tells r rows change ≡ told_by_rank true r.output 1 olds news = ap (λ b. cond (b || (r.bound == 1)) (told_by_rank b r.output 1 olds news) (told_by_row olds news)) e in
          subst (λ xs. Leads Ok r.output (standing r rows) xs (standing r fresh)) (sym plain)
          (leads-to Ok r.output (standing r rows) after (standing r fresh) (told_by_rank true r.output 1 olds news) (λ row. sym (ranked_standing fresh fits_after row))
          (leads-from Ok r.output (standing r rows) before after (told_by_rank true r.output 1 olds news) (ranked_standing rows fits_rows)
          (by_rank_leads r sound.within Ok ok key r.output (tells_names r.output sound.tells) 1 olds news (omega arith)
          (all-first r (IsWide r) key rows (λ x there. wide x (fits_rows x there))) (all-first r (IsWide r) key fresh (λ x there. wide x (fits_after x there)))
          (places_of r sound.within (λ k. first r k rows)) (places_of r sound.within (λ k. first r k fresh)) (λ rank l. refl) ranked_turn)))

    -- ---- without ranks

    module _ (e : r.ranked ≡ false) (ok_before : (m : Standing) → ((row : Row) → m row ≤ standing r rows row) → Ok m) (ok_after : (m : Standing) → ((row : Row) → m row ≤ standing r fresh row) → Ok m) where
      plain_standing : (all : Rows) (row : Row) → standing r all row ≡ occurs row_cmp row (first r (key_of r row) all)
      plain_standing all row = ap (λ b. occurs row_cmp row (map (shown b) (ranked_from 1 (first r (key_of r row) all)))) e ∙ ap (occurs row_cmp row) (shown_plain 1 (first r (key_of r row) all))

      are_in : (all : Rows) → AllByRecursion (λ row. key_of r change.row ≡ key_of r row) (first r key all)
      are_in all = all-each (λ x. (key_of r change.row ≡ key_of r x) × Unit {0}) (λ x. key_of r change.row ≡ key_of r x) (λ x h. h.0) (first r key all) (all-first r (λ x. Unit {0}) key all (λ x there. tt))

      plain_turns : Turns r Ok key olds news (standing r rows) (standing r fresh)
      plain_turns = record {
        old_in = are_in rows;
        new_in = are_in fresh;
        before = λ row s. plain_standing rows row ∙ ap (λ k. occurs row_cmp row (first r k rows)) (sym (same_row-true key (key_of r row) s));
        after = λ row s. plain_standing fresh row ∙ ap (λ k. occurs row_cmp row (first r k fresh)) (sym (same_row-true key (key_of r row) s));
        stays = λ row s. plain_standing rows row ∙ (ap (occurs row_cmp row) (sym (stays (key_of r row) (turned row s))) ∙ sym (plain_standing fresh row));
      }
        where
          turned : (row : Row) → same_row (key_of r change.row) (key_of r row) ≡ false → same_row (key_of r row) (key_of r change.row) ≡ false
          turned row s = elim (same_row (key_of r row) (key_of r change.row)) as (λ b. same_row (key_of r row) (key_of r change.row) ≡ b → b ≡ false) [
            | true ↦ λ t.
                let same : same_row (key_of r change.row) (key_of r row) ≡ true = ap (same_row (key_of r change.row)) (of_key (key_of r row) t) ∙ same_row-itself (key_of r change.row) in
                absurd (cc)
            | false ↦ λ t. refl
          ] refl

      one_told : (r.bound == 1) ≡ true → (output : Mode) → TellsRanks r output → Leads Ok output (standing r rows) (told_by_rank false output 1 olds news) (standing r fresh)
      one_told one append t = absurd t
      one_told one retract t = one_leads_bag r Ok key (standing r rows) (standing r fresh) ok_before ok_after olds news (short rows) (short fresh) plain_turns
        where
          short : (all : Rows) → length (first r key all) ≤ 1
          short all = let s = first_short key all in let b = eqb-true r.bound 1 one in omega arith
      one_told one (upsert columns) t =
          let both = subst (λ b. LiesIn (cond b (r.partition ++ length r.columns ∷ []) r.partition) columns × LiesIn columns (cond b (r.partition ++ length r.columns ∷ []) r.partition)) e (t.1, t.2) in
          one_leads_last r Ok key (standing r rows) (standing r fresh) ok_before ok_after columns both.0 both.1 olds news (short rows) (short fresh) plain_turns
        where
          short : (all : Rows) → length (first r key all) ≤ 1
          short all = let s = first_short key all in let b = eqb-true r.bound 1 one in omega arith

      many_told : (r.bound == 1) ≡ false → (output : Mode) → TellsRanks r output → Leads Ok output (standing r rows) (told_by_row olds news) (standing r fresh)
      many_told many append t = absurd t
      many_told many retract t = by_row_leads r Ok key (standing r rows) (standing r fresh) ok_before ok_after olds news plain_turns
      many_told many (upsert columns) t = absurd (let no : (false || false) ≡ true = sym ((λ i. e i || many i)) ∙ t.0 in cc)

      plain_leads : Leads Ok r.output (standing r rows) (tells r rows change) (standing r fresh)
      plain_leads =
          let plain : tells r rows change ≡ cond (r.bound == 1) (told_by_rank false r.output 1 olds news) (told_by_row olds news) = ap (λ b. cond (b || (r.bound == 1)) (told_by_rank b r.output 1 olds news) (told_by_row olds news)) e in
          subst (λ xs. Leads Ok r.output (standing r rows) xs (standing r fresh)) (sym plain)
          (elim (r.bound == 1) as (λ b. (r.bound == 1) ≡ b → Leads Ok r.output (standing r rows) (cond b (told_by_rank false r.output 1 olds news) (told_by_row olds news)) (standing r fresh)) [
            | true ↦ λ one. one_told one r.output sound.tells
            | false ↦ λ many. many_told many r.output sound.tells
          ] refl)

    pub tells_leads : IsFineBy r.ranked rows → IsFineBy r.ranked fresh → Leads Ok r.output (standing r rows) (tells r rows change) (standing r fresh)
    tells_leads =
        elim r.ranked as (λ b. r.ranked ≡ b → IsFineBy b rows → IsFineBy b fresh → Leads Ok r.output (standing r rows) (tells r rows change) (standing r fresh)) [
          | true ↦ λ e p q. ranked_leads e p
          | false ↦ λ e p q. plain_leads e p q
        ] refl

    -- ---- what is told

    shown_here : (all : Rows) → AllFit all → AllByRecursion (λ row. Here (key_of r row) × Fits (rank_columns r.ranked r.columns) row) (map (shown r.ranked) (ranked_from 1 (first r key all)))
    shown_here all fits =
        both_of (map (shown r.ranked) (ranked_from 1 (first r key all)))
        (all-each (λ row. key ≡ key_of r row) (λ row. Here (key_of r row)) (λ row is. subst Here is taken.here) _ (keys-shown r sound.within key 1 (first r key all) (all-first r (IsWide r) key all (λ x there. wide x (fits x there)))))
        (all_fit r 1 (first r key all) (all-each (λ x. (key ≡ key_of r x) × Fits r.columns x) (Fits r.columns) (λ x h. h.1) (first r key all) (all-first r (Fits r.columns) key all fits)) (let s = first_short key all in let f = sound.few in omega arith))
      where
        both_of : (xs : List Row) → AllByRecursion (λ row. Here (key_of r row)) xs → AllByRecursion (Fits (rank_columns r.ranked r.columns)) xs → AllByRecursion (λ row. Here (key_of r row) × Fits (rank_columns r.ranked r.columns) row) xs
        both_of [] p q = tt
        both_of (x ∷ xs) p q = ((p.0, q.0), both_of xs p.1 q.1)

    -- the row by which a mode tells another is of its partition
    key_told : (mode : Mode) → TellsRanks r mode → (b : Bool) (row : Row) → key_of r (row_told mode b row) ≡ key_of r row
    key_told mode t true row = refl
    key_told append t false row = absurd t
    key_told retract t false row = refl
    key_told (upsert columns) t false row = elim r.ranked as (λ b. LiesIn (cond b (r.partition ++ length r.columns ∷ []) r.partition) columns → key_of r (key_row columns row) ≡ key_of r row) [
      | true ↦ λ named. (same_place r sound.within (key_row columns row) row (named (key_row columns row) row (key_stays columns row))).0
      | false ↦ λ named. named (key_row columns row) row (key_stays columns row)
    ] t.1

    -- row by row a row is told as it is
    whole_told : (mode : Mode) → TellsRanks r mode → by_rank r ≡ false → (row : Row) → deleted mode row ≡ row
    whole_told append t e row = absurd t
    whole_told retract t e row = refl
    whole_told (upsert columns) t e row = absurd (let no : true ≡ false = sym t.0 ∙ e in cc)

    abbrev IsShown : Change → Type 0
    IsShown change = Here (key_of r change.row) × ((whole : Row) × Fits (rank_columns r.ranked r.columns) whole × (change.row ≡ row_told r.output (adds change.kind) whole))

    pub tells_told : AllByRecursion IsTold (tells r rows change)
    tells_told = joined_facts (tells r rows change)
        (rows_told (λ row. Here (key_of r row) × Fits (rank_columns r.ranked r.columns) row) IsShown r
        (λ kind row p. (subst Here (sym (key_told r.output sound.tells (adds kind) row)) p.0, (row, p.1, refl))) (λ e row p. (p.0, (row, p.1, sym (whole_told r.output sound.tells e row))))
        olds news (shown_here rows fits_rows) (shown_here fresh fits_after))
        (kinds_told r kinds olds news (λ e. first_grow r rows change sound.keeps may (only_inserts kinds change.kind e taken.kind) key))
      where
        joined_facts : (xs : List Change) → AllByRecursion IsShown xs → AllByRecursion (λ change. has (output_kinds r kinds) change.kind ≡ true) xs → AllByRecursion IsTold xs
        joined_facts [] p q = tt
        joined_facts (x ∷ xs) p q = (record { here = p.0.0; whole = p.0.1.0; fits = p.0.1.1; tells = p.0.1.2; kind = q.0 }, joined_facts xs p.1 q.1)

  -- ---- along a history

  pub record Stands (rows after : Rows) (sent : List Change) : Type 0 where
    pub leads : Leads Ok r.output (standing r rows) sent (standing r after)
    pub told : AllByRecursion IsTold sent
    pub fits : AllFit after

  pub all_stand : (rows : Rows) (changes : List Change) → AllFit rows → AllByRecursion IsTaken changes → IsValidFrom r.input rows changes → ((n : ℕ) → IsFineBy r.ranked (fold_from r.input rows (take n changes)))
      → Stands rows (fold_from r.input rows changes) (tells_all r rows changes)
  all_stand rows [] fits taken valid fine = record { leads = λ row. refl; told = tt; fits = fits }
  all_stand rows (change ∷ changes) fits taken valid fine =
      let after = apply r.input rows change in
      let rest = all_stand after changes (fits_after rows change fits taken.0 valid.0) taken.1 valid.1 (λ n. fine (suc n)) in
      record {
        leads = leads-append Ok r.output (standing r rows) (standing r after) (standing r (fold_from r.input after changes)) (tells r rows change) (tells_all r after changes)
            (tells_leads rows change fits taken.0 valid.0 (fine 0) (fine_one (take 0 changes) refl (fine 1))) rest.leads;
        told = all-append IsTold (tells r rows change) (tells_all r after changes) (tells_told rows change fits taken.0 valid.0) rest.told;
        fits = rest.fits;
      }
    where
      fine_one : (xs : List Change) → xs ≡ [] → IsFineBy r.ranked (fold_from r.input (apply r.input rows change) xs) → IsFineBy r.ranked (apply r.input rows change)
      fine_one xs e f = subst (λ ys. IsFineBy r.ranked (fold_from r.input (apply r.input rows change) ys)) e f

-- ---- pieces

pub tells_all-append : (r : Ranking) (rows : Rows) (xs ys : List Change) → tells_all r rows (xs ++ ys) ≡ tells_all r rows xs ++ tells_all r (fold_from r.input rows xs) ys
tells_all-append r rows [] ys = refl
tells_all-append r rows (x ∷ xs) ys = ap (λ zs. tells r rows x ++ zs) (tells_all-append r (apply r.input rows x) xs ys) ∙ sym (append_assoc (tells r rows x) (tells_all r (apply r.input rows x) xs) (tells_all r (fold_from r.input (apply r.input rows x) xs) ys))

pub along_all : (r : Ranking) (before : List Arrival) (pieces : List (List Arrival)) → along (topn_rule r).emits before pieces ≡ Ok (tells_all r (fold r.input (at_port 0 before)) (at_port 0 (joined pieces)))
along_all r before [] = refl
along_all r before (piece ∷ pieces) =
    let rows = fold r.input (at_port 0 before) in
    ap (appended (Ok (tells_all r rows (at_port 0 piece)))) (along_all r (before ++ piece) pieces)
    ∙ ap (λ changes. let a : Answer = Ok changes in a)
    (ap (λ rs. tells_all r rows (at_port 0 piece) ++ tells_all r rs (at_port 0 (joined pieces))) (rows_after r.input before piece)
    ∙ sym (ap (tells_all r rows) (at_port-append 0 piece (joined pieces)) ∙ tells_all-append r rows (at_port 0 piece) (at_port 0 (joined pieces))))
