-- A Top-N meets the facts of nodes.
use Rattle.std.proofs.Common.{◌≡◌, ℕ, zero, suc, ◌+◌, ◌<◌, ◌≤◌, ◌==◌, ◌⊎◌, Bool, true, false, cond, List, [], ◌∷◌, ◌++◌, length, take, Option, Some, Ok, refl, sym, ap, subst, ◌∙◌, arith}
use Rattle.std.specs.List.{Contains, AllByRecursion}
use Rattle.std.proofs.lemmas.Bool.{eqb-true, eqb-false}
use Rattle.ct_value.specs.Bag.{none, copies}
use Rattle.ct_value.proofs.laws.Bags.{copies-none, same_bag}
use Rattle.ct_value.specs.Order.{row_total, row_exact}
use Rattle.ct_value.specs.Rows.{project}
use Rattle.ct_value.specs.declared.row.Row.{Row}
use Rattle.ct_change.specs.declared.change.Change.{Change}
use Rattle.ct_change.specs.Changelog.{Mode, append, retract, upsert, Rows, has, admits, AreOf, fold, IsValid, Means}
use Rattle.ct_change.proofs.laws.Meanings.{valid_where_means, fold_means, means_fold, means_come, IsValidFrom-take}
use Rattle.rel_algebra.specs.Clauses.{Fits}
use Rattle.rel_algebra.specs.Ranks.{rank_rows, rank_columns}
use Rattle.rel_algebra.specs.Sums.{together, plus}
use Rattle.rel_algebra.proofs.laws.Bags.{each-copies, copies-each, copies-together}
use Rattle.rel_algebra.proofs.laws.ClauseTypes.{rank_fits}
use Rattle.rel_algebra.proofs.laws.Fits.{fits-length}
use Rattle.rel_algebra.proofs.laws.Groups.{rank_rows-none, rank_rows-together, rank_rows-some}
use Rattle.op_rules.specs.History.{Arrival, at_port, joined}
use Rattle.op_rules.specs.Rules.{appended}
use Rattle.op_rules.specs.Edges.{Meaning, meaning_of, ReadsAs, hash, Edge, IsRoutedBy, IsUnique, IsApart, IsSeen, HoldsOver, AreApartBy, LiesIn}
use Rattle.op_rules.specs.Ports.{IsReadIn}
use Rattle.op_rules.specs.Tasks.{Task, total, IsSettled, IsSplitBy, Emitted, AllEmitted, Facts, PartsAddUp, LocalKeysHold, AnswersFit, UniqueKeysHold}
use Rattle.op_rules.proofs.laws.Histories.{prefix_at, all-each, ok-same}
use Rattle.op_rules.proofs.laws.Totals.{total-same, total_one}
use Rattle.emission_rules.specs.Arriving.{FitsIn}
use Rattle.emission_rules.proofs.laws.Arriving.{all-come-fit}
use Rattle.emission_rules.specs.TopFits.{topn_task, IsLocalKeyBy, TopNFits, TopNStands, TopNTakes}
use Rattle.emission_rules.specs.Ranking.{Ranking, key_of, names, tells_all, TellsRanks, IsSound}
use Rattle.emission_rules.proofs.laws.TopAnswers.{standing, answer_shown}
use Rattle.emission_rules.proofs.laws.TopHistories.{IsTaken, IsTold, IsFineBy, AllFit, Stands, all_stand, along_all}
use Rattle.emission_rules.proofs.laws.TopKeys.{unique_less, unique_set}
use Rattle.emission_rules.proofs.laws.Lists.{all-take}
use Rattle.emission_rules.proofs.laws.Places.{same_place, places_unique}
use Rattle.emission_rules.proofs.laws.TopStanding.{Standing, nothing, Leads, leads-from, leads-take, leads_read, reads_led, prefix_stands}

means_in : (mode : Mode) (changes : List Change) (rows : Rows) → ReadsAs (meaning_of mode) changes rows → Means mode changes rows
means_in append changes rows m = m
means_in retract changes rows m = m
means_in (upsert key) changes rows m = m

reads_in : (mode : Mode) (changes : List Change) (rows : Rows) → Means mode changes rows → ReadsAs (meaning_of mode) changes rows
reads_in append changes rows m = m
reads_in retract changes rows m = m
reads_in (upsert key) changes rows m = m

module _ (many : ℕ) (r : Ranking) (from to : Edge) (fits : TopNFits many r from to) where
  abbrev task : Task
  task = topn_task many r from to

  abbrev sound : IsSound r
  sound = fits.sound

  abbrev batch : Rows → Option Rows
  batch rows = rank_rows r.partition r.order r.bound r.ranked rows

  -- the partitions of a subtask
  abbrev Here : ℕ → Row → Type 0
  Here j key = from.route key ≡ j

  -- local keys hold of what stands
  abbrev IsKeyed : Standing → Type 0
  IsKeyed s = (set : List ℕ) → Contains to.local set → IsUnique set s

  -- the keys that a subtask sees hold of these rows
  abbrev AreKeyed : Rows → Type 0
  AreKeyed rows = (key : List ℕ) → IsSeen from key → IsUnique key (copies rows)

  fine : (rows : Rows) → ((row : Row) → 0 < copies rows row → Fits r.columns row) → AreKeyed rows → IsFineBy r sound (Here 0) from.kinds IsKeyed r.ranked rows
  fine rows all keyed = go r.ranked refl fits.local
    where
      go : (b : Bool) → r.ranked ≡ b → ((set : List ℕ) → Contains to.local set → IsLocalKeyBy b (IsSeen from) r set) → IsFineBy r sound (Here 0) from.kinds IsKeyed b rows
      go true e local = λ places set has_set.
          places_unique r sound.within set (subst (λ b. LiesIn (cond b (r.partition ++ length r.columns ∷ []) r.partition) set) e (local set has_set)) places
      go false e local = λ m less set has_set. unique_less set m (standing r rows) less (unique_set r sound rows all (IsSeen from) keyed set (local set has_set))

  -- ---- what was taken

  module _ (j : ℕ) (pieces : List (List Arrival)) (sent : List Change) (e : Emitted task j pieces sent) where
    abbrev took : List Change
    took = at_port 0 (joined pieces)

    fitting : AllByRecursion (FitsIn r.input r.columns) took
    fitting = all-each (λ change. from.fits change ≡ true) (FitsIn r.input r.columns) (λ change t. fits.fits change t) took (e.ready.types 0 (omega arith))

    placed : AllByRecursion (λ change. from.route (key_of r change.row) ≡ j) took
    placed = subst (λ x. IsRoutedBy x from.route j took) fits.hashed (e.ready.placed 0 (omega arith))

    taken : AllByRecursion (IsTaken r sound (Here j) from.kinds IsKeyed) took
    taken = go took fitting placed (e.ready.kinds 0 (omega arith))
      where
        go : (xs : List Change) → AllByRecursion (FitsIn r.input r.columns) xs → AllByRecursion (λ change. from.route (key_of r change.row) ≡ j) xs → AreOf from.kinds xs → AllByRecursion (IsTaken r sound (Here j) from.kinds IsKeyed) xs
        go [] f p k = tt
        go (change ∷ xs) f p k = (record { fits = f.0; here = p.0; kind = k.0 }, go xs f.1 p.1 k.1)

    valid : IsValid r.input took
    valid = valid_where_means r.input took (all-each (λ change. has from.kinds change.kind ≡ true) (λ change. admits r.input change.kind ≡ true) (λ change k. fits.kinds change.kind k) took (e.ready.kinds 0 (omega arith)))
        (λ n.
        let m = prefix_at 0 n (joined pieces) in
        let stands = e.ready.valid 0 (omega arith) m.0 in
        (stands.0, means_in r.input (take n took) stands.0 (subst (λ meaning. ReadsAs meaning (take n took) stands.0) fits.reads (subst (λ xs. ReadsAs from.meaning xs stands.0) m.1 stands.1))))

    abbrev rows_after : ℕ → Rows
    rows_after n = fold r.input (take n took)

    means_after : (n : ℕ) → Means r.input (take n took) (rows_after n)
    means_after n = means_fold r.input (take n took) (IsValidFrom-take r.input none n took valid)

    fit_after : (n : ℕ) (row : Row) → 0 < copies (rows_after n) row → Fits r.columns row
    fit_after n row there = means_come (Fits r.columns) r.input (take n took) (rows_after n) (means_after n) (all-come-fit r.input r.columns (take n took) (all-take (FitsIn r.input r.columns) n took fitting)) row there

    keyed_after : (n : ℕ) → AreKeyed (rows_after n)
    keyed_after n key seen =
        let m = prefix_at 0 n (joined pieces) in
        e.ready.keys 0 (omega arith) key seen m.0 (rows_after n)
        (subst (λ xs. ReadsAs from.meaning xs (rows_after n)) (sym m.1) (subst (λ meaning. ReadsAs meaning (take n took) (rows_after n)) (sym fits.reads) (reads_in r.input (take n took) (rows_after n) (means_after n))))

    sent_is : sent ≡ tells_all r none took
    sent_is = ok-same (tells_all r none took) sent (sym (ap (appended (Ok [])) (along_all r [] pieces)) ∙ e.emitted)

    none_fit : AllFit r sound (Here j) from.kinds IsKeyed none
    none_fit row there = absurd (let z = copies-none row_total row in omega arith)

    stands : Stands r sound (Here j) from.kinds IsKeyed none (fold r.input took) (tells_all r none took)
    stands = all_stand r sound (Here j) from.kinds IsKeyed none took none_fit taken valid (λ n. fine (rows_after n) (fit_after n) (keyed_after n))

    nothing_stands : (row : Row) → 0 ≡ standing r none row
    nothing_stands row = sym (copies-none row_total row) ∙ answer_shown r sound.within none (λ x there. absurd (let z = copies-none row_total x in omega arith)) row none (rank_rows-none r.partition r.order r.bound r.ranked)

    -- what is known of all that was sent
    leads : Leads IsKeyed r.output nothing sent (standing r (fold r.input took))
    leads = subst (λ xs. Leads IsKeyed r.output nothing xs (standing r (fold r.input took))) (sym sent_is) (leads-from IsKeyed r.output nothing (standing r none) (standing r (fold r.input took)) (tells_all r none took) nothing_stands stands.leads)

    told : AllByRecursion (IsTold r sound (Here j) from.kinds IsKeyed) sent
    told = subst (AllByRecursion (IsTold r sound (Here j) from.kinds IsKeyed)) (sym sent_is) stands.told

    fits_whole : AllFit r sound (Here j) from.kinds IsKeyed (fold r.input took)
    fits_whole = stands.fits

  -- ---- the answer

  answer_is : (rows answer : Rows) → ((row : Row) → 0 < copies rows row → Fits r.columns row) → batch rows ≡ Some answer → (row : Row) → copies answer row ≡ standing r rows row
  answer_is rows answer all e row = answer_shown r sound.within rows (λ x there. fits-length r.columns x (all x there)) row answer e

  settled_fits : (rows : Rows) → IsSettled from rows → (row : Row) → 0 < copies rows row → Fits r.columns row
  settled_fits rows settled row there = fits.holds row (settled.types row there)

  answers_fit : AnswersFit task
  answers_fit whole answer e settled row there =
      fits.out_holds row (each-copies row_total row_exact (Fits (rank_columns r.ranked r.columns)) answer
      (rank_fits r.columns r.partition r.order r.bound r.ranked (whole 0) answer sound.few (copies-each row_total row_exact (Fits r.columns) (whole 0) (settled_fits (whole 0) (settled 0 (omega arith)))) e) row there)

  unique_keys : UniqueKeysHold task
  unique_keys whole answer e settled set has_set =
      let s = settled 0 (omega arith) in
      unique_less set (copies answer) (standing r (whole 0)) (λ row. let a = answer_is (whole 0) answer (settled_fits (whole 0) s) e row in omega arith)
      (unique_set r sound (whole 0) (settled_fits (whole 0) s) (λ columns. Contains from.unique columns ⊎ HoldsOver from columns) s.keys set (fits.unique set has_set))

  -- ---- keys

  start_keyed : IsKeyed nothing
  start_keyed set has_set a b same x y = absurd (omega arith)

  local_keys : LocalKeysHold task
  local_keys j pieces sent e set has_set n rows reads =
      let front = leads-take IsKeyed r.output nothing (standing r (fold r.input (at_port 0 (joined pieces)))) n sent start_keyed (leads j pieces sent e) in
      let are = reads_led IsKeyed r.output front.0 (take n sent) front.2 rows (subst (λ m. ReadsAs m (take n sent) rows) fits.writes reads) in
      unique_less set (copies rows) front.0 (λ row. let a = are row in omega arith) (front.1 set has_set)

  -- rows of one partition leave one subtask
  partitions_apart : (pieces : ℕ → List (List Arrival)) (sent : ℕ → List Change) → AllEmitted task pieces sent → (set : List ℕ) → LiesIn r.partition set → IsApart set many sent
  partitions_apart pieces sent all set lies i j il jl =
      all-each _ _ (λ a ta. all-each _ _ (λ b tb same. sym ta.here ∙ (ap from.route (lies a.row b.row same) ∙ tb.here)) (sent j) (told j (pieces j) (sent j) (all j jl))) (sent i) (told i (pieces i) (sent i) (all i il))

  named_partition : (set : List ℕ) → LiesIn (names r) set → LiesIn r.partition set
  named_partition set lies a b same = go r.ranked refl (lies a b same)
    where
      go : (t : Bool) → r.ranked ≡ t → project (cond t (r.partition ++ length r.columns ∷ []) r.partition) a ≡ project (cond t (r.partition ++ length r.columns ∷ []) r.partition) b → project r.partition a ≡ project r.partition b
      go true e q = (same_place r sound.within a b q).0
      go false e q = q

  after_only : (mode : Mode) → TellsRanks r mode → (pieces : ℕ → List (List Arrival)) (sent : ℕ → List Change) → AllEmitted task pieces sent → AreApartBy (meaning_of mode) many sent
  after_only append tells pieces sent all = absurd tells
  after_only retract tells pieces sent all = tt
  after_only (upsert key) tells pieces sent all = partitions_apart pieces sent all key (named_partition key tells.1)

  -- ---- parts

  -- the subtask of a row
  abbrev place : Row → ℕ
  place row = from.route (key_of r row)

  module _ (whole : Rows) (parts answers : ℕ → Rows) (split : (j : ℕ) → j < many → (row : Row) → copies (parts j) row ≡ cond (place row == j) (copies whole row) 0) where
    -- the first parts together
    abbrev upto : ℕ → Rows
    upto zero = none
    upto (suc n) = together (upto n) (parts n)

    copies_upto : (n : ℕ) (row : Row) → copies (upto n) row ≡ total n (λ j. copies (parts j) row)
    copies_upto zero row = copies-none row_total row
    copies_upto (suc n) row = copies-together row_total row_exact (upto n) (parts n) row ∙ ap (λ m. m + copies (parts n) row) (copies_upto n row)

    all_parts : upto many ≡ whole
    all_parts = same_bag row_total row_exact _ _ (λ row.
        copies_upto many row ∙ (total-same many (λ j. copies (parts j) row) (λ j. cond (place row == j) (copies whole row) 0) (λ j jl. split j jl row)
        ∙ total_one many (place row) (copies whole row) (fits.routed (key_of r row))))

    there : (b : Bool) (n m : ℕ) → n ≡ cond b m 0 → 0 < n → b ≡ true
    there true n m e h = refl
    there false n m e h = absurd (omega arith)

    -- a row of one of the first parts goes to one of the first subtasks
    place_upto : (n : ℕ) → n ≤ many → (row : Row) → 0 < copies (upto n) row → place row < n
    place_upto zero l row some = absurd (let e = copies-none row_total row in omega arith)
    place_upto (suc n) l row some =
        elim (copies (parts n) row == 0) as (λ b. (copies (parts n) row == 0) ≡ b → place row < suc n) [
          | true ↦ λ z.
              let none_here = eqb-true (copies (parts n) row) 0 z in
              let sum = copies-together row_total row_exact (upto n) (parts n) row in
              let before = place_upto n (omega arith) row (omega arith) in
              omega arith
          | false ↦ λ z.
              let some_here = eqb-false (copies (parts n) row) 0 z in
              let at = eqb-true (place row) n (there (place row == n) (copies (parts n) row) (copies whole row) (split n (omega arith) row) (omega arith)) in
              omega arith
        ] refl

    module _ (made : (j : ℕ) → j < many → batch (parts j) ≡ Some (answers j)) where
      made_upto : (n : ℕ) → n ≤ many → (answer : Rows) × (batch (upto n) ≡ Some answer) × ((row : Row) → total n (λ j. copies (answers j) row) ≡ copies answer row)
      made_upto zero l = (none, rank_rows-none r.partition r.order r.bound r.ranked, λ row. sym (copies-none row_total row))
      made_upto (suc n) l =
          let rest = made_upto n (omega arith) in (
            together rest.0 (answers n),
            rank_rows-together r.partition r.order r.bound r.ranked (upto n) (parts n) (λ row other some more same.
                let before = place_upto n (omega arith) row some in
                let at = eqb-true (place other) n (there (place other == n) (copies (parts n) other) (copies whole other) (split n (omega arith) other) more) in
                let one : place row ≡ place other = ap from.route same in
                let wrong : ⊥ = omega arith in wrong)
                ∙ ((λ i. plus (rest.1 i) (made n (omega arith) i))),
            λ row. let sum = copies-together row_total row_exact rest.0 (answers n) row in let before = rest.2 row in omega arith,
          )

      add_up : (answer : Rows) × (batch whole ≡ Some answer) × ((row : Row) → total many (λ j. copies (answers j) row) ≡ copies answer row)
      add_up =
          let all = made_upto many (omega arith) in
          (all.0, ap batch (sym all_parts) ∙ all.1, all.2)

  split_of : (mode : Mode) (parts : ℕ → Rows) (whole : Rows) → IsSplitBy (meaning_of mode) (hash r.partition) from.route many parts whole → (j : ℕ) → j < many → (row : Row) → copies (parts j) row ≡ cond (place row == j) (copies whole row) 0
  split_of append parts whole split = split
  split_of retract parts whole split = split
  split_of (upsert key) parts whole split = split

  parts_add_up : PartsAddUp task
  parts_add_up parts whole answers split made =
      let s = split_of r.input (λ j. parts j 0) (whole 0) (subst (λ x. IsSplitBy (meaning_of r.input) x from.route many (λ j. parts j 0) (whole 0)) fits.hashed (subst (λ m. IsSplitBy m from.exchange from.route many (λ j. parts j 0) (whole 0)) fits.reads (split 0 (omega arith)))) in
      add_up (whole 0) (λ j. parts j 0) answers s made

  -- ---- the facts

  topn_facts : Facts task
  topn_facts = record {
    folds_to_answer = λ j pieces sent e rows reads.
        let took_all = at_port 0 (joined pieces) in
        let same : rows 0 ≡ fold r.input took_all = fold_means r.input took_all (rows 0) (valid j pieces sent e) (means_in r.input took_all (rows 0) (subst (λ m. ReadsAs m took_all (rows 0)) fits.reads (reads 0 (omega arith)).0)) in
        let answer = rank_rows-some r.partition r.order r.bound r.ranked (rows 0) in
        let at_last : (row : Row) → copies answer.0 row ≡ standing r (fold r.input took_all) row =
        λ row. answer_is (rows 0) answer.0 (subst (λ rs. (x : Row) → 0 < copies rs x → Fits r.columns x) (sym same) (fits_whole j pieces sent e)) answer.1 row ∙ ap (λ rs. standing r rs row) same in
        (answer.0, answer.1, subst (λ m. ReadsAs m sent answer.0) (sym fits.writes) (leads_read IsKeyed r.output (standing r (fold r.input took_all)) sent (leads j pieces sent e) answer.0 at_last));
    prefixes_stand = λ j pieces sent e n.
        let rows = prefix_stands IsKeyed r.output (standing r (fold r.input (at_port 0 (joined pieces)))) sent (leads j pieces sent e) n in
        (rows.0, subst (λ m. ReadsAs m (take n sent) rows.0) (sym fits.writes) rows.1);
    kinds_stay = λ j pieces sent e. all-each (IsTold r sound (Here j) from.kinds IsKeyed) (λ change. has to.kinds change.kind ≡ true) (λ change t. fits.out_kinds change.kind t.kind) sent (told j pieces sent e);
    types_stay = λ j pieces sent e. all-each (IsTold r sound (Here j) from.kinds IsKeyed) (λ change. to.fits change ≡ true) (λ change t. subst (λ row. to.fits (record { kind = change.kind; row = row }) ≡ true) (sym t.tells) (fits.out_fits change.kind t.whole t.fits)) sent (told j pieces sent e);
    parts_add_up = parts_add_up;
    local_keys = local_keys;
    fixing_sets = λ pieces sent all come set has_set. partitions_apart pieces sent all set (fits.fixing set has_set);
    after_only = λ pieces sent all come fixed. subst (λ m. AreApartBy m many sent) (sym fits.writes) (after_only r.output sound.tells pieces sent all);
    answer_types = answers_fit;
    unique_keys = unique_keys;
  }

pub topn_stands : TopNStands
topn_stands many r from to fits = topn_facts many r from to fits

-- ---- what comes

pub takes_edge : (meaning : Meaning) (mode : Mode) → meaning ≡ meaning_of mode → IsReadIn meaning mode
takes_edge meaning mode is = subst (λ m. IsReadIn m mode) (sym is) (go mode)
  where
    go : (mode : Mode) → IsReadIn (meaning_of mode) mode
    go append = tt
    go retract = tt
    go (upsert key) = refl

pub topn_takes : TopNTakes
topn_takes many r from to fits = (refl, λ p l. record { reads = takes_edge from.meaning r.input fits.reads; kinds = fits.kinds; fits = λ change h. (fits.fits change h).types; keyed = fits.keyed })
