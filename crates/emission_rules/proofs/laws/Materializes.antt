-- A materializer meets its facts.
use Rattle.std.proofs.Common.{◌≡◌, ℕ, ◌<◌, ◌==◌, ◌&&◌, true, cond, nat_lt, List, [], ◌∷◌, ◌++◌, length, take, Some, Ok, refl, sym, ap, subst, ◌∙◌, arith, lt-ltb}
use Rattle.std.specs.List.{AllByRecursion, fold, list_all}
use Rattle.ct_value.specs.Bag.{copies}
use Rattle.ct_value.specs.Rows.{project}
use Rattle.ct_value.specs.declared.row.Row.{Row}
use Rattle.ct_change.specs.declared.change.Change.{Change}
use Rattle.ct_change.specs.KeyRows.{row_told}
use Rattle.ct_change.proofs.laws.KeyRows.{key-told}
use Rattle.ct_change.specs.Changelog.{retract, upsert, Rows, adds, AreOf, fold as fold_rows, HasKey, IsValid, Means}
use Rattle.ct_change.proofs.laws.Emissions.{Tell}
use Rattle.ct_change.proofs.laws.Meanings.{fold_means, prefixes_mean, valid_where_prefixes_mean}
use Rattle.op_rules.specs.History.{Arrival, at_port, joined}
use Rattle.op_rules.specs.Rules.{Answer, appended, along}
use Rattle.op_rules.specs.Edges.{bag, ReadsAs, hash, Edge, IsRoutedBy, IsUnique, IsApart, LiesIn, AreApartBy}
use Rattle.op_rules.specs.Tasks.{Task, IsSettled, IsSplitBy, Emitted, AllEmitted, Facts}
use Rattle.op_rules.specs.Ports.{IsReadIn, Takes}
use Rattle.op_rules.proofs.laws.Histories.{all-each, ok-same, appended-nothing, prefix_at}
use Rattle.op_rules.proofs.laws.LastRows.{last_unique}
use Rattle.op_rules.proofs.laws.Totals.{total-same, total_one}
use Rattle.emission_rules.specs.Changes.{changes_of}
use Rattle.emission_rules.specs.Materialize.{stands_after, standing, materialized_all, materialize_rule, materialize_task, MaterializeFits, MaterializersStand, MaterializersTake}
use Rattle.emission_rules.proofs.laws.RowFacts.{changes_of-append, first_port}
use Rattle.emission_rules.proofs.laws.Filters.{from_first, retracts_all}
use Rattle.emission_rules.proofs.laws.Materializing.{standing-append, kinds-materialized, changelog-materialized, materialized-append, rows-materialized, means-materialized, bag-shown}

-- the answers along the pieces
along-materialized : (key : List ℕ) (before : List Arrival) (pieces : List (List Arrival))
    → along (λ b piece. let answer : Answer = Ok (materialized_all key (standing (changes_of b)) (changes_of piece)) in answer) before pieces ≡ Ok (materialized_all key (standing (changes_of before)) (changes_of (joined pieces)))
along-materialized key before [] = refl
along-materialized key before (piece ∷ pieces) =
    let rows : List Row = standing (changes_of before) in
    let after : standing (changes_of (before ++ piece)) ≡ fold stands_after (standing (changes_of before)) (changes_of piece) = ap standing (changes_of-append before piece) ∙ standing-append (changes_of before) (changes_of piece) in
    ap (appended (Ok (materialized_all key rows (changes_of piece)))) (along-materialized key (before ++ piece) pieces)
    ∙ ap (λ r. let answer : Answer = Ok (materialized_all key rows (changes_of piece) ++ materialized_all key r (changes_of (joined pieces))) in answer) after
    ∙ ap (λ (xs : List Change). let answer : Answer = Ok xs in answer) (sym (materialized-append key rows (changes_of piece) (changes_of (joined pieces))) ∙ ap (materialized_all key rows) (sym (changes_of-append piece (joined pieces))))

module _ (key : List ℕ) (many : ℕ) (from : ℕ → Edge) (to : Edge) (fits : MaterializeFits key many (from 0) to) where
  abbrev task : Task
  task = materialize_task key many from to

  module _ (j : ℕ) (pieces : List (List Arrival)) (sent : List Change) (e : Emitted task j pieces sent) where
    abbrev came : List Change
    came = at_port 0 (joined pieces)

    sent_is : sent ≡ materialized_all key [] (at_port 0 (joined pieces))
    sent_is =
        ok-same (materialized_all key [] (at_port 0 (joined pieces))) sent
        (ap (λ xs. let answer : Answer = Ok (materialized_all key [] xs) in answer) (sym (first_port (joined pieces) e.ready.ports))
        ∙ sym (along-materialized key [] pieces)
        ∙ sym (appended-nothing (along (λ b piece. let answer : Answer = Ok (materialized_all key (standing (changes_of b)) (changes_of piece)) in answer) [] pieces))
        ∙ e.emitted)

    valid : IsValid (upsert key) sent
    valid = subst (IsValid (upsert key)) (sym sent_is) (all_valid (at_port 0 (joined pieces)))
      where
        take-whole : (xs : List Change) → take (length xs) xs ≡ xs
        take-whole [] = refl
        take-whole (x ∷ xs) = ap (λ zs. x ∷ zs) (take-whole xs)

        all_valid : (changes : List Change) → IsValid (upsert key) (materialized_all key [] changes)
        all_valid changes = subst (IsValid (upsert key)) (take-whole (materialized_all key [] changes)) (changelog-materialized key [] changes (length (materialized_all key [] changes))).valid

    came_valid : IsValid retract (at_port 0 (joined pieces))
    came_valid = valid_where_prefixes_mean (at_port 0 (joined pieces)) (λ n.
        let front = prefix_at 0 n (joined pieces) in
        let stands = e.ready.valid 0 (omega arith) front.0 in
        (stands.0, subst (λ changes. Means retract changes stands.0) front.1 (subst (λ m. ReadsAs m (at_port 0 (take front.0 (joined pieces))) stands.0) fits.reads stands.1)))

    means_sent : (n : ℕ) (rows : Rows) → Means (upsert key) (take n sent) rows → ReadsAs to.meaning (take n sent) rows
    means_sent n rows means = subst (λ m. ReadsAs m (take n sent) rows) (sym fits.writes) means

    -- the rows that are told are rows that came
    rows_sent : (P : Row → Type 0) → AllByRecursion (λ change. adds change.kind ≡ true → P change.row) (at_port 0 (joined pieces)) → (Q : Change → Type 0) → Tell P Q (upsert key) → AllByRecursion Q sent
    rows_sent P all Q tell = subst (AllByRecursion Q) (sym sent_is) (rows-materialized key P Q tell [] tt (at_port 0 (joined pieces)) all)

    -- they are rows that route here
    here : AllByRecursion (λ change. (from 0).route (project key change.row) ≡ j) sent
    here = rows_sent (λ row. (from 0).route (project key row) ≡ j)
        (all-each (λ change. (from 0).route (project key change.row) ≡ j) _ (λ change is a. is) (at_port 0 (joined pieces))
        (let placed : IsRoutedBy (hash key) (from 0).route j (at_port 0 (joined pieces)) = subst (λ x. IsRoutedBy x (from 0).route j (at_port 0 (joined pieces))) fits.hashed (e.ready.placed 0 (omega arith)) in placed))
        (λ change. (from 0).route (project key change.row) ≡ j) (λ kind row is. ap (from 0).route (key-told key (adds kind) row) ∙ is)

  -- rows of one key leave one subtask
  key_apart : (pieces : ℕ → List (List Arrival)) (sent : ℕ → List Change) → AllEmitted task pieces sent → IsApart key many sent
  key_apart pieces sent all i k il kl =
      all-each _ _ (λ a ha. all-each _ _ (λ b hb same. sym ha ∙ ap (from 0).route same ∙ hb) (sent k) (here k (pieces k) (sent k) (all k kl))) (sent i) (here i (pieces i) (sent i) (all i il))

  -- what fixes the key fixes each set in which it lies
  set_apart : (set : List ℕ) → LiesIn key set → (sent : ℕ → List Change) → IsApart key many sent → IsApart set many sent
  set_apart set lies sent apart i k il kl = all-each _ _ (λ a h. all-each _ _ (λ b there e. there (lies a.row b.row e)) (sent k) h) (sent i) (apart i k il kl)

  split_of : (parts : ℕ → Rows) (whole : Rows) → IsSplitBy (from 0).meaning (from 0).exchange (from 0).route many parts whole
      → (j : ℕ) → j < many → (row : Row) → copies (parts j) row ≡ cond ((from 0).route (project key row) == j) (copies whole row) 0
  split_of parts whole split =
      let s : IsSplitBy bag (hash key) (from 0).route many parts whole =
      subst (λ m. IsSplitBy m (hash key) (from 0).route many parts whole) fits.reads (subst (λ x. IsSplitBy (from 0).meaning x (from 0).route many parts whole) fits.hashed split) in s

  -- the key holds of settled rows, as one that lies in it does
  key_holds : (rows : Rows) → IsSettled (from 0) rows → IsUnique key (copies rows)
  key_holds rows settled a b same x y = settled.keys fits.own fits.is_key a b (fits.lies a b same) x y

  pub materialize_facts : Facts task
  materialize_facts = record {
    folds_to_answer = λ j pieces sent e rows known.
        let means : Means retract (at_port 0 (joined pieces)) (rows 0) = subst (λ m. ReadsAs m (at_port 0 (joined pieces)) (rows 0)) fits.reads (known 0 (omega arith)).0 in
        let is : rows 0 ≡ fold_rows retract (at_port 0 (joined pieces)) = fold_means retract (at_port 0 (joined pieces)) (rows 0) (came_valid j pieces sent e) means in
        let unique : IsUnique key (copies (fold_rows retract (at_port 0 (joined pieces)))) = subst (λ r. IsUnique key (copies r)) is (key_holds (rows 0) (known 0 (omega arith)).1) in
        let whole : Means (upsert key) (materialized_all key [] (at_port 0 (joined pieces))) (rows 0) = subst (Means (upsert key) (materialized_all key [] (at_port 0 (joined pieces)))) (sym is) (means-materialized key (at_port 0 (joined pieces)) _ (bag-shown key (at_port 0 (joined pieces)) unique)) in
        (rows 0, refl, subst (λ m. ReadsAs m sent (rows 0)) (sym fits.writes) (subst (λ xs. Means (upsert key) xs (rows 0)) (sym (sent_is j pieces sent e)) whole));
    prefixes_stand = λ j pieces sent e n.
        let r = prefixes_mean (upsert key) sent (valid j pieces sent e) n in
        (r.0, means_sent j pieces sent e n r.0 r.1);
    kinds_stay = λ j pieces sent e.
        subst (AreOf to.kinds) (sym (sent_is j pieces sent e))
        (all-each _ _ (λ change h. fits.kinds change.kind h) (materialized_all key [] (at_port 0 (joined pieces))) (kinds-materialized key [] (at_port 0 (joined pieces))));
    types_stay = λ j pieces sent e.
        rows_sent j pieces sent e (λ row. (came : Change) × ((from 0).fits came ≡ true) × (adds came.kind ≡ true) × (came.row ≡ row))
        (all-each (λ change. (from 0).fits change ≡ true) _ (λ change h a. (change, h, a, refl)) (at_port 0 (joined pieces)) (e.ready.types 0 (omega arith)))
        (λ change. to.fits change ≡ true)
        (λ kind row h. subst (λ r. to.fits (record { kind = kind; row = row_told (upsert key) (adds kind) r }) ≡ true) h.3 (fits.fits h.0 kind h.1 h.2));
    parts_add_up = λ parts whole answers split made. (
      whole 0,
      refl,
      λ row.
          total-same many _ (λ j. cond ((from 0).route (project key row) == j) (copies (whole 0) row) 0) (λ j l.
          let one : Some (parts j 0) ≡ Some (answers j) = made j l in
          ap (λ r. copies r row) (let is : answers j ≡ parts j 0 = cc in is) ∙ split_of (λ j. parts j 0) (whole 0) (split 0 (omega arith)) j l row)
          ∙ total_one many ((from 0).route (project key row)) (copies (whole 0) row) (fits.routed (project key row)),
    );
    local_keys = λ j pieces sent e set has n rows reads.
        let unique = last_unique key (take n sent) rows (subst (λ m. ReadsAs m (take n sent) rows) fits.writes reads) in
        λ a b same x y. unique a b (fits.local set has a b same) x y;
    fixing_sets = λ pieces sent all come set has. set_apart set (fits.fixing set has) sent (key_apart pieces sent all);
    after_only = λ pieces sent all come fixed. subst (λ m. AreApartBy m many sent) (sym fits.writes) (key_apart pieces sent all);
    answer_types = λ whole answer made settled row some.
        let one : Some (whole 0) ≡ Some answer = made in
        fits.holds row ((settled 0 (omega arith)).types row (subst (λ r. 0 < copies r row) (let is : answer ≡ whole 0 = cc in is) some));
    unique_keys = λ whole answer made settled set has.
        let one : Some (whole 0) ≡ Some answer = made in
        let unique = key_holds (whole 0) (settled 0 (omega arith)) in
        subst (λ r. IsUnique set (copies r)) (let is : whole 0 ≡ answer = cc in is) (λ a b same x y. unique a b (fits.unique set has a b same) x y);
  }

pub materializers_stand : MaterializersStand
materializers_stand key many from to fits = materialize_facts key many from to fits

has_columns : (key : List ℕ) (row : Row) → HasKey (upsert key) row → list_all (λ column. nat_lt column (length row)) key ≡ true
has_columns [] row has = refl
has_columns (column ∷ key) row has =
    let here : nat_lt column (length row) ≡ true = lt-ltb column (length row) has.0 in
    ap (λ b. b && list_all (λ c. nat_lt c (length row)) key) here ∙ has_columns key row has.1

pub materializers_take : MaterializersTake
materializers_take key many from to fits = (
  refl,
  from_first (λ p. Takes (materialize_rule key) p (from p)) (record {
    reads = subst (λ m. IsReadIn m retract) (sym fits.reads) tt;
    kinds = λ kind h. retracts_all kind;
    fits = λ change h. has_columns key change.row (fits.keyed change h);
    keyed = λ change h. tt;
  }),
)
