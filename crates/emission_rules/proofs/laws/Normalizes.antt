-- A normalize meets its facts.
use Rattle.std.proofs.Common.{◌≡◌, ℕ, ◌<◌, ◌==◌, Bool, true, false, cond, List, [], ◌∷◌, ◌++◌, take, Some, Ok, refl, sym, ap, subst, ◌∙◌, arith}
use Rattle.std.specs.List.{AllByRecursion}
use Rattle.ct_value.specs.Bag.{copies, none}
use Rattle.ct_value.proofs.laws.Bags.{total-none, copies-none}
use Rattle.ct_value.specs.Order.{row_total}
use Rattle.ct_value.specs.Rows.{project}
use Rattle.ct_value.specs.declared.row.Row.{Row}
use Rattle.ct_change.specs.declared.change.Change.{Change}
use Rattle.ct_change.specs.KeyRows.{key_row, row_told}
use Rattle.ct_change.proofs.laws.KeyRows.{key_stays}
use Rattle.ct_change.specs.Changelog.{Mode, append, retract, upsert, Rows, adds, AreOf, fold, fold_from, IsValid, Means}
use Rattle.ct_change.proofs.laws.Emissions.{Tell}
use Rattle.ct_change.proofs.laws.Folds.{fold_from-append}
use Rattle.ct_change.proofs.laws.Meanings.{in_key, IsOnce, means_fold, fold_means, prefixes_mean, valid-upsert, IsValidFrom-take}
use Rattle.op_rules.specs.History.{Arrival, at_port, joined}
use Rattle.op_rules.specs.Rules.{Answer, appended, along}
use Rattle.op_rules.specs.Edges.{last_rows, meaning_of, ReadsAs, hash, Edge, IsRoutedBy, IsUnique, IsApart, LiesIn, AreApartBy}
use Rattle.op_rules.specs.Tasks.{Task, IsSplitBy, Emitted, AllEmitted, Facts}
use Rattle.op_rules.specs.Ports.{IsReadIn, Takes}
use Rattle.op_rules.proofs.laws.Histories.{all-each, ok-same, appended-nothing}
use Rattle.op_rules.proofs.laws.LastRows.{last_unique}
use Rattle.op_rules.proofs.laws.Totals.{total-same, total_one}
use Rattle.emission_rules.specs.Changes.{changes_of}
use Rattle.emission_rules.specs.Normalize.{Normalize, normalized_all, normalize_emits, normalize_rule, normalize_task, TellsKey, NormalizeFits, NormalizesStand, NormalizesTake}
use Rattle.emission_rules.proofs.laws.RowFacts.{changes_of-append, first_port}
use Rattle.emission_rules.proofs.laws.Filters.{from_first}
use Rattle.emission_rules.proofs.laws.Normalizing.{once_unique, along-take, folds-normalized, valid-normalized, kinds-normalized, normalized-append, rows-normalized, along-normalized}

reads_in : (mode : Mode) (changes : List Change) (rows : Rows) → Means mode changes rows → ReadsAs (meaning_of mode) changes rows
reads_in append changes rows m = m
reads_in retract changes rows m = m
reads_in (upsert key) changes rows m = m

-- the answers along the pieces
along-normalize : (normalize : Normalize) (before : List Arrival) (pieces : List (List Arrival))
    → along (λ b piece. normalize_emits normalize (changes_of b) (changes_of piece)) before pieces ≡ Ok (normalized_all normalize (fold (upsert normalize.key) (changes_of before)) (changes_of (joined pieces)))
along-normalize normalize before [] = refl
along-normalize normalize before (piece ∷ pieces) =
    let rows : Rows = fold (upsert normalize.key) (changes_of before) in
    let after : fold (upsert normalize.key) (changes_of (before ++ piece)) ≡ fold_from (upsert normalize.key) (fold (upsert normalize.key) (changes_of before)) (changes_of piece) =
    ap (fold (upsert normalize.key)) (changes_of-append before piece) ∙ fold_from-append (upsert normalize.key) none (changes_of before) (changes_of piece) in
    ap (appended (normalize_emits normalize (changes_of before) (changes_of piece))) (along-normalize normalize (before ++ piece) pieces)
    ∙ ap (λ r. let answer : Answer = Ok (normalized_all normalize rows (changes_of piece) ++ normalized_all normalize r (changes_of (joined pieces))) in answer) after
    ∙ ap (λ (xs : List Change). let answer : Answer = Ok xs in answer) (sym (normalized-append normalize rows (changes_of piece) (changes_of (joined pieces))) ∙ ap (normalized_all normalize rows) (sym (changes_of-append piece (joined pieces))))

nothing_once : (key : List ℕ) → IsOnce key none
nothing_once key row = let e = total-none row_total (in_key key row) in omega arith

-- a row keeps its key where a mode that can tell it tells it
key_told : (key : List ℕ) (mode : Mode) → TellsKey key mode → (b : Bool) (row : Row) → project key (row_told mode b row) ≡ project key row
key_told key mode can true row = refl
key_told key append can false row = absurd can
key_told key retract can false row = refl
key_told key (upsert columns) can false row = subst (λ k. project k (key_row columns row) ≡ project k row) can (key_stays columns row)

-- rows that agree on a set agree on the columns, so what fixes the columns fixes the set
apart-lists : (columns set : List ℕ) (many : ℕ) (lists : ℕ → List Change) → LiesIn columns set → IsApart columns many lists → IsApart set many lists
apart-lists columns set many lists lies apart i j il jl =
    all-each _ _ (λ a h. all-each _ _ (λ b k e. k (lies a.row b.row e)) (lists j) h) (lists i) (apart i j il jl)

module _ (normalize : Normalize) (many : ℕ) (from : ℕ → Edge) (to : Edge) (fits : NormalizeFits normalize many (from 0) to) where
  abbrev task : Task
  task = normalize_task normalize many from to

  module _ (j : ℕ) (pieces : List (List Arrival)) (sent : List Change) (e : Emitted task j pieces sent) where
    sent_is : sent ≡ normalized_all normalize none (at_port 0 (joined pieces))
    sent_is =
        ok-same (normalized_all normalize none (at_port 0 (joined pieces))) sent
        (ap (λ xs. let answer : Answer = Ok (normalized_all normalize none xs) in answer) (sym (first_port (joined pieces) e.ready.ports))
        ∙ sym (along-normalize normalize [] pieces)
        ∙ sym (appended-nothing (along (λ b piece. normalize_emits normalize (changes_of b) (changes_of piece)) [] pieces))
        ∙ e.emitted)

    valid : IsValid normalize.output sent
    valid = subst (IsValid normalize.output) (sym sent_is) (valid-normalized normalize fits.tells none (at_port 0 (joined pieces)))

    folds : fold normalize.output sent ≡ fold (upsert normalize.key) (at_port 0 (joined pieces))
    folds = ap (fold normalize.output) sent_is ∙ folds-normalized normalize fits.tells none (at_port 0 (joined pieces))

    -- the rows that are told are rows that came
    rows_sent : (P : Row → Type 0) (Q : Change → Type 0) → Tell P Q normalize.output → AllByRecursion (λ change. adds change.kind ≡ true → P change.row) (at_port 0 (joined pieces)) → AllByRecursion Q sent
    rows_sent P Q tell all =
        subst (AllByRecursion Q) (sym sent_is)
        (rows-normalized P Q normalize tell none (λ row some. absurd (let z = copies-none row_total row in omega arith)) (at_port 0 (joined pieces)) all)

    came_valid : IsValid (upsert normalize.key) (at_port 0 (joined pieces))
    came_valid = valid-upsert normalize.key none (at_port 0 (joined pieces)) (all-each _ _ (λ change h. fits.admitted change.kind h) (at_port 0 (joined pieces)) (e.ready.kinds 0 (omega arith)))

    came_means : (rows : Rows) → ReadsAs (from 0).meaning (at_port 0 (joined pieces)) rows → Means (upsert normalize.key) (at_port 0 (joined pieces)) rows
    came_means rows reads = subst (λ m. ReadsAs m (at_port 0 (joined pieces)) rows) fits.reads reads

    means_sent : (n : ℕ) (rows : Rows) → Means normalize.output (take n sent) rows → ReadsAs to.meaning (take n sent) rows
    means_sent n rows means = subst (λ m. ReadsAs m (take n sent) rows) (sym fits.writes) (reads_in normalize.output (take n sent) rows means)

    -- they are rows that route here
    here : AllByRecursion (λ change. (from 0).route (project normalize.key change.row) ≡ j) sent
    here = rows_sent (λ row. (from 0).route (project normalize.key row) ≡ j) (λ change. (from 0).route (project normalize.key change.row) ≡ j)
        (λ kind row is. ap (from 0).route (key_told normalize.key normalize.output fits.tells (adds kind) row) ∙ is)
        (all-each (λ change. (from 0).route (project normalize.key change.row) ≡ j) _ (λ change is a. is) (at_port 0 (joined pieces))
        (let placed : IsRoutedBy (hash normalize.key) (from 0).route j (at_port 0 (joined pieces)) = subst (λ x. IsRoutedBy x (from 0).route j (at_port 0 (joined pieces))) fits.hashed (e.ready.placed 0 (omega arith)) in placed))

    unique_by : (mode : Mode) → normalize.output ≡ mode → (n : ℕ) (rows : Rows) → ReadsAs (meaning_of mode) (take n sent) rows → IsUnique normalize.key (copies rows)
    unique_by append is n rows reads = absurd (subst (TellsKey normalize.key) is fits.tells)
    unique_by retract is n rows reads =
        let part : IsValid retract (take n sent) = IsValidFrom-take retract none n sent (subst (λ m. IsValid m sent) is valid) in
        let folded : rows ≡ fold retract (take n sent) = fold_means retract (take n sent) rows part reads in
        subst (λ r. IsUnique normalize.key (copies r)) (sym folded)
        (subst (λ l. IsUnique normalize.key (copies (fold retract (take n l)))) (sym sent_is)
        (once_unique normalize.key _ (along-take (IsOnce normalize.key) retract none (normalized_all normalize none (at_port 0 (joined pieces))) (along-normalized normalize is none (at_port 0 (joined pieces)) (nothing_once normalize.key)) n)))
    unique_by (upsert columns) is n rows reads =
        let own : columns ≡ normalize.key = subst (TellsKey normalize.key) is fits.tells in
        subst (λ k. IsUnique k (copies rows)) own (last_unique columns (take n sent) rows reads)

  -- rows of one key leave one subtask
  key_apart : (pieces : ℕ → List (List Arrival)) (sent : ℕ → List Change) → AllEmitted task pieces sent → IsApart normalize.key many sent
  key_apart pieces sent all i k il kl =
      all-each _ _ (λ a ha. all-each _ _ (λ b hb same. sym ha ∙ ap (from 0).route same ∙ hb) (sent k) (here k (pieces k) (sent k) (all k kl))) (sent i) (here i (pieces i) (sent i) (all i il))

  leaves : (mode : Mode) → TellsKey normalize.key mode → (sent : ℕ → List Change) → IsApart normalize.key many sent → AreApartBy (meaning_of mode) many sent
  leaves append can sent apart = tt
  leaves retract can sent apart = tt
  leaves (upsert columns) can sent apart = subst (λ k. IsApart k many sent) (sym can) apart

  split_of : (parts : ℕ → Rows) (whole : Rows) → IsSplitBy (from 0).meaning (from 0).exchange (from 0).route many parts whole
      → (j : ℕ) → j < many → (row : Row) → copies (parts j) row ≡ cond ((from 0).route (project normalize.key row) == j) (copies whole row) 0
  split_of parts whole split =
      let s : IsSplitBy (last_rows normalize.key) (hash normalize.key) (from 0).route many parts whole =
      subst (λ m. IsSplitBy m (hash normalize.key) (from 0).route many parts whole) fits.reads (subst (λ x. IsSplitBy (from 0).meaning x (from 0).route many parts whole) fits.hashed split) in s

  pub normalize_facts : Facts task
  normalize_facts = record {
    folds_to_answer = λ j pieces sent e rows known.
        let is : rows 0 ≡ fold normalize.output sent = fold_means (upsert normalize.key) (at_port 0 (joined pieces)) (rows 0) (came_valid j pieces sent e) (came_means j pieces sent e (rows 0) (known 0 (omega arith)).0) ∙ sym (folds j pieces sent e) in
        (rows 0, refl, subst (λ m. ReadsAs m sent (rows 0)) (sym fits.writes) (reads_in normalize.output sent (rows 0) (subst (Means normalize.output sent) (sym is) (means_fold normalize.output sent (valid j pieces sent e)))));
    prefixes_stand = λ j pieces sent e n.
        let r = prefixes_mean normalize.output sent (valid j pieces sent e) n in
        (r.0, means_sent j pieces sent e n r.0 r.1);
    kinds_stay = λ j pieces sent e.
        subst (AreOf to.kinds) (sym (sent_is j pieces sent e))
        (all-each _ _ (λ change h. fits.kinds change.kind h) (normalized_all normalize none (at_port 0 (joined pieces))) (kinds-normalized normalize fits.tells none (at_port 0 (joined pieces))));
    types_stay = λ j pieces sent e.
        rows_sent j pieces sent e (λ row. (came : Change) × ((from 0).fits came ≡ true) × (adds came.kind ≡ true) × (came.row ≡ row)) (λ change. to.fits change ≡ true)
        (λ kind row h. subst (λ r. to.fits (record { kind = kind; row = row_told normalize.output (adds kind) r }) ≡ true) h.3 (fits.fits h.0 kind h.1 h.2))
        (all-each (λ change. (from 0).fits change ≡ true) _ (λ change h a. (change, h, a, refl)) (at_port 0 (joined pieces)) (e.ready.types 0 (omega arith)));
    parts_add_up = λ parts whole answers split made. (
      whole 0,
      refl,
      λ row.
          total-same many _ (λ j. cond ((from 0).route (project normalize.key row) == j) (copies (whole 0) row) 0) (λ j l.
          let one : Some (parts j 0) ≡ Some (answers j) = made j l in
          ap (λ r. copies r row) (let is : answers j ≡ parts j 0 = cc in is) ∙ split_of (λ j. parts j 0) (whole 0) (split 0 (omega arith)) j l row)
          ∙ total_one many ((from 0).route (project normalize.key row)) (copies (whole 0) row) (fits.routed (project normalize.key row)),
    );
    local_keys = λ j pieces sent e set has n rows reads.
        let unique = unique_by j pieces sent e normalize.output refl n rows (subst (λ m. ReadsAs m (take n sent) rows) fits.writes reads) in
        λ a b same x y. unique a b (fits.local set has a b same) x y;
    fixing_sets = λ pieces sent all come set has. apart-lists normalize.key set many sent (fits.fixing set has) (key_apart pieces sent all);
    after_only = λ pieces sent all come fixed. subst (λ m. AreApartBy m many sent) (sym fits.writes) (leaves normalize.output fits.tells sent (key_apart pieces sent all));
    answer_types = λ whole answer made settled row some.
        let one : Some (whole 0) ≡ Some answer = made in
        fits.holds row ((settled 0 (omega arith)).types row (subst (λ r. 0 < copies r row) (let is : answer ≡ whole 0 = cc in is) some));
    unique_keys = λ whole answer made settled set has.
        let one : Some (whole 0) ≡ Some answer = made in
        subst (λ r. IsUnique set (copies r)) (let is : whole 0 ≡ answer = cc in is) ((settled 0 (omega arith)).keys set (fits.unique set has));
  }

pub normalizes_stand : NormalizesStand
normalizes_stand normalize many from to fits = normalize_facts normalize many from to fits

pub normalizes_take : NormalizesTake
normalizes_take normalize many from to fits = (
  refl,
  from_first (λ p. Takes (normalize_rule normalize) p (from p)) (record {
    reads = subst (λ m. IsReadIn m (upsert normalize.key)) (sym fits.reads) refl;
    kinds = fits.admitted;
    fits = λ change h. refl;
    keyed = fits.keyed;
  }),
)
