-- A group meets the facts of nodes.
use Rattle.std.proofs.Common.{◌≡◌, ℕ, zero, suc, ◌+◌, ◌<◌, ◌≤◌, ◌==◌, Bool, true, false, cond, not, ◌||◌, List, [], ◌∷◌, length, take, Option, Some, None, refl, sym, ap, subst, ◌∙◌, arith}
use Rattle.std.specs.List.{AllByRecursion}
use Rattle.std.proofs.lemmas.Bool.{eqb-true, eqb-false, eq-eqb, ne_eqb, false≢true}
use Rattle.ct_value.specs.Bag.{none, copies}
use Rattle.ct_value.proofs.laws.Bags.{copies-none, same_bag}
use Rattle.ct_value.specs.Order.{row_total, row_exact}
use Rattle.ct_value.specs.Rows.{project}
use Rattle.ct_value.specs.declared.row.Row.{Row}
use Rattle.ct_change.specs.declared.change.Change.{Change}
use Rattle.ct_change.specs.Changelog.{Mode, append, retract, upsert, Rows, has, admits, AreOf, fold, IsValid, Means}
use Rattle.ct_change.proofs.laws.Meanings.{valid_where_means, fold_means}
use Rattle.rel_algebra.specs.Clauses.{Fits}
use Rattle.rel_algebra.specs.Groups.{group_rows}
use Rattle.rel_algebra.specs.Sums.{Each, together, plus}
use Rattle.rel_algebra.proofs.laws.Bags.{each-copies, copies-each, copies-together}
use Rattle.rel_algebra.proofs.laws.ClauseTypes.{group_fits}
use Rattle.rel_algebra.proofs.laws.Groups.{group_rows-none, group_rows-together}
use Rattle.rel_algebra.specs.Batch.{group_answer}
use Rattle.op_rules.specs.History.{Arrival, at_port, joined}
use Rattle.op_rules.specs.Edges.{meaning_of, ReadsAs, hash, Edge, IsRoutedBy, IsUnique, IsApart, AreApartBy, LiesIn}
use Rattle.op_rules.specs.Tasks.{Task, total, IsSettled, IsSplitBy, Emitted, AllEmitted, Facts, PartsAddUp, LocalKeysHold, AnswersFit, UniqueKeysHold}
use Rattle.op_rules.proofs.laws.Histories.{prefix_at, all-each}
use Rattle.op_rules.proofs.laws.Totals.{total-same, total_one}
use Rattle.column_sets.specs.Places.{first_columns}
use Rattle.emission_rules.specs.GroupFits.{batch, part, is_home, group_task, GroupFits}
use Rattle.emission_rules.specs.Grouping.{Grouping, results, group_row, TellsGroups, IsSound}
use Rattle.emission_rules.proofs.laws.GroupAnswers.{shown_by, answer_shown, counted_answer, row_of_group}
use Rattle.emission_rules.proofs.laws.Columns.{project-first, project-taken}
use Rattle.emission_rules.specs.Arriving.{FitsIn}
use Rattle.emission_rules.proofs.laws.Pieces.{IsTold, IsTaken, types_wide, rows_wide, stands_whole, nothing_whole}
use Rattle.emission_rules.proofs.laws.Turns.{Shown, nothing_shown, Turns, Names, AreNamed, shown_in, is_shown_row, one_of-le, turns_read, prefix_shown, prefix_stands}

means_in : (mode : Mode) (changes : List Change) (rows : Rows) → ReadsAs (meaning_of mode) changes rows → Means mode changes rows
means_in append changes rows m = m
means_in retract changes rows m = m
means_in (upsert key) changes rows m = m

-- rows that agree on a key of which the columns are part agree on the columns
apart-lists : (columns set : List ℕ) (many : ℕ) (lists : ℕ → List Change) → LiesIn columns set → IsApart columns many lists → IsApart set many lists
apart-lists columns set many lists lies apart i j il jl =
    all-each _ _ (λ a h. all-each _ _ (λ b k e. k (lies a.row b.row e)) (lists j) h) (lists i) (apart i j il jl)

module _ (many : ℕ) (g : Grouping) (from to : Edge) (fits : GroupFits many g from to) where
  abbrev task : Task
  task = group_task many g from to

  abbrev sound : IsSound g
  sound = fits.sound

  -- the groups of a subtask
  abbrev Here : ℕ → Row → Type 0
  Here j key = from.route key ≡ j

  pub names : (mode : Mode) → TellsGroups g mode → Names g.keys mode
  names append tells = tt
  names retract tells = tt
  names (upsert columns) tells = tells

  pub key_of : (row : Row) → g.keys ≤ length row → project (first_columns g.keys) row ≡ take g.keys row
  key_of row wide = project-first g.keys row wide

  -- ---- what was taken

  module _ (j : ℕ) (pieces : List (List Arrival)) (sent : List Change) (e : Emitted task j pieces sent) where
    abbrev took : List Change
    took = at_port 0 (joined pieces)

    fitting : AllByRecursion (FitsIn g.input g.columns) took
    fitting = all-each (λ change. from.fits change ≡ true) (FitsIn g.input g.columns) (λ change t. fits.fits change t) took (e.ready.types 0 (omega arith))

    placed : AllByRecursion (λ change. from.route (project (first_columns g.keys) change.row) ≡ j) took
    placed = subst (λ x. IsRoutedBy x from.route j took) fits.hashed (e.ready.placed 0 (omega arith))

    taken : AllByRecursion (IsTaken g sound (Here j) from.kinds) took
    taken = go took fitting placed (e.ready.kinds 0 (omega arith))
      where
        go : (xs : List Change) → AllByRecursion (FitsIn g.input g.columns) xs → AllByRecursion (λ change. from.route (project (first_columns g.keys) change.row) ≡ j) xs → AreOf from.kinds xs → AllByRecursion (IsTaken g sound (Here j) from.kinds) xs
        go [] f p k = tt
        go (change ∷ xs) f p k = (record { fits = f.0; here = ap from.route (sym (key_of change.row (types_wide g sound (Here j) from.kinds change.row f.0.types))) ∙ p.0; kind = k.0 }, go xs f.1 p.1 k.1)

    valid : IsValid g.input took
    valid = valid_where_means g.input took (all-each (λ change. has from.kinds change.kind ≡ true) (λ change. admits g.input change.kind ≡ true) (λ change k. fits.kinds change.kind k) took (e.ready.kinds 0 (omega arith)))
        (λ n.
        let m = prefix_at 0 n (joined pieces) in
        let stands = e.ready.valid 0 (omega arith) m.0 in
        (stands.0, means_in g.input (take n took) stands.0 (subst (λ meaning. ReadsAs meaning (take n took) stands.0) fits.reads (subst (λ xs. ReadsAs from.meaning xs stands.0) m.1 stands.1))))

    -- nothing comes to a subtask that has no groups
    nothing_taken : is_home g j ≡ false → took ≡ []
    nothing_taken away = go took taken
      where
        keyless : g.keys ≡ 0
        keyless = eqb-true g.keys 0 (elim (g.keys == 0) as (λ b. (not b || (j == 0)) ≡ false → b ≡ true) [ true ↦ λ h. refl | false ↦ λ h. absurd (cc) ] away)

        elsewhere : (j == 0) ≡ true → ⊥
        elsewhere at = false≢true (sym away ∙ ap (λ b. not (g.keys == 0) || b) at ∙ or_true (not (g.keys == 0)))
          where
            or_true : (b : Bool) → (b || true) ≡ true
            or_true true = refl
            or_true false = refl

        go : (xs : List Change) → AllByRecursion (IsTaken g sound (Here j) from.kinds) xs → xs ≡ []
        go [] h = refl
        go (change ∷ xs) h = absurd (
            let here : from.route [] ≡ j = ap (λ n. from.route (take n change.row)) (sym keyless) ∙ h.0.here in
            let first = fits.home keyless in
            elsewhere (eq-eqb j 0 (sym here ∙ first)))

    rows_after : Rows
    rows_after = fold g.input took

    -- what is known of all that was sent
    record IsKnown : Type 0 where
      pub last : Shown
      pub turns : Turns g.keys g.output nothing_shown sent last
      pub told : AllByRecursion (IsTold g sound (Here j) from.kinds) sent
      pub answer : (rows : ℕ → Rows) → rows 0 ≡ fold g.input took → (made : Rows) × (part g j rows ≡ Some made) × ((row : Row) → copies made row ≡ shown_in g.keys last row)

    known_home : is_home g j ≡ true → IsKnown
    known_home home =
        let stands = stands_whole g sound (Here j) from.kinds j pieces sent home (λ k. fits.home k ∙ sym (at_first k)) taken valid e.emitted in
        record {
          last = shown_by g (fold g.input took);
          turns = stands.turns;
          told = stands.told;
          answer = λ rows same.
              let answer = counted_answer g (fold g.input took) stands.counted in
              (answer.0, ap (λ b. cond b (batch g rows) (Some none)) home ∙ (ap (group_answer g.columns g.keys g.aggs) same ∙ answer.1), answer_shown g (fold g.input took) answer.0 (rows_wide g sound (Here j) from.kinds (fold g.input took) stands.fits) answer.1);
        }
      where
        at_first : g.keys ≡ 0 → j ≡ 0
        at_first k = eqb-true j 0 (sym (ap (λ n. not (n == 0) || (j == 0)) k) ∙ home)

    known_away : is_home g j ≡ false → IsKnown
    known_away away =
        let empty : sent ≡ [] = nothing_whole g sound (Here j) from.kinds j pieces sent away (nothing_taken away) e.emitted in
        record {
          last = nothing_shown;
          turns = subst (λ xs. Turns g.keys g.output nothing_shown xs nothing_shown) (sym empty) refl;
          told = subst (AllByRecursion (IsTold g sound (Here j) from.kinds)) (sym empty) tt;
          answer = λ rows same. (none, ap (λ b. cond b (batch g rows) (Some none)) away, λ row. copies-none row_total row);
        }

    known : IsKnown
    known = elim (is_home g j) as (λ b. is_home g j ≡ b → IsKnown) [ true ↦ known_home | false ↦ known_away ] refl

  -- ---- keys

  pub long : (row : Row) → length (take g.keys row) ≡ g.keys → g.keys ≤ length row
  long row e = go g.keys row e
    where
      go : (n : ℕ) (xs : Row) → length (take n xs) ≡ n → n ≤ length xs
      go zero xs q = omega arith
      go (suc n) [] q = absurd (omega arith)
      go (suc n) (x ∷ xs) q = let rest = go n xs (omega arith) in omega arith

  -- rows that are shown, one for each group, have each key in which the group's columns lie
  pub unique_shown : (shown : Shown) → AreNamed g.keys shown → (rows : Rows) → ((row : Row) → copies rows row ≡ shown_in g.keys shown row) → (key : List ℕ) → LiesIn (first_columns g.keys) key → IsUnique key (copies rows)
  unique_shown shown named rows are key lies a b same x y =
      let one = is_shown_row g.keys shown a (let e = are a in omega arith) in
      let other = is_shown_row g.keys shown b (let e = are b in omega arith) in
      let group : take g.keys a ≡ take g.keys b = sym (key_of a (named (take g.keys a) a one).1) ∙ (lies a b same ∙ key_of b (named (take g.keys b) b other).1) in
      let both : Some a ≡ Some b = sym one ∙ (ap shown group ∙ other) in
      (cc, let e = are a in let f = one_of-le g.keys (shown (take g.keys a)) a in omega arith)

  pub named_by : (rows : Rows) → AreNamed g.keys (shown_by g rows)
  named_by rows key row e =
      elim (length key == g.keys) as (λ b. (length key == g.keys) ≡ b → cond b (group_row g rows key) None ≡ Some row → (take g.keys row ≡ key) × (g.keys ≤ length row)) [
        | true ↦ λ n q. row_of_group g key _ row (eqb-true (length key) g.keys n) q
        | false ↦ λ n q. absurd (cc)
      ] refl e

  local_keys : LocalKeysHold task
  local_keys j pieces sent e key has_key n rows reads =
      let k = known j pieces sent e in
      let at = prefix_shown g.keys g.output (names g.output sound.tells) k.last sent k.turns n rows (subst (λ m. ReadsAs m (take n sent) rows) fits.writes reads) in
      unique_shown at.0 at.1 rows at.2 key (fits.local key has_key)

  -- rows of one group leave one subtask
  groups_apart : (pieces : ℕ → List (List Arrival)) (sent : ℕ → List Change) → AllEmitted task pieces sent
      → (columns : List ℕ) → ((a b : Row) → g.keys ≤ length a → g.keys ≤ length b → project columns a ≡ project columns b → take g.keys a ≡ take g.keys b) → IsApart columns many sent
  groups_apart pieces sent all columns agree i j il jl =
      all-each _ _ (λ a ta. all-each _ _ (λ b tb same. sym ta.here ∙ (ap from.route (agree a.row b.row (long a.row ta.named) (long b.row tb.named) same) ∙ tb.here)) (sent j) (known j (pieces j) (sent j) (all j jl)).told) (sent i) (known i (pieces i) (sent i) (all i il)).told

  after_only : (mode : Mode) → TellsGroups g mode → (pieces : ℕ → List (List Arrival)) (sent : ℕ → List Change) → AllEmitted task pieces sent → AreApartBy (meaning_of mode) many sent
  after_only append tells pieces sent all = tt
  after_only retract tells pieces sent all = tt
  after_only (upsert key) tells pieces sent all = groups_apart pieces sent all key (λ a b wide_a wide_b same. (tells a b wide_a wide_b).0 same)

  -- ---- the answer

  settled_fits : (rows : Rows) → IsSettled from rows → Each (Fits g.columns) rows
  settled_fits rows settled = copies-each row_total row_exact (Fits g.columns) rows (λ row there. fits.holds row (settled.types row there))

  answers_fit : AnswersFit task
  answers_fit whole answer e settled row there =
      fits.out_holds row (each-copies row_total row_exact (Fits sound.made) answer
      (group_fits g.keys g.columns sound.made g.aggs (whole 0) answer sound.typed (settled_fits (whole 0) (settled 0 (omega arith))) e) row there)

  unique_keys : UniqueKeysHold task
  unique_keys whole answer e settled key has_key =
      unique_shown (shown_by g (whole 0)) (named_by (whole 0)) answer
      (answer_shown g (whole 0) answer (rows_wide g sound (Here 0) from.kinds (whole 0) (settled_fits (whole 0) (settled 0 (omega arith)))) e) key (fits.unique key has_key)

  -- ---- parts

  -- the subtask of a row
  abbrev place : Row → ℕ
  place row = from.route (project (first_columns g.keys) row)

  pub same_place : (a b : Row) → take g.keys a ≡ take g.keys b → place a ≡ place b
  same_place a b e = ap from.route (project-taken g.keys g.keys a (omega arith) ∙ (ap (project (first_columns g.keys)) e ∙ sym (project-taken g.keys g.keys b (omega arith))))

  module _ (whole : Rows) (parts answers : ℕ → Rows) (split : (j : ℕ) → j < many → (row : Row) → copies (parts j) row ≡ cond (place row == j) (copies whole row) 0) where
    -- the first parts together
    abbrev upto : ℕ → Rows
    upto zero = none
    upto (suc n) = together (upto n) (parts n)

    copies_upto : (n : ℕ) (row : Row) → copies (upto n) row ≡ total n (λ j. copies (parts j) row)
    copies_upto zero row = copies-none row_total row
    copies_upto (suc n) row = copies-together row_total row_exact (upto n) (parts n) row ∙ ap (λ m. m + copies (parts n) row) (copies_upto n row)

    all_parts : upto many ≡ whole
    all_parts = same_bag row_total row_exact _ _ (λ row.
        copies_upto many row ∙ (total-same many (λ j. copies (parts j) row) (λ j. cond (place row == j) (copies whole row) 0) (λ j jl. split j jl row)
        ∙ total_one many (place row) (copies whole row) (fits.routed (project (first_columns g.keys) row))))

    there : (b : Bool) (n m : ℕ) → n ≡ cond b m 0 → 0 < n → b ≡ true
    there true n m e h = refl
    there false n m e h = absurd (omega arith)

    -- a row of one of the first parts goes to one of the first subtasks
    place_upto : (n : ℕ) → n ≤ many → (row : Row) → 0 < copies (upto n) row → place row < n
    place_upto zero l row some = absurd (let e = copies-none row_total row in omega arith)
    place_upto (suc n) l row some =
        elim (copies (parts n) row == 0) as (λ b. (copies (parts n) row == 0) ≡ b → place row < suc n) [
          | true ↦ λ z.
              let none_here = eqb-true (copies (parts n) row) 0 z in
              let sum = copies-together row_total row_exact (upto n) (parts n) row in
              let before = place_upto n (omega arith) row (omega arith) in
              omega arith
          | false ↦ λ z.
              let some_here = eqb-false (copies (parts n) row) 0 z in
              let at = eqb-true (place row) n (there (place row == n) (copies (parts n) row) (copies whole row) (split n (omega arith) row) (omega arith)) in
              omega arith
        ] refl

    module _ (made : (j : ℕ) → j < many → part g j (λ port. parts j) ≡ Some (answers j)) where
      -- with key columns
      made_upto : (k n : ℕ) → g.keys ≡ suc k → n ≤ many → (answer : Rows) × (group_rows (suc k) (results g) (upto n) ≡ Some answer) × ((row : Row) → total n (λ j. copies (answers j) row) ≡ copies answer row)
      made_upto k zero e l = (none, group_rows-none k (results g), λ row. sym (copies-none row_total row))
      made_upto k (suc n) e l =
          let rest = made_upto k n e (omega arith) in
          let home : is_home g n ≡ true = ap (λ m. not (m == 0) || (n == 0)) e ∙ ap (λ b. not b || (n == 0)) (ne_eqb (suc k) 0 (λ p. omega arith)) in
          let here : group_rows (suc k) (results g) (parts n) ≡ Some (answers n) =
          ap (λ m. group_rows m (results g) (parts n)) (sym e) ∙ (sym (ap (λ b. cond b (batch g (λ port. parts n)) (Some none)) home) ∙ made n (omega arith)) in (
            together rest.0 (answers n),
            group_rows-together k (results g) (upto n) (parts n) (λ row other some more same.
                let before = place_upto n (omega arith) row some in
                let at = eqb-true (place other) n (there (place other == n) (copies (parts n) other) (copies whole other) (split n (omega arith) other) more) in
                let one : place row ≡ place other = same_place row other (ap (λ m. take m row) e ∙ (same ∙ ap (λ m. take m other) (sym e))) in
                let wrong : ⊥ = omega arith in wrong)
                ∙ ((λ i. plus (rest.1 i) (here i))),
            λ row. let sum = copies-together row_total row_exact rest.0 (answers n) row in let r = rest.2 row in omega arith,
          )

      some_is : (a b : Rows) → (let o : Option Rows = Some a in o ≡ Some b) → a ≡ b
      some_is a b q = cc

      -- without: all rows are at subtask 0
      made_all : g.keys ≡ 0 → (answer : Rows) × (batch g (λ port. whole) ≡ Some answer) × ((row : Row) → total many (λ j. copies (answers j) row) ≡ copies answer row)
      made_all e =
          let first : (row : Row) → place row ≡ 0 = λ row. ap (λ n. from.route (project (first_columns n) row)) e ∙ fits.home e in
          let some : 0 < many = (let r = fits.routed [] in let h = fits.home e in omega arith) in
          let same : parts 0 ≡ whole = same_bag row_total row_exact _ _ (λ row. split 0 some row ∙ ap (λ n. cond (n == 0) (copies whole row) 0) (first row)) in
          let home : (j : ℕ) → is_home g j ≡ (j == 0) = λ j. ap (λ n. not (n == 0) || (j == 0)) e in
          let whole_is : batch g (λ port. whole) ≡ Some (answers 0) =
          ap (group_answer g.columns g.keys g.aggs) (sym same) ∙ (sym (ap (λ b. cond b (batch g (λ port. parts 0)) (Some none)) (home 0)) ∙ made 0 some) in (
            answers 0,
            whole_is,
            λ row. total-same many (λ j. copies (answers j) row) (λ j. cond (0 == j) (copies (answers 0) row) 0) (λ j jl.
                elim (j == 0) as (λ b. (j == 0) ≡ b → copies (answers j) row ≡ cond (0 == j) (copies (answers 0) row) 0) [
                  | true ↦ λ z.
                      let at : j ≡ 0 = eqb-true j 0 z in
                      ap (λ i. copies (answers i) row) at ∙ sym (ap (λ b. cond b (copies (answers 0) row) 0) (eq-eqb 0 j (sym at)))
                  | false ↦ λ z.
                      let empty : none ≡ answers j = some_is none (answers j) (sym (ap (λ b. cond b (batch g (λ port. parts j)) (Some none)) (home j ∙ z)) ∙ made j jl) in
                      ap (λ (r : Rows). copies r row) (sym empty) ∙ (copies-none row_total row ∙ sym (ap (λ b. cond b (copies (answers 0) row) 0) (ne_eqb 0 j (λ p. eqb-false j 0 z (sym p)))))
                ] refl) ∙ total_one many 0 (copies (answers 0) row) some,
          )

      add_up : (answer : Rows) × (batch g (λ port. whole) ≡ Some answer) × ((row : Row) → total many (λ j. copies (answers j) row) ≡ copies answer row)
      add_up = go g.keys refl
        where
          go : (n : ℕ) → g.keys ≡ n → (answer : Rows) × (batch g (λ port. whole) ≡ Some answer) × ((row : Row) → total many (λ j. copies (answers j) row) ≡ copies answer row)
          go zero e = made_all e
          go (suc k) e =
              let all = made_upto k many e (omega arith) in
              (all.0, ap (λ m. group_rows m (results g) whole) e ∙ (ap (group_rows (suc k) (results g)) (sym all_parts) ∙ all.1), all.2)

  split_of : (mode : Mode) (parts : ℕ → Rows) (whole : Rows) → IsSplitBy (meaning_of mode) (hash (first_columns g.keys)) from.route many parts whole → (j : ℕ) → j < many → (row : Row) → copies (parts j) row ≡ cond (place row == j) (copies whole row) 0
  split_of append parts whole split = split
  split_of retract parts whole split = split
  split_of (upsert key) parts whole split = split

  parts_add_up : PartsAddUp task
  parts_add_up parts whole answers split made =
      let s = split_of g.input (λ j. parts j 0) (whole 0) (subst (λ x. IsSplitBy (meaning_of g.input) x from.route many (λ j. parts j 0) (whole 0)) fits.hashed (subst (λ m. IsSplitBy m from.exchange from.route many (λ j. parts j 0) (whole 0)) fits.reads (split 0 (omega arith)))) in
      add_up (whole 0) (λ j. parts j 0) answers s made

  pub group_stands : Facts task
  group_stands = record {
    folds_to_answer = λ j pieces sent e rows reads.
        let k = known j pieces sent e in
        let same : rows 0 ≡ fold g.input (at_port 0 (joined pieces)) =
        fold_means g.input (at_port 0 (joined pieces)) (rows 0) (valid j pieces sent e) (means_in g.input (at_port 0 (joined pieces)) (rows 0) (subst (λ m. ReadsAs m (at_port 0 (joined pieces)) (rows 0)) fits.reads (reads 0 (omega arith)).0)) in
        let answer = k.answer rows same in
        (answer.0, answer.1, subst (λ m. ReadsAs m sent answer.0) (sym fits.writes) (turns_read g.keys g.output (names g.output sound.tells) k.last sent k.turns answer.0 answer.2));
    prefixes_stand = λ j pieces sent e n.
        let k = known j pieces sent e in
        let rows = prefix_stands g.keys g.output k.last sent k.turns n in
        (rows.0, subst (λ m. ReadsAs m (take n sent) rows.0) (sym fits.writes) rows.1);
    kinds_stay = λ j pieces sent e. all-each (IsTold g sound (Here j) from.kinds) (λ change. has to.kinds change.kind ≡ true) (λ change t. fits.out_kinds change.kind t.kind) sent (known j pieces sent e).told;
    types_stay = λ j pieces sent e. all-each (IsTold g sound (Here j) from.kinds) (λ change. to.fits change ≡ true) (λ change t. subst (λ row. to.fits (record { kind = change.kind; row = row }) ≡ true) (sym t.tells) (fits.out_fits change.kind t.whole t.fits)) sent (known j pieces sent e).told;
    parts_add_up = parts_add_up;
    local_keys = local_keys;
    fixing_sets = λ pieces sent all come set has_set. groups_apart pieces sent all set (λ a b wide_a wide_b same. sym (key_of a wide_a) ∙ (fits.fixing set has_set a b same ∙ key_of b wide_b));
    after_only = λ pieces sent all come fixed. subst (λ m. AreApartBy m many sent) (sym fits.writes) (after_only g.output sound.tells pieces sent all);
    answer_types = answers_fit;
    unique_keys = unique_keys;
  }
