-- The composition theorem.
use Rattle.std.specs.Prelude.{◌≡◌, ℕ, ◌<◌, ◌==◌, cond, List, ◌++◌, length, Ok}
use Rattle.std.proofs.Common.{zero, suc, true, false, [], ◌∷◌, refl, sym, ap, subst, ◌∙◌, arith, take, inl, inr, Some}
use Rattle.std.specs.List.{AllByRecursion, filter}
use Rattle.std.proofs.lemmas.List.{append_assoc, append-nil, take_all, length-append}
use Rattle.std.proofs.lemmas.Bool.{cases_lt}
use Rattle.ct_value.specs.Bag.{copies, none}
use Rattle.ct_value.proofs.laws.Bags.{same_bag}
use Rattle.ct_value.specs.Order.{row_total, row_exact}
use Rattle.ct_value.specs.declared.row.Row.{Row}
use Rattle.ct_change.specs.declared.change.Change.{Change}
use Rattle.ct_change.specs.Changelog.{Mode, append, retract, upsert, Rows, admits, has, fold, IsValid, Means}
use Rattle.ct_change.specs.KeyRows.{AreKeyed, IsKeyed}
use Rattle.ct_change.proofs.laws.Meanings.{fold_means, valid_where_means, IsValidFrom-take}
use Rattle.op_rules.specs.History.{Arrival, arrival, at_port, from_port, joined}
use Rattle.op_rules.specs.Edges.{Meaning, meaning_of, bag, last_rows, partials, IsPartial, ReadsAs, hash, goes_by, goes, belongs_by, AreApartBy, IsKeyedBy}
use Rattle.op_rules.specs.Tasks.{total, emitted_by, IsFine, IsReady}
use Rattle.stream_model.specs.Tables.{Table}
use Rattle.stream_model.specs.Network.{Network, task, IsNode, IsWired, IsAnswered, scanned_by, MeetsFacts, IsAnswer}
use Rattle.stream_model.specs.Machine.{State, consumed, joins, opened, IsQuiet}
use Rattle.stream_model.specs.Runs.{after, changes_in}
use Rattle.stream_model.specs.Theorem.{rows_left, table_rows, Holds, Composes, PrintedFolds}
use Rattle.stream_model.proofs.Sums.{all-take, all-append_left, all-weaker}
use Rattle.stream_model.proofs.Exchange.{sel_keep, all-at, IsApart-front, came_bag, copies_came, means_came}
use Rattle.stream_model.proofs.Histories.{from_port-append}
use Rattle.stream_model.proofs.Nodes.{Linked, over, ready, all_fine, answered}
use Rattle.stream_model.proofs.Steps.{HangsTogether, hangs_opened, hangs_after, hangs_joined, consumed_joined, no_scan}
use Rattle.stream_model.proofs.Counts.{consumed_few}

-- how far into the arrivals for the first n changes of a port
reach_port : ℕ → ℕ → List Arrival → ℕ
reach_port p zero xs = 0
reach_port p (suc n) [] = 0
reach_port p (suc n) (x ∷ xs) = cond (x.port == p) (suc (reach_port p n xs)) (suc (reach_port p (suc n) xs))

take-at_port : (p n : ℕ) (xs : List Arrival) → take n (at_port p xs) ≡ at_port p (take (reach_port p n xs) xs)
unfolding reach_port
take-at_port p zero xs = refl
take-at_port p (suc n) [] = refl
take-at_port p (suc n) (x ∷ xs) =
    elim (x.port == p) as (λ b. x.port == p ≡ b → take (suc n) (cond b (x.change ∷ at_port p xs) (at_port p xs)) ≡ at_port p (take (cond b (suc (reach_port p n xs)) (suc (reach_port p (suc n) xs))) (x ∷ xs))) [
      | true ↦ λ e. ap (λ r. x.change ∷ r) (take-at_port p n xs) ∙ ap (λ b. cond b (x.change ∷ at_port p (take (reach_port p n xs) xs)) (at_port p (take (reach_port p n xs) xs))) (sym e)
      | false ↦ λ e. take-at_port p (suc n) xs ∙ ap (λ b. cond b (x.change ∷ at_port p (take (reach_port p (suc n) xs) xs)) (at_port p (take (reach_port p (suc n) xs) xs))) (sym e)
    ] refl

-- where all go to one place
abbrev one_place : Row → ℕ
one_place key = 0

filter-all : (i : ℕ) (xs : List Change) → filter (λ x. goes_by (hash []) one_place i 0 x.row) xs ≡ xs
filter-all i [] = refl
filter-all i (x ∷ xs) = ap (λ r. x ∷ r) (filter-all i xs)

keyed_whole : (m : Meaning) → (IsPartial m → ⊥) → IsKeyedBy m (hash [])
keyed_whole bag whole = tt
keyed_whole (last_rows key) whole = λ a b e. refl
keyed_whole (partials p) whole = absurd (whole tt)

apart_fronts : (m : Meaning) (many : ℕ) (s : ℕ → List Change) (n : ℕ → ℕ) → AreApartBy m many s → AreApartBy m many (λ i. take (n i) (s i))
apart_fronts bag many s n h = tt
apart_fronts (last_rows key) many s n h = IsApart-front key many s n h
apart_fronts (partials p) many s n h = tt

module _ (g : Network) (wired : IsWired g) where
  module _ (s : State) (h : HangsTogether g wired s) where
    whole : Linked g s.sent (consumed s)
    whole = record {
      within = h.within;
      ports = h.ports;
      fed = λ v j p i pl il jl. (s.flight (g.source v p) i j, h.fed v j p i pl);
    }

    folded : Linked g s.sent (λ v j. joined (s.pieces v j))
    folded = record {
      within = λ v j. front (λ a. a.from < g.subtasks) v j (h.within v j);
      ports = λ v j. front (λ a. a.port < g.ports v) v j (h.ports v j);
      fed = λ v j p i pl il jl. (
        from_port p i (s.bundle v j) ++ s.flight (g.source v p) i j,
        sym (append_assoc (from_port p i (joined (s.pieces v j))) (from_port p i (s.bundle v j)) (s.flight (g.source v p) i j))
            ∙ (ap (λ l. l ++ s.flight (g.source v p) i j) (sym (from_port-append p i (joined (s.pieces v j)) (s.bundle v j))) ∙ h.fed v j p i pl),
      );
    }
      where
        front : (P : Arrival → Type 0) (v j : ℕ) → AllByRecursion P (joined (s.pieces v j) ++ s.bundle v j) → AllByRecursion P (joined (s.pieces v j))
        front P v j e = all-append_left P (joined (s.pieces v j)) (s.bundle v j) e

    runs : (v j : ℕ) → 0 < g.ports v → j < g.subtasks → emitted_by (task g v) j (s.pieces v j) ≡ Ok (s.sent v j)
    runs v j some l = h.runs v j (no_scan g wired v some)

    module _ (facts : MeetsFacts g) where
      scan_is : (v table : ℕ) (t : Table) → g.scans v ≡ Some table → g.tables table ≡ Some t → (P : (ℕ → List Change) → Type 0) → P (scanned_by t (s.taken table)) → P (s.sent v)
      scan_is v table t is has P p = subst P (λ k. λ i. sym (h.scanned v table t is has i) k) p

      scan_fine : (v table : ℕ) → g.scans v ≡ Some table → IsFine g.subtasks (g.edge v) (s.sent v)
      scan_fine v table is =
          let t = wired.scan_table v table is in
          scan_is v table t.0 is t.1 (IsFine g.subtasks (g.edge v)) ((facts.scans v table t.0 is t.1).fine (s.taken table) (h.taken table t.0 t.1) (h.typed table t.0 t.1))

      scan_answers : (v table : ℕ) → g.scans v ≡ Some table → IsAnswered g.subtasks (g.edge v) (s.sent v) (table_rows g s table)
      scan_answers v table is =
          let t = wired.scan_table v table is in
          let a : IsAnswered g.subtasks (g.edge v) (s.sent v) (fold t.0.mode (s.taken table)) = scan_is v table t.0 is t.1 (λ sent. IsAnswered g.subtasks (g.edge v) sent (fold t.0.mode (s.taken table))) ((facts.scans v table t.0 is t.1).answers (s.taken table) (h.taken table t.0 t.1) (h.typed table t.0 t.1)) in
          subst (λ o. IsAnswered g.subtasks (g.edge v) (s.sent v) (rows_left o (s.taken table))) (sym t.1) a

      fine : (v : ℕ) → IsNode g v → IsFine g.subtasks (g.edge v) (s.sent v)
      fine = all_fine g wired s.sent s.pieces folded runs facts.facts scan_fine

      rely : (v j : ℕ) → j < g.subtasks → IsReady (task g v) j (consumed s v j)
      rely v j l = ready g wired s.sent (consumed s) whole v j l (λ p pl. fine (g.source v p) (wired.sourced v p pl))

      sink_fine : IsFine g.subtasks (g.edge g.count) (s.sent g.count)
      sink_fine = fine g.count (inr wired.sink)

      -- ---- what was printed

      sink_mode : Meaning
      sink_mode = (g.edge g.count).meaning

      -- the first of what was printed, from the first of what each subtask of the sink sent
      module _ (m : Meaning) (c : List Arrival) (within : AllByRecursion (λ a. a.from < g.subtasks) c) (lengths : ℕ → ℕ) (is : (i : ℕ) → i < g.subtasks → from_port 0 i c ≡ take (lengths i) (s.sent g.count i)) where
        abbrev fronts : ℕ → List Change
        fronts i = take (lengths i) (s.sent g.count i)

        came : (i : ℕ) → i < g.subtasks → from_port 0 i c ≡ filter (λ x. goes_by (hash []) one_place i 0 x.row) (fronts i)
        came i l = is i l ∙ sym (filter-all i (fronts i))

        printed_means : (IsPartial m → ⊥) → AreApartBy m g.subtasks (s.sent g.count) → (rows : ℕ → Rows) → ((i : ℕ) → i < g.subtasks → ReadsAs m (fronts i) (rows i)) → ReadsAs m (at_port 0 c) (came_bag g.subtasks (hash []) one_place 0 0 wired.parallel c within fronts came m rows)
        printed_means not_partial apart rows reads =
            means_came g.subtasks (hash []) one_place 0 0 wired.parallel c within fronts came m (keyed_whole m not_partial) (apart_fronts m g.subtasks (s.sent g.count) lengths apart) rows reads

      front_is : (n i : ℕ) → from_port 0 i (take n h.prints) ≡ take (length (from_port 0 i (take n h.prints))) (s.sent g.count i)
      front_is n i = sel_keep 0 i h.prints n ∙ ap (take (length (from_port 0 i (take n h.prints)))) (h.printed_from i)

      front_rows : (n i : ℕ) → i < g.subtasks → (rows : Rows) × ReadsAs (g.edge g.count).meaning (take (length (from_port 0 i (take n h.prints))) (s.sent g.count i)) rows
      front_rows n i l = sink_fine.valid i l (length (from_port 0 i (take n h.prints)))

      chosen : (n i : ℕ) → Rows
      chosen n i = elim (cases_lt i g.subtasks) [ inl l ↦ (front_rows n i l).0 | inr l ↦ none ]

      chosen_is : (n i : ℕ) → i < g.subtasks → ReadsAs (g.edge g.count).meaning (take (length (from_port 0 i (take n h.prints))) (s.sent g.count i)) (chosen n i)
      unfolding chosen
      chosen_is n i l = elim (cases_lt i g.subtasks) as (λ q. ReadsAs (g.edge g.count).meaning (take (length (from_port 0 i (take n h.prints))) (s.sent g.count i)) (elim q as (λ _. Rows) [ inl l ↦ (front_rows n i l).0 | inr l ↦ none ])) [
        | inl m ↦ (front_rows n i m).1
        | inr m ↦ absurd (omega arith)
      ]

      printed_stands : (n : ℕ) → (rows : Rows) × ReadsAs (g.edge g.count).meaning (take n (changes_in s.printed)) rows
      printed_stands n =
          let k : ℕ = reach_port 0 n h.prints in
          let c : List Arrival = take k h.prints in
          let e : take n (changes_in s.printed) ≡ at_port 0 c = ap (take n) h.printed ∙ take-at_port 0 n h.prints in
          let r : (rows : Rows) × ReadsAs (g.edge g.count).meaning (at_port 0 c) rows =
          (_, printed_means (g.edge g.count).meaning c (all-take (λ a. a.from < g.subtasks) k h.prints h.printed_within) (λ i. length (from_port 0 i c)) (λ i l. front_is k i) wired.sink_whole sink_fine.apart (chosen k) (chosen_is k)) in
          (r.0, subst (λ l. ReadsAs (g.edge g.count).meaning l r.0) (sym e) r.1)

      printed_kinds : AllByRecursion (λ change. has (g.edge g.count).kinds change.kind ≡ true) (changes_in s.printed)
      printed_kinds = subst (AllByRecursion (λ change. has (g.edge g.count).kinds change.kind ≡ true)) (sym h.printed)
          (all-at (λ change. has (g.edge g.count).kinds change.kind ≡ true) 0 g.subtasks h.prints h.printed_within
          (λ i l. subst (AllByRecursion (λ change. has (g.edge g.count).kinds change.kind ≡ true)) (sym (h.printed_from i)) (sink_fine.kinds i l)))

      printed_fits : AllByRecursion (λ change. (g.edge g.count).fits change ≡ true) (changes_in s.printed)
      printed_fits = subst (AllByRecursion (λ change. (g.edge g.count).fits change ≡ true)) (sym h.printed)
          (all-at (λ change. (g.edge g.count).fits change ≡ true) 0 g.subtasks h.prints h.printed_within
          (λ i l. subst (AllByRecursion (λ change. (g.edge g.count).fits change ≡ true)) (sym (h.printed_from i)) (sink_fine.types i l)))

      -- ---- quiet

      module _ (still : IsQuiet g s) where
        all_came : (v j p i : ℕ) → p < g.ports v → i < g.subtasks → j < g.subtasks → from_port p i (joined (s.pieces v j)) ≡ filter (λ change. goes (g.edge (g.source v p)) i j change.row) (s.sent (g.source v p) i)
        all_came v j p i pl il jl =
            sym (append-nil (from_port p i (joined (s.pieces v j))))
            ∙ (ap (λ f. from_port p i (joined (s.pieces v j)) ++ f) (sym (still.flight (g.source v p) i j (record { node = v; port = p }) (wired.feeds v p pl) il jl))
            ∙ (ap (λ l. from_port p i l ++ s.flight (g.source v p) i j) (sym (append-nil (joined (s.pieces v j))) ∙ ap (λ b. joined (s.pieces v j) ++ b) (sym (still.bundle v j jl)))
            ∙ h.fed v j p i pl))

        answers : (v : ℕ) → IsNode g v → (answer : Rows) × IsAnswer g (table_rows g s) v answer × IsAnswered g.subtasks (g.edge v) (s.sent v) answer
        answers = answered g wired s.sent s.pieces folded runs facts.facts scan_fine all_came (table_rows g s) scan_answers

        printed_answers : (answer : Rows) × IsAnswer g (table_rows g s) g.count answer × ReadsAs (g.edge g.count).meaning (changes_in s.printed) answer
        printed_answers =
            let a = answers g.count (inr wired.sink) in
            let lengths : ℕ → ℕ = λ i. length (s.sent g.count i) in
            let all : (i : ℕ) → take (lengths i) (s.sent g.count i) ≡ s.sent g.count i = λ i. take_all (lengths i) (s.sent g.count i) (omega arith) in
            let is : (i : ℕ) → i < g.subtasks → from_port 0 i h.prints ≡ take (lengths i) (s.sent g.count i) = λ i l. h.printed_from i ∙ sym (all i) in
            let reads = printed_means (g.edge g.count).meaning h.prints h.printed_within lengths is wired.sink_whole sink_fine.apart a.2.rows (λ i l. subst (λ x. ReadsAs (g.edge g.count).meaning x (a.2.rows i)) (sym (all i)) (a.2.stands i l)) in
            let same : came_bag g.subtasks (hash []) one_place 0 0 wired.parallel h.prints h.printed_within (fronts (g.edge g.count).meaning h.prints h.printed_within lengths is) (came (g.edge g.count).meaning h.prints h.printed_within lengths is) (g.edge g.count).meaning a.2.rows ≡ a.0 =
            same_bag row_total row_exact _ _ (λ row. copies_came g.subtasks (hash []) one_place 0 0 wired.parallel h.prints h.printed_within (fronts (g.edge g.count).meaning h.prints h.printed_within lengths is) (came (g.edge g.count).meaning h.prints h.printed_within lengths is) (g.edge g.count).meaning a.2.rows row ∙ (placed (g.edge g.count).meaning wired.sink_whole a.2.rows row ∙ a.2.together row)) in
            (a.0, a.1, subst (λ l. ReadsAs (g.edge g.count).meaning l a.0) (sym h.printed) (subst (ReadsAs (g.edge g.count).meaning (at_port 0 h.prints)) same reads))
          where
            placed : (m : Meaning) → (IsPartial m → ⊥) → (rows : ℕ → Rows) (row : Row) → total g.subtasks (λ i. cond (belongs_by m (hash []) one_place i 0 row) (copies (rows i) row) 0) ≡ total g.subtasks (λ i. copies (rows i) row)
            placed bag not_partial rows row = refl
            placed (last_rows key) not_partial rows row = refl
            placed (partials p) not_partial rows row = refl

  holds : (facts : MeetsFacts g) (s : State) → HangsTogether g wired s → Holds g s
  holds facts s h = record {
    fine = fine s h facts;
    over = λ v is. over g wired v (s.sent v) (fine s h facts v is);
    ready = rely s h facts;
    fronts = λ e i j feed change rest fed il jl at.
        let next : State = joins e i j feed change rest s in
        let k = hangs_joined g wired 0 s e i j feed change rest fed il at h in
        let is : consumed next feed.node j ≡ consumed s feed.node j ++ arrival feed.port i change ∷ [] = consumed_joined g wired 0 s e i j feed change rest fed il at h in
        record {
          ready = subst (IsReady (task g feed.node) j) is (rely next k facts feed.node j jl);
          few =
              let a = consumed_few g wired next k feed.node j in
              let b = ap length is ∙ length-append (consumed s feed.node j) (arrival feed.port i change ∷ []) in
              omega arith;
        };
    answered = λ still. answers s h facts still;
    printed_stands = printed_stands s h facts;
    printed_kinds = printed_kinds s h facts;
    printed_fits = printed_fits s h facts;
    printed_answers = λ still. printed_answers s h facts still;
  }

pub composes : Composes
composes g wired facts limit items typed = holds g wired facts (after g limit (opened g) items) (hangs_after g wired limit (opened g) items typed (hangs_opened g wired))

-- ---- in the words of changelogs

of_both : {A : Type 0} (P Q R : A → Type 0) → ((x : A) → P x → Q x → R x) → (xs : List A) → AllByRecursion P xs → AllByRecursion Q xs → AllByRecursion R xs
of_both P Q R w [] h k = tt
of_both P Q R w (x ∷ xs) h k = (w x h.0 k.0, of_both P Q R w xs h.1 k.1)

pub printed_folds : PrintedFolds
printed_folds g wired facts mode is within keyed limit items typed =
    let s : State = after g limit (opened g) items in
    let h : Holds g s = composes g wired facts limit items typed in
    let means : (n : ℕ) → (rows : Rows) × Means mode (take n (changes_in s.printed)) rows = λ n. let r = h.printed_stands n in (r.0, means_in mode (take n (changes_in s.printed)) r.0 (subst (λ m. ReadsAs m (take n (changes_in s.printed)) r.0) is r.1)) in
    let admitted : AllByRecursion (λ change. admits mode change.kind ≡ true) (changes_in s.printed) = all-weaker _ _ (λ change e. within change.kind e) (changes_in s.printed) h.printed_kinds in
    let valid : IsValid mode (changes_in s.printed) = valid_where_means mode (changes_in s.printed) admitted means in
    let told : AreKeyed mode (changes_in s.printed) = of_both _ _ (IsKeyed mode) keyed (changes_in s.printed) admitted h.printed_fits in
    record {
      valid = λ n. record { valid = IsValidFrom-take mode none n (changes_in s.printed) valid; keyed = all-take (IsKeyed mode) n (changes_in s.printed) told };
      folds = λ still.
          let a = h.printed_answers still in
          subst (IsAnswer g (table_rows g s) g.count) (fold_means mode (changes_in s.printed) a.0 valid (means_in mode (changes_in s.printed) a.0 (subst (λ m. ReadsAs m (changes_in s.printed) a.0) is a.2))) a.1;
    }
  where
    means_in : (mode : Mode) (changes : List Change) (rows : Rows) → ReadsAs (meaning_of mode) changes rows → Means mode changes rows
    means_in append changes rows m = m
    means_in retract changes rows m = m
    means_in (upsert key) changes rows m = m
