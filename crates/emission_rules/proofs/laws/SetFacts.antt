-- A set operation meets the facts of nodes.
use Rattle.std.proofs.Common.{◌≡◌, ℕ, zero, suc, ◌+◌, ◌<◌, ◌≤◌, ◌==◌, ◌⊎◌, Bool, true, false, cond, List, [], ◌∷◌, ◌++◌, take, drop, Some, refl, sym, ap, subst, ◌∙◌, arith, inl, inr}
use Rattle.std.specs.Prelude.{◌||◌, min}
use Rattle.std.specs.List.{Contains, AllByRecursion}
use Rattle.std.proofs.lemmas.Bool.{eq-eqb, eqb-true, eqb-false}
use Rattle.ct_value.specs.Bag.{copies, none}
use Rattle.ct_value.specs.Rows.{project}
use Rattle.ct_value.specs.declared.row.Row.{Row}
use Rattle.ct_value.specs.declared.ty.ColTy.{ColTy}
use Rattle.ct_change.specs.declared.kind.Kind.{Kind}
use Rattle.ct_change.specs.declared.kind.Kind.TheVariants.{I, UB, UA, D}
use Rattle.ct_change.specs.declared.change.Change.{Change}
use Rattle.ct_change.specs.Changelog.{Rows, retract, adds, has, admits, AreOf, IsValid, Means}
use Rattle.ct_change.specs.Kinds.{has_more_than_inserts}
use Rattle.ct_change.proofs.laws.Folds.{IsValidFrom-front}
use Rattle.ct_change.proofs.laws.Meanings.{valid_where_means, fold_means, means_fold, means_one, means_rows}
use Rattle.rel_algebra.specs.Clauses.{Fits}
use Rattle.rel_algebra.specs.Sets.{SetForm, set_form, counted, set_copies, set_rows}
use Rattle.rel_algebra.proofs.laws.Sets.{copies-set_form, few_copies, set_rows-few, set_rows-few_right, none_left, counted_once}
use Rattle.op_rules.specs.History.{Arrival, at_port, joined}
use Rattle.op_rules.specs.Edges.{bag, hash, ReadsAs, Edge, IsRoutedBy, IsUnique, AreApartBy, LiesIn, HoldsOver, IsSeen}
use Rattle.op_rules.specs.Tasks.{Task, IsSplitBy, Emitted, FoldsToAnswer, PrefixesStand, PartsAddUp, LocalKeysHold, FixingSetsHold, AnswersFit, UniqueKeysHold, Facts}
use Rattle.op_rules.proofs.laws.Histories.{all-each, all-front, all-back, at_port-append, appended-nothing, ok-same, prefix_at}
use Rattle.op_rules.proofs.laws.Totals.{total-same, total_one}
use Rattle.emission_rules.specs.SetOps.{SetOperation, rows_of_port, number, set_emits, set_task, set_kinds, IsKeyOf, InputFits, SetFits, SetOperationsStand, SetOperationsTake}
use Rattle.emission_rules.proofs.laws.Filters.{reads_retract, retracts_all}
use Rattle.emission_rules.proofs.laws.SetSteps.{along-set, take-emits, AreLeft, emits_mean, Told, all_told}

take-drop : {A : Type 0} (n : ℕ) (xs : List A) → take n xs ++ drop n xs ≡ xs
take-drop zero xs = refl
take-drop (suc n) [] = refl
take-drop (suc n) (x ∷ xs) = ap (λ ys. x ∷ ys) (take-drop n xs)

-- ---- keys

-- a key of some rows is one of fewer of them
fewer_unique : (own key : List ℕ) (rows others : Rows) → LiesIn own key → ((row : Row) → copies others row ≤ copies rows row) → IsUnique own (copies rows) → IsUnique key (copies others)
fewer_unique own key rows others lies fewer unique a b same some more =
    let u = unique a b (lies a b same) (let f = fewer a in omega arith) (let f = fewer b in omega arith) in
    let l = u.1 in let f = fewer a in (u.0, omega arith)

module _ (s : SetOperation) where
  abbrev form : SetForm
  form = set_form s.except s.all

  few : (left right : Rows) (row : Row) → copies (set_rows form left right) row ≤ copies left row
  few left right row = set_rows-few s.except s.all left right row

  -- under INTERSECT no more than on the right
  few_right : s.except ≡ false → (left right : Rows) (row : Row) → copies (set_rows form left right) row ≤ copies right row
  few_right e left right row = set_rows-few_right s.except s.all left right row e

  -- without ALL each row stands once
  once : s.all ≡ false → (left right : Rows) (row : Row) → copies (set_rows form left right) row ≤ 1
  once e left right row =
      let c : copies (set_rows form left right) row ≡ set_copies (set_form s.except false) (copies left row) (copies right row) =
      copies-set_form s.except s.all left right row ∙ ap (λ all. set_copies (set_form s.except all) (copies left row) (copies right row)) e in
      let f = counted_once s.except (copies left row) (copies right row) in omega arith

  key_holds : (L R : List ℕ → Type 0) (columns : List ColTy) (left right : Rows)
      → ((own : List ℕ) → L own → IsUnique own (copies left)) → ((own : List ℕ) → R own → IsUnique own (copies right)) → ((row : Row) → 0 < copies left row → Fits columns row)
      → (key : List ℕ) → IsKeyOf s columns L R key → IsUnique key (copies (set_rows form left right))
  key_holds L R columns left right of_left of_right typed key (inl k) = fewer_unique k.0 key left (set_rows form left right) k.2 (few left right) (of_left k.0 k.1)
  key_holds L R columns left right of_left of_right typed key (inr (inl k)) = fewer_unique k.1.0 key right (set_rows form left right) k.1.2 (few_right k.0 left right) (of_right k.1.0 k.1.1)
  key_holds L R columns left right of_left of_right typed key (inr (inr k)) = λ a b same some more. (
    k.1 a b (typed a (let f = few left right a in omega arith)) (typed b (let f = few left right b in omega arith)) same,
    once k.0 left right a,
  )

  module _ (many : ℕ) (hashed_by : List ℕ) (left_columns right_columns : List ColTy) (from : ℕ → Edge) (to : Edge) (fits : SetFits many s hashed_by left_columns right_columns from to) where
    abbrev pub task : Task
    task = set_task many s from to

    means_in : (p : ℕ) (columns : List ColTy) → InputFits many hashed_by columns (from p) → (changes : List Change) (rows : Rows) → ReadsAs (from p).meaning changes rows → Means retract changes rows
    means_in p columns input changes rows reads = let m : ReadsAs bag changes rows = subst (λ m. ReadsAs m changes rows) input.reads reads in m

    leaves : (changes : List Change) (rows : Rows) → Means retract changes rows → ReadsAs to.meaning changes rows
    leaves changes rows means = subst (λ m. ReadsAs m changes rows) (sym fits.writes) means

    -- ---- what a subtask took and sent

    module _ (j : ℕ) (pieces : List (List Arrival)) (sent : List Change) (e : Emitted task j pieces sent) where
      abbrev took : List Arrival
      took = joined pieces

      sent_is : sent ≡ set_emits s [] took
      sent_is = ok-same (set_emits s [] took) sent (sym (along-set s [] pieces) ∙ sym (appended-nothing _) ∙ e.emitted)

      valid : (p : ℕ) → p < 2 → (columns : List ColTy) → InputFits many hashed_by columns (from p) → IsValid retract (at_port p took)
      valid p l columns input =
          valid_where_means retract (at_port p took) (all-each (λ change. has (from p).kinds change.kind ≡ true) (λ change. admits retract change.kind ≡ true) (λ change k. retracts_all change.kind) (at_port p took) (e.ready.kinds p l))
          (λ n.
          let m = prefix_at p n took in
          let stands = e.ready.valid p l m.0 in
          (stands.0, means_in p columns input (take n (at_port p took)) stands.0 (subst (λ xs. ReadsAs (from p).meaning xs stands.0) m.1 stands.1)))

      -- those of a front of what came
      valid_front : (p : ℕ) → p < 2 → (columns : List ColTy) → InputFits many hashed_by columns (from p) → (front back : List Arrival) → front ++ back ≡ took → IsValid retract (at_port p front)
      valid_front p l columns input front back is =
          IsValidFrom-front retract none (at_port p front) (at_port p back) (subst (IsValid retract) (ap (at_port p) (sym is) ∙ at_port-append p front back) (valid p l columns input))

      are_left : (front back : List Arrival) → front ++ back ≡ took → AreLeft s [] front
      are_left front back is = record {
        known = all-front (λ a. a.port < 2) front back (subst (AllByRecursion (λ a. a.port < 2)) (sym is) e.ready.ports);
        left = valid_front 0 (omega arith) left_columns fits.left front back is;
        right = valid_front 1 (omega arith) right_columns fits.right front back is;
      }

      at_all : took ++ [] ≡ took
      at_all = nil took
        where
          nil : (xs : List Arrival) → xs ++ [] ≡ xs
          nil [] = refl
          nil (x ∷ xs) = ap (λ ys. x ∷ ys) (nil xs)

      -- what holds of each change of a port holds of the rows that stand there after a front
      rows_hold : (P : Row → Type 0) (p : ℕ) → p < 2 → (columns : List ColTy) → InputFits many hashed_by columns (from p) → AllByRecursion (λ change. P change.row) (at_port p took)
          → (front back : List Arrival) → front ++ back ≡ took → (row : Row) → 0 < copies (rows_of_port p front) row → P row
      rows_hold P p l columns input all front back is row some =
          means_rows P retract (at_port p front) (rows_of_port p front) (means_fold retract (at_port p front) (valid_front p l columns input front back is))
          (all-front (λ change. P change.row) (at_port p front) (at_port p back) (subst (AllByRecursion (λ change. P change.row)) (ap (at_port p) (sym is) ∙ at_port-append p front back) all)) row some

      typed : (p : ℕ) → p < 2 → (columns : List ColTy) → InputFits many hashed_by columns (from p) → (front back : List Arrival) → front ++ back ≡ took → (row : Row) → 0 < copies (rows_of_port p front) row → Fits columns row
      typed p l columns input front back is row some =
          rows_hold (Fits columns) p l columns input (all-each _ (λ change. Fits columns change.row) (λ change k. input.fits change k) (at_port p took) (e.ready.types p l)) front back is row some

      placed : (front back : List Arrival) → front ++ back ≡ took → (row : Row) → 0 < copies (rows_of_port 0 front) row → (from 0).route (project hashed_by row) ≡ j
      placed front back is row some =
          rows_hold (λ row. (from 0).route (project hashed_by row) ≡ j) 0 (omega arith) left_columns fits.left (subst (λ x. IsRoutedBy x (from 0).route j (at_port 0 took)) fits.left.hashed (e.ready.placed 0 (omega arith))) front back is row some

      -- what the ports' changes stand for
      rows_are : (p : ℕ) → p < 2 → (columns : List ColTy) → InputFits many hashed_by columns (from p) → (rows : Rows) → ReadsAs (from p).meaning (at_port p took) rows → rows ≡ rows_of_port p took
      rows_are p l columns input rows reads = fold_means retract (at_port p took) rows (valid p l columns input) (means_in p columns input (at_port p took) rows reads)

      -- ---- each prefix

      pub record Front (n : ℕ) : Type 0 where
        pub until : ℕ
        pub means : Means retract (take n sent) (set_rows form (rows_of_port 0 (take until took)) (rows_of_port 1 (take until took)))

      front_of : (n : ℕ) → Front n
      front_of n =
          let k = take-emits s [] took n in
          record {
            until = k.0;
            means = subst (λ changes. Means retract changes (set_rows form (rows_of_port 0 (take k.0 took)) (rows_of_port 1 (take k.0 took)))) (sym (ap (take n) sent_is ∙ k.1))
                (emits_mean s (take k.0 took) (are_left (take k.0 took) (drop k.0 took) (take-drop k.0 took)));
          }

      -- ---- each change

      stood_left : (front : List Arrival) (row : Row) → 0 < number s front row → 0 < copies (rows_of_port 0 front) row
      stood_left front row some = let f = few_copies s.except s.all (copies (rows_of_port 0 front) row) (copies (rows_of_port 1 front) row) in omega arith

      stood_right : s.except ≡ false → (front : List Arrival) (row : Row) → 0 < number s front row → 0 < copies (rows_of_port 1 front) row
      stood_right x front row some =
          let is : set_copies form (copies (rows_of_port 0 front) row) (copies (rows_of_port 1 front) row) ≡ min (counted s.all (copies (rows_of_port 0 front) row)) (copies (rows_of_port 1 front) row) =
          ap (λ except. set_copies (set_form except s.all) (copies (rows_of_port 0 front) row) (copies (rows_of_port 1 front) row)) x in
          omega arith

      all_sent : AllByRecursion (Told s took) sent
      all_sent = subst (AllByRecursion (Told s took)) (sym sent_is) (all_told s [] took (are_left took [] at_all))

      -- a kind that removes is one of the input's
      more : (p : ℕ) → p < 2 → (kind : Kind) → adds kind ≡ false → has (from p).kinds kind ≡ true → has_more_than_inserts (from p).kinds ≡ true
      more p l I a h = absurd (cc)
      more p l UB a h = ap (λ b. b || ((from p).kinds.ua || (from p).kinds.d)) h
      more p l UA a h = absurd (cc)
      more p l D a h = ap (λ b. (from p).kinds.ub || ((from p).kinds.ua || b)) h ∙ last (from p).kinds.ub (from p).kinds.ua
        where
          last : (a b : Bool) → (a || (b || true)) ≡ true
          last true b = refl
          last false true = refl
          last false false = refl

      kind_of : (p : ℕ) → p < 2 → (front : List Arrival) (a : Arrival) (back : List Arrival) → front ++ a ∷ back ≡ took → a.port ≡ p → has (from p).kinds a.change.kind ≡ true
      kind_of p l front a back is at =
          let split : at_port p took ≡ at_port p front ++ at_port p (a ∷ back) = ap (at_port p) (sym is) ∙ at_port-append p front (a ∷ back) in
          let here : at_port p (a ∷ back) ≡ a.change ∷ at_port p back = ap (λ b. cond b (a.change ∷ at_port p back) (at_port p back)) (eq-eqb a.port p at) in
          (subst (AreOf (from p).kinds) here (all-back (λ change. has (from p).kinds change.kind ≡ true) (at_port p front) (at_port p (a ∷ back)) (subst (AreOf (from p).kinds) split (e.ready.kinds p l)))).0

      removes : (front : List Arrival) (a : Arrival) (back : List Arrival) → front ++ a ∷ back ≡ took → adds a.change.kind ≡ false → has (set_kinds s.except (from 0).kinds (from 1).kinds) D ≡ true
      removes front a back is away =
          let port = (all-back (λ x. x.port < 2) front (a ∷ back) (subst (AllByRecursion (λ x. x.port < 2)) (sym is) e.ready.ports)).0 in
          elim (a.port == 0) as (λ b. (a.port == 0) ≡ b → has (set_kinds s.except (from 0).kinds (from 1).kinds) D ≡ true) [
            | true ↦ λ q.
                let h = more 0 (omega arith) a.change.kind away (kind_of 0 (omega arith) front a back is (eqb-true a.port 0 q)) in
                ap (λ b. s.except || (b || has_more_than_inserts (from 1).kinds)) h ∙ or_true s.except
            | false ↦ λ q.
                let one_port : a.port ≡ 1 = (let z = eqb-false a.port 0 q in omega arith) in
                let h = more 1 (omega arith) a.change.kind away (kind_of 1 (omega arith) front a back is one_port) in
                ap (λ b. s.except || (has_more_than_inserts (from 0).kinds || b)) h ∙ ap (λ b. s.except || b) (or_true (has_more_than_inserts (from 0).kinds)) ∙ or_true s.except
          ] refl
        where
          or_true : (a : Bool) → (a || true) ≡ true
          or_true true = refl
          or_true false = refl

      abbrev Sends : SetOperation → Kind → Type 0
      Sends s kind = has (set_kinds s.except (from 0).kinds (from 1).kinds) kind ≡ true

      told_kind : (change : Change) → Told s took change → has to.kinds change.kind ≡ true
      told_kind change told = fits.kinds change.kind (go told.kind)
        where
          go : (change.kind ≡ I) ⊎ ((change.kind ≡ D) × ((s.except ≡ true) ⊎ ((before : List Arrival) × (a : Arrival) × (after : List Arrival) × (before ++ a ∷ after ≡ took) × (adds a.change.kind ≡ false)))) → Sends s change.kind
          go (inl i) = subst (Sends s) (sym i) refl
          go (inr (d, inl x)) = subst (Sends s) (sym d) (ap (λ b. b || (has_more_than_inserts (from 0).kinds || has_more_than_inserts (from 1).kinds)) x)
          go (inr (d, inr w)) = subst (Sends s) (sym d) (removes w.0 w.1 w.2 w.3 w.4)

      told_fits : (change : Change) → Told s took change → to.fits change ≡ true
      told_fits change told =
          fits.fits change
          (typed 0 (omega arith) left_columns fits.left told.front told.back told.is change.row (stood_left told.front change.row told.stands))
          (λ x. typed 1 (omega arith) right_columns fits.right told.front told.back told.is change.row (stood_right x told.front change.row told.stands))

      told_place : (change : Change) → Told s took change → (from 0).route (project hashed_by change.row) ≡ j
      told_place change told = placed told.front told.back told.is change.row (stood_left told.front change.row told.stands)

    -- ---- the facts

    folds : FoldsToAnswer task
    folds j pieces sent e rows known =
        let left = rows_are j pieces sent e 0 (omega arith) left_columns fits.left (rows 0) (known 0 (omega arith)).0 in
        let right = rows_are j pieces sent e 1 (omega arith) right_columns fits.right (rows 1) (known 1 (omega arith)).0 in
        let history = took j pieces sent e in (
          set_rows form (rows 0) (rows 1),
          refl,
          leaves sent (set_rows form (rows 0) (rows 1))
              (subst (λ changes. Means retract changes (set_rows form (rows 0) (rows 1))) (sym (sent_is j pieces sent e))
              (subst (λ (x : Rows). Means retract (set_emits s [] history) (set_rows form x (rows 1))) (sym left)
              (subst (λ (x : Rows). Means retract (set_emits s [] history) (set_rows form (rows_of_port 0 history) x)) (sym right)
              (emits_mean s history (are_left j pieces sent e history [] (at_all j pieces sent e)))))),
        )

    prefixes : PrefixesStand task
    prefixes j pieces sent e n = let f = front_of j pieces sent e n in let h = take f.until (took j pieces sent e) in (set_rows form (rows_of_port 0 h) (rows_of_port 1 h), leaves (take n sent) _ f.means)

    split_of : (p : ℕ) → p < 2 → (columns : List ColTy) → InputFits many hashed_by columns (from p) → (parts : ℕ → Rows) (whole : Rows) → IsSplitBy (from p).meaning (from p).exchange (from p).route many parts whole
        → (j : ℕ) → j < many → (row : Row) → copies (parts j) row ≡ cond ((from p).route (project hashed_by row) == j) (copies whole row) 0
    split_of p l columns input parts whole split =
        let here : IsSplitBy bag (hash hashed_by) (from p).route many parts whole = subst (λ x. IsSplitBy bag x (from p).route many parts whole) input.hashed (subst (λ m. IsSplitBy m (from p).exchange (from p).route many parts whole) input.reads split) in here

    add_up : PartsAddUp task
    add_up parts whole answers split made = (
      set_rows form (whole 0) (whole 1),
      refl,
      λ row.
          let k = (from 0).route (project hashed_by row) in
          let m = copies (whole 0) row in
          let n = copies (whole 1) row in
          total-same many _ _ (λ j l.
          let is : answers j ≡ set_rows form (parts j 0) (parts j 1) = some_same (made j l) in
          let left : copies (parts j 0) row ≡ cond (k == j) m 0 = split_of 0 (omega arith) left_columns fits.left (λ i. parts i 0) (whole 0) (split 0 (omega arith)) j l row in
          let right : copies (parts j 1) row ≡ cond (k == j) n 0 =
          split_of 1 (omega arith) right_columns fits.right (λ i. parts i 1) (whole 1) (split 1 (omega arith)) j l row ∙ ap (λ r. cond (r == j) n 0) (sym (fits.together (project hashed_by row))) in
          ap (λ (r : Rows). copies r row) is
          ∙ copies-set_form s.except s.all (parts j 0) (parts j 1) row
          ∙ (λ i. set_copies form (left i) (right i))
          ∙ in_one (k == j) m n)
          ∙ total_one many k (set_copies form m n) (fits.left.routed (project hashed_by row))
          ∙ sym (copies-set_form s.except s.all (whole 0) (whole 1) row),
    )
      where
        some_same : {a b : Rows} → Some a ≡ Some b → b ≡ a
        some_same e = cc

        in_one : (b : Bool) (m n : ℕ) → set_copies form (cond b m 0) (cond b n 0) ≡ cond b (set_copies form m n) 0
        in_one true m n = refl
        in_one false m n = none_left s.except s.all 0

    locals : LocalKeysHold task
    locals j pieces sent e key has_key n rows reads =
        let f = front_of j pieces sent e n in
        let h = take f.until (took j pieces sent e) in
        let back = drop f.until (took j pieces sent e) in
        let is = take-drop f.until (took j pieces sent e) in
        let left = rows_of_port 0 h in
        let right = rows_of_port 1 h in
        let same : set_rows form left right ≡ rows = means_one retract (take n sent) (set_rows form left right) rows f.means (let m : ReadsAs bag (take n sent) rows = subst (λ m. ReadsAs m (take n sent) rows) fits.writes reads in m) in
        let reads_at : (p : ℕ) → p < 2 → (columns : List ColTy) → InputFits many hashed_by columns (from p) → ReadsAs (from p).meaning (at_port p h) (rows_of_port p h) =
        λ p l columns input. subst (λ m. ReadsAs m (at_port p h) (rows_of_port p h)) (sym input.reads) (means_fold retract (at_port p h) (valid_front j pieces sent e p l columns input h back is)) in
        subst (λ (r : Rows). IsUnique key (copies r)) same
        (key_holds (IsSeen (from 0)) (IsSeen (from 1)) left_columns left right
        (λ own seen. e.ready.keys 0 (omega arith) own seen f.until left (reads_at 0 (omega arith) left_columns fits.left))
        (λ own seen. e.ready.keys 1 (omega arith) own seen f.until right (reads_at 1 (omega arith) right_columns fits.right))
        (λ row some. typed j pieces sent e 0 (omega arith) left_columns fits.left h back is row some)
        key (fits.local key has_key))

    fixing : FixingSetsHold task
    fixing pieces sent all come set has_set i k il kl =
        let lies = fits.fixing set has_set in
        all-each (Told s (took i (pieces i) (sent i) (all i il))) _
        (λ a x. all-each (Told s (took k (pieces k) (sent k) (all k kl))) _
        (λ b y same. sym (told_place i (pieces i) (sent i) (all i il) a x) ∙ ap (from 0).route (lies a.row b.row same) ∙ told_place k (pieces k) (sent k) (all k kl) b y)
        (sent k) (all_sent k (pieces k) (sent k) (all k kl))) (sent i) (all_sent i (pieces i) (sent i) (all i il))

    answers_fit : AnswersFit task
    answers_fit whole answer made settled row some =
        let is : answer ≡ set_rows form (whole 0) (whole 1) = some_same made in
        let there : 0 < copies (set_rows form (whole 0) (whole 1)) row = subst (λ (r : Rows). 0 < copies r row) is some in
        fits.holds row
        (fits.left.holds row ((settled 0 (omega arith)).types row (let f = few (whole 0) (whole 1) row in omega arith)))
        (λ x. fits.right.holds row ((settled 1 (omega arith)).types row (let f = few_right x (whole 0) (whole 1) row in omega arith)))
      where
        some_same : {a b : Rows} → Some a ≡ Some b → b ≡ a
        some_same e = cc

    uniques : UniqueKeysHold task
    uniques whole answer made settled key has_key =
        subst (λ (r : Rows). IsUnique key (copies r)) (some_same made)
        (key_holds (λ own. Contains (from 0).unique own ⊎ HoldsOver (from 0) own) (λ own. Contains (from 1).unique own ⊎ HoldsOver (from 1) own) left_columns (whole 0) (whole 1)
        (λ own known. (settled 0 (omega arith)).keys own known)
        (λ own known. (settled 1 (omega arith)).keys own known)
        (λ row some. fits.left.holds row ((settled 0 (omega arith)).types row some))
        key (fits.unique key has_key))
      where
        some_same : {a b : Rows} → Some a ≡ Some b → a ≡ b
        some_same e = cc

    pub set_facts : Facts task
    set_facts = record {
      folds_to_answer = folds;
      prefixes_stand = prefixes;
      kinds_stay = λ j pieces sent e. all-each (Told s (took j pieces sent e)) (λ change. has to.kinds change.kind ≡ true) (told_kind j pieces sent e) sent (all_sent j pieces sent e);
      types_stay = λ j pieces sent e. all-each (Told s (took j pieces sent e)) (λ change. to.fits change ≡ true) (told_fits j pieces sent e) sent (all_sent j pieces sent e);
      parts_add_up = add_up;
      local_keys = locals;
      fixing_sets = fixing;
      after_only = λ pieces sent all come fixed. subst (λ m. AreApartBy m many sent) (sym fits.writes) tt;
      answer_types = answers_fit;
      unique_keys = uniques;
    }

pub set_operations_stand : SetOperationsStand
set_operations_stand many s hashed_by left right from to fits = set_facts s many hashed_by left right from to fits

pub set_operations_take : SetOperationsTake
set_operations_take many s hashed_by left right from to fits = (
  refl,
  λ p l. record {
    reads = reads_retract (from p).meaning (which (λ p. (from p).meaning ≡ bag) fits.left.reads fits.right.reads p l);
    kinds = λ kind h. retracts_all kind;
    fits = λ change h. refl;
    keyed = λ change h. tt;
  },
)
  where
    which : (P : ℕ → Type 0) → P 0 → P 1 → (p : ℕ) → p < 2 → P p
    which P a b zero l = a
    which P a b (suc zero) l = b
    which P a b (suc (suc p)) l = absurd (omega arith)
