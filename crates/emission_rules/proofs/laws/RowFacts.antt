-- The facts of a node with one port that answers each change by itself.
use Rattle.std.proofs.Common.{◌≡◌, ℕ, ◌<◌, ◌⊎◌, Bool, true, List, [], ◌∷◌, ◌++◌, length, take, Option, Some, Ok, Err, refl, sym, ap, subst, ◌∙◌, arith, inl, inr, append_assoc, cond}
use Rattle.std.specs.List.{Contains, AllByRecursion}
use Rattle.std.proofs.lemmas.List.{take_all}
use Rattle.std.proofs.lemmas.Bool.{eq-eqb}
use Rattle.ct_value.specs.Bag.{copies}
use Rattle.ct_value.proofs.laws.Bags.{same_bag}
use Rattle.ct_value.specs.Order.{row_total, row_exact}
use Rattle.ct_value.specs.Rows.{project}
use Rattle.ct_value.specs.declared.row.Row.{Row}
use Rattle.ct_change.specs.declared.kind.Kind.{Kind}
use Rattle.ct_change.specs.declared.change.Change.{Change}
use Rattle.ct_change.specs.Changelog.{Mode, retract, upsert, Rows, adds, has}
use Rattle.ct_change.proofs.laws.Meanings.{means_one}
use Rattle.op_rules.specs.History.{Arrival, at_port, joined}
use Rattle.op_rules.specs.Rules.{Answer, Rule, appended, along}
use Rattle.op_rules.specs.Edges.{Meaning, bag, last_rows, partials, IsPartial, ReadsAs, Exchange, forward, hash, Edge, IsUnique, IsApart, HoldsOver, IsSeenBy, AreApartBy}
use Rattle.op_rules.specs.Tasks.{Task, total, IsReady, IsSplitBy, ComeFixedBy, ComeApartBy, Emitted, AllEmitted, Facts}
use Rattle.op_rules.specs.Ports.{task_of}
use Rattle.op_rules.proofs.laws.Histories.{appended-nothing, prefix_at}
use Rattle.emission_rules.specs.Changes.{changes_of, each_change, row_rule}
use Rattle.emission_rules.proofs.laws.Moved.{Fate, moved, sum_of, copies-sum_of, fate_of, sent_of, AreInRange, answered, take-sent, all-sent, image, came_from, image-sum, CarriesRows, Carries, image_unique}

-- ---- answers along the pieces

appended-assoc : (a b c : Answer) → appended (appended a b) c ≡ appended a (appended b c)
appended-assoc (Ok a) (Ok b) (Ok c) = ap (λ (xs : List Change). let r : Answer = Ok xs in r) (append_assoc a b c)
appended-assoc (Ok a) (Ok b) (Err row) = refl
appended-assoc (Ok a) (Err row) c = refl
appended-assoc (Err row) b c = refl

each_change-append : (answer : Change → Answer) (xs ys : List Change) → each_change answer (xs ++ ys) ≡ appended (each_change answer xs) (each_change answer ys)
each_change-append answer [] ys = sym (appended-nothing (each_change answer ys))
each_change-append answer (x ∷ xs) ys = ap (appended (answer x)) (each_change-append answer xs ys) ∙ sym (appended-assoc (answer x) (each_change answer xs) (each_change answer ys))

pub changes_of-append : (xs ys : List Arrival) → changes_of (xs ++ ys) ≡ changes_of xs ++ changes_of ys
changes_of-append [] ys = refl
changes_of-append (x ∷ xs) ys = ap (λ zs. x.change ∷ zs) (changes_of-append xs ys)

pub along-each : (answer : Change → Answer) (before : List Arrival) (pieces : List (List Arrival)) → along (λ b piece. each_change answer (changes_of piece)) before pieces ≡ each_change answer (changes_of (joined pieces))
along-each answer before [] = refl
along-each answer before (piece ∷ pieces) =
    ap (appended (each_change answer (changes_of piece))) (along-each answer (before ++ piece) pieces)
    ∙ sym (each_change-append answer (changes_of piece) (changes_of (joined pieces)))
    ∙ ap (each_change answer) (sym (changes_of-append piece (joined pieces)))

-- all that came to a node with one port came to it
pub first_port : (history : List Arrival) → AllByRecursion (λ a. a.port < 1) history → changes_of history ≡ at_port 0 history
first_port [] h = refl
first_port (a ∷ others) h =
    let here : a.port ≡ 0 = (let l = h.0 in omega arith) in
    ap (λ xs. a.change ∷ xs) (first_port others h.1) ∙ sym (ap (λ b. cond b (a.change ∷ at_port 0 others) (at_port 0 others)) (eq-eqb a.port 0 here))

-- what is read as a meaning stands for one bag
reads_one : (meaning : Meaning) → (IsPartial meaning → ⊥) → (changes : List Change) (a b : Rows) → ReadsAs meaning changes a → ReadsAs meaning changes b → a ≡ b
reads_one bag whole changes a b m n = means_one retract changes a b m n
reads_one (last_rows key) whole changes a b m n = means_one (upsert key) changes a b m n
reads_one (partials p) whole changes a b m n = absurd (whole tt)

module _ (fate : Bool → Row → Fate) (turn : Kind → Kind) (stays : (kind : Kind) → adds (turn kind) ≡ adds kind)
    (answer : Change → Answer) (is : (change : Change) → answer change ≡ moved (turn change.kind) change.row (fate_of fate turn stays change))
    (batch : Rows → Option Rows) (batch_is : (rows : Rows) → batch rows ≡ image fate turn stays rows)
    (mode : Mode) (many : ℕ) (from : ℕ → Edge) (to : Edge) where
  abbrev rule : Rule
  rule = row_rule 1 mode answer

  abbrev pub node : Task
  node = task_of rule many from to (λ subtask rows. batch (rows 0)) (λ rows. batch (rows 0))

  abbrev pub becomes : List Change → List Change
  becomes changes = sent_of fate turn stays changes

  abbrev pub InRange : List Change → Type 0
  InRange changes = AreInRange fate turn stays changes

  -- which sets rows keep as they come or go, and as they stand
  abbrev pub Keeps : List ℕ → List ℕ → Type 0
  Keeps set own = Carries fate turn stays set own

  abbrev pub KeepsRows : List ℕ → List ℕ → Type 0
  KeepsRows set own = CarriesRows fate turn stays set own

  -- why what leaves as last rows of a key leaves one subtask: a set that fixes the subtask is kept in the key, or what comes is last rows of such a set
  abbrev pub LeavesOne : Meaning → Type 0
  LeavesOne bag = Unit {0}
  LeavesOne (last_rows key) = (own : List ℕ) × Keeps key own × (Contains (from 0).fixing own ⊎ ((from 0).meaning ≡ last_rows own))
  LeavesOne (partials p) = Unit {0}

  -- what such a node needs of its edges
  pub record Moves : Type 0 where
    pub forwards : (from 0).exchange ≡ forward
    -- what is sent for a prefix of what came stands for the batch answer of what that stands for
    pub reads : (j : ℕ) (history : List Arrival) → IsReady node j history → InRange (at_port 0 history)
        → (n : ℕ) (rows : Rows) → ReadsAs (from 0).meaning (take n (at_port 0 history)) rows
        → (answer : Rows) × (batch rows ≡ Some answer) × ReadsAs to.meaning (becomes (take n (at_port 0 history))) answer
    pub whole : IsPartial to.meaning → ⊥
    pub leaves : LeavesOne to.meaning
    pub kinds : (kind : Kind) → has (from 0).kinds kind ≡ true → has to.kinds (turn kind) ≡ true
    pub fits : (change : Change) (row : Row) → (from 0).fits change ≡ true → fate (adds change.kind) change.row ≡ Some (Some row) → to.fits (record { kind = turn change.kind; row = row }) ≡ true
    pub holds : (row made : Row) → (from 0).holds row ≡ true → fate true row ≡ Some (Some made) → to.holds made ≡ true
    pub unique : (key : List ℕ) → Contains to.unique key → (own : List ℕ) × (Contains (from 0).unique own ⊎ HoldsOver (from 0) own) × KeepsRows key own
    pub local : (key : List ℕ) → Contains to.local key → (own : List ℕ) × Contains (from 0).local own × KeepsRows key own
    pub fixing : (set : List ℕ) → Contains to.fixing set → (own : List ℕ) × Contains (from 0).fixing own × Keeps set own

  module _ (moves : Moves) where
    abbrev source : Edge
    source = from 0

    at_first : 0 < 1
    at_first = omega arith

    -- ---- what a subtask sent

    module _ (j : ℕ) (pieces : List (List Arrival)) (sent : List Change) (e : Emitted node j pieces sent) where
      abbrev took : List Change
      took = at_port 0 (joined pieces)

      told : InRange (at_port 0 (joined pieces)) × (sent ≡ becomes (at_port 0 (joined pieces)))
      told = answered fate turn stays answer is (at_port 0 (joined pieces)) sent
          (ap (each_change answer) (sym (first_port (joined pieces) e.ready.ports))
          ∙ sym (along-each answer [] pieces)
          ∙ sym (appended-nothing (along (λ b piece. each_change answer (changes_of piece)) [] pieces))
          ∙ e.emitted)

      -- a prefix of it, with the rows that what came for it stands for
      pub record Front (n : ℕ) : Type 0 where
        pub length : ℕ
        pub until : ℕ
        pub came : at_port 0 (take until (joined pieces)) ≡ take length (at_port 0 (joined pieces))
        pub sends : take n sent ≡ becomes (take length (at_port 0 (joined pieces)))
        pub rows : Rows
        pub stands : ReadsAs (from 0).meaning (at_port 0 (take until (joined pieces))) rows
        pub shown : Rows
        pub made : batch rows ≡ Some shown
        pub means : ReadsAs to.meaning (take n sent) shown

      front : (n : ℕ) → Front n
      front n =
          let part = take-sent fate turn stays n (at_port 0 (joined pieces)) in
          let until = prefix_at 0 part.0 (joined pieces) in
          let rows = e.ready.valid 0 (omega arith) until.0 in
          let sends : take n sent ≡ becomes (take part.0 (at_port 0 (joined pieces))) = ap (take n) told.1 ∙ part.1 in
          let r = moves.reads j (joined pieces) e.ready told.0 part.0 rows.0 (subst (λ l. ReadsAs (from 0).meaning l rows.0) until.1 rows.1) in
          record {
            length = part.0;
            until = until.0;
            came = until.1;
            sends = sends;
            rows = rows.0;
            stands = rows.1;
            shown = r.0;
            made = r.1;
            means = subst (λ l. ReadsAs to.meaning l r.0) (sym sends) r.2;
          }

      all_sent : (P Q : Change → Type 0) → ((change : Change) (row : Row) → P change → fate (adds change.kind) change.row ≡ Some (Some row) → Q (record { kind = turn change.kind; row = row }))
          → AllByRecursion P (at_port 0 (joined pieces)) → AllByRecursion Q sent
      all_sent P Q h all = subst (AllByRecursion Q) (sym told.1) (all-sent fate turn stays P Q h (at_port 0 (joined pieces)) all)

    -- ---- keys, and where rows leave

    -- the keys of what a subtask sees over a forward edge are the local ones
    seen : (exchange : Exchange) → exchange ≡ forward → (key : List ℕ) → Contains (from 0).local key → IsSeenBy exchange (from 0) key
    seen forward e key has = has
    seen (hash columns) e key has = absurd (cc)

    apart_sent : (own set : List ℕ) → Keeps set own → (pieces : ℕ → List (List Arrival)) (sent : ℕ → List Change) → AllEmitted node pieces sent
        → IsApart own many (λ j. at_port 0 (joined (pieces j))) → IsApart set many sent
    apart_sent own set keeps pieces sent all apart i j il jl =
        all_sent i (pieces i) (sent i) (all i il)
        (λ a. AllByRecursion (λ b. project own a.row ≡ project own b.row → i ≡ j) (at_port 0 (joined (pieces j))))
        (λ a. AllByRecursion (λ b. project set a.row ≡ project set b.row → i ≡ j) (sent j))
        (λ a fa h is_a.
        all_sent j (pieces j) (sent j) (all j jl) (λ b. project own a.row ≡ project own b.row → i ≡ j) (λ b. project set fa ≡ project set b.row → i ≡ j)
        (λ b fb k is_b same. k (keeps (adds a.kind) (adds b.kind) a.row b.row fa fb is_a is_b same)) h)
        (apart i j il jl)

    came_fixed : (pieces : ℕ → List (List Arrival)) → ComeFixedBy (from 0).exchange many (from 0) (λ j. at_port 0 (joined (pieces j)))
        → (set : List ℕ) → Contains (from 0).fixing set → IsApart set many (λ j. at_port 0 (joined (pieces j)))
    came_fixed pieces come =
        let c : ComeFixedBy forward many (from 0) (λ j. at_port 0 (joined (pieces j))) = subst (λ x. ComeFixedBy x many (from 0) (λ j. at_port 0 (joined (pieces j)))) moves.forwards come in c

    leave : (meaning : Meaning) → LeavesOne meaning → (pieces : ℕ → List (List Arrival)) (sent : ℕ → List Change) → AllEmitted node pieces sent
        → ComeApartBy (from 0).exchange (from 0).meaning many (λ j. at_port 0 (joined (pieces j)))
        → ComeFixedBy (from 0).exchange many (from 0) (λ j. at_port 0 (joined (pieces j)))
        → AreApartBy meaning many sent
    leave bag leaves pieces sent all come fixed = tt
    leave (last_rows key) leaves pieces sent all come fixed = apart_sent leaves.0 key leaves.1 pieces sent all (why leaves.2)
      where
        why : Contains (from 0).fixing leaves.0 ⊎ ((from 0).meaning ≡ last_rows leaves.0) → IsApart leaves.0 many (λ j. at_port 0 (joined (pieces j)))
        why (inl has) = came_fixed pieces fixed leaves.0 has
        why (inr is_last) =
            let c : ComeApartBy forward (last_rows leaves.0) many (λ j. at_port 0 (joined (pieces j))) =
            subst (λ m. ComeApartBy forward m many (λ j. at_port 0 (joined (pieces j)))) is_last (subst (λ x. ComeApartBy x (from 0).meaning many (λ j. at_port 0 (joined (pieces j)))) moves.forwards come) in c
    leave (partials p) leaves pieces sent all come fixed = tt

    -- ---- parts

    add_up : (given : ℕ → Rows) (whole : Rows) (answers : ℕ → Rows) → IsSplitBy (from 0).meaning (from 0).exchange (from 0).route many given whole → ((j : ℕ) → j < many → batch (given j) ≡ Some (answers j))
        → (answer : Rows) × (batch whole ≡ Some answer) × ((row : Row) → total many (λ j. copies (answers j) row) ≡ copies answer row)
    add_up given whole answers split made =
        let s : IsSplitBy (from 0).meaning forward (from 0).route many given whole = subst (λ x. IsSplitBy (from 0).meaning x (from 0).route many given whole) moves.forwards split in
        let is_sum : whole ≡ sum_of many given = same_bag row_total row_exact whole (sum_of many given) (λ row. s row ∙ sym (copies-sum_of many given row)) in (
          sum_of many answers,
          batch_is whole ∙ ap (image fate turn stays) is_sum ∙ image-sum fate turn stays many given answers (λ j l. sym (batch_is (given j)) ∙ made j l),
          λ row. sym (copies-sum_of many answers row),
        )

    pub row_facts : Facts node
    row_facts = record {
      folds_to_answer = λ j pieces sent e rows known.
          let all : take (length (at_port 0 (joined pieces))) (at_port 0 (joined pieces)) ≡ at_port 0 (joined pieces) = take_all (length (at_port 0 (joined pieces))) (at_port 0 (joined pieces)) (omega arith) in
          let t = told j pieces sent e in
          let r = moves.reads j (joined pieces) e.ready t.0 (length (at_port 0 (joined pieces))) (rows 0) (subst (λ l. ReadsAs (from 0).meaning l (rows 0)) (sym all) (known 0 (omega arith)).0) in
          (r.0, r.1, subst (λ l. ReadsAs to.meaning l r.0) (ap becomes all ∙ sym t.1) r.2);
      prefixes_stand = λ j pieces sent e n. let f = front j pieces sent e n in (f.shown, f.means);
      kinds_stay = λ j pieces sent e.
          all_sent j pieces sent e (λ change. has (from 0).kinds change.kind ≡ true) (λ change. has to.kinds change.kind ≡ true) (λ change row h f. moves.kinds change.kind h) (e.ready.kinds 0 (omega arith));
      types_stay = λ j pieces sent e.
          all_sent j pieces sent e (λ change. (from 0).fits change ≡ true) (λ change. to.fits change ≡ true) (λ change row h f. moves.fits change row h f) (e.ready.types 0 (omega arith));
      parts_add_up = λ given whole answers split made. add_up (λ j. given j 0) (whole 0) answers (split 0 (omega arith)) made;
      local_keys = λ j pieces sent e key has n rows reads.
          let f = front j pieces sent e n in
          let own = moves.local key has in
          let same : f.shown ≡ rows = reads_one to.meaning moves.whole (take n sent) f.shown rows f.means reads in
          subst (λ r. IsUnique key (copies r)) same
          (image_unique fate turn stays key own.0 own.2 f.rows f.shown (sym (batch_is f.rows) ∙ f.made)
          (e.ready.keys 0 (omega arith) own.0 (seen (from 0).exchange moves.forwards own.0 own.1) f.until f.rows f.stands));
      fixing_sets = λ pieces sent all come set has.
          let own = moves.fixing set has in
          apart_sent own.0 set own.2 pieces sent all (came_fixed pieces (come 0 (omega arith)) own.0 own.1);
      after_only = λ pieces sent all come fixed. leave to.meaning moves.leaves pieces sent all (come 0 (omega arith)) (fixed 0 (omega arith));
      answer_types = λ whole answer made settled row some.
          let at = came_from fate turn stays (whole 0) answer (sym (batch_is (whole 0)) ∙ made) row some in
          moves.holds at.0 row ((settled 0 (omega arith)).types at.0 at.1) at.2;
      unique_keys = λ whole answer made settled key has.
          let own = moves.unique key has in
          image_unique fate turn stays key own.0 own.2 (whole 0) answer (sym (batch_is (whole 0)) ∙ made) ((settled 0 (omega arith)).keys own.0 own.1);
    }
