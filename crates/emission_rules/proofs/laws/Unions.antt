-- A union meets its facts.
use Rattle.std.proofs.Common.{◌≡◌, ℕ, zero, suc, ◌+◌, ◌<◌, ◌==◌, Bool, true, false, cond, List, [], ◌∷◌, take, Some, Ok, refl, sym, ap, subst, ◌∙◌, arith}
use Rattle.std.specs.List.{AllByRecursion}
use Rattle.std.proofs.lemmas.Bool.{eqb-true, eqb-false, eq-eqb}
use Rattle.ct_value.specs.Bag.{copies, none, weigh}
use Rattle.ct_value.proofs.laws.Bags.{copies-none}
use Rattle.ct_value.specs.Order.{row_total, row_exact}
use Rattle.ct_value.specs.declared.row.Row.{Row}
use Rattle.ct_change.specs.declared.change.Change.{Change}
use Rattle.ct_change.specs.Changelog.{retract, Rows, has, addition, removal, additions, removals, Means}
use Rattle.rel_algebra.specs.Clauses.{union_rows}
use Rattle.rel_algebra.proofs.laws.Bags.{copies-together}
use Rattle.op_rules.specs.History.{Arrival, at_port, joined}
use Rattle.op_rules.specs.Rules.{appended, along}
use Rattle.op_rules.specs.Edges.{Meaning, bag, ReadsAs, forward, Edge, AreApartBy}
use Rattle.op_rules.specs.Tasks.{Task, total, IsSplitBy, Emitted, Facts}
use Rattle.op_rules.proofs.laws.Histories.{all-each, appended-nothing, ok-same}
use Rattle.op_rules.proofs.laws.Totals.{total-same, total_one}
use Rattle.emission_rules.specs.Changes.{changes_of, each_change}
use Rattle.emission_rules.specs.Union.{Union, union_change, rows_of_ports, union_task, UnionFits, UnionsStand, UnionsTake}
use Rattle.emission_rules.proofs.laws.RowFacts.{along-each}
use Rattle.emission_rules.proofs.laws.RowReads.{all-take}
use Rattle.emission_rules.proofs.laws.Filters.{reads_retract, retracts_all}

-- ---- sums

total_none : (n : ℕ) → total n (λ i. 0) ≡ 0
total_none zero = refl
total_none (suc n) = omega (arith, total_none n)

total_plus : (n : ℕ) (f g : ℕ → ℕ) → total n (λ i. f i + g i) ≡ total n f + total n g
total_plus zero f g = refl
total_plus (suc n) f g = omega (arith, total_plus n f g)

total_first : (n : ℕ) (f : ℕ → ℕ) → total (suc n) f ≡ f 0 + total n (λ i. f (suc i))
total_first zero f = omega arith
total_first (suc n) f = omega (arith, total_first n f)

total_swap : (m n : ℕ) (f : ℕ → ℕ → ℕ) → total m (λ i. total n (f i)) ≡ total n (λ j. total m (λ i. f i j))
total_swap m zero f = total_none m
total_swap m (suc n) f = total_plus m (λ i. total n (f i)) (λ i. f i n) ∙ ap (λ k. k + total m (λ i. f i n)) (total_swap m n f)

total_some : (n : ℕ) (f : ℕ → ℕ) → 0 < total n f → (i : ℕ) × (i < n) × (0 < f i)
total_some zero f some = absurd (omega arith)
total_some (suc n) f some =
    elim (f n == 0) as (λ b. (f n == 0) ≡ b → (i : ℕ) × (i < suc n) × (0 < f i)) [
      | true ↦ λ e. let z = eqb-true (f n) 0 e in let rest = total_some n f (omega arith) in (rest.0, (let l = rest.1 in omega arith), rest.2)
      | false ↦ λ e. let z = eqb-false (f n) 0 e in (n, omega arith, omega arith)
    ] refl

-- one for each number below a bound
choose : {A : Type 0} (start : A) (P : ℕ → A → Type 0) (n : ℕ) → ((i : ℕ) → i < n → (a : A) × P i a) → (f : ℕ → A) × ((i : ℕ) → i < n → P i (f i))
choose start P zero h = (λ i. start, λ i l. absurd (omega arith))
choose start P (suc n) h =
    let rest = choose start P n (λ i l. h i (omega arith)) in
    let last = h n (omega arith) in (
      λ i. cond (i == n) last.0 (rest.0 i),
      λ i l. elim (i == n) as (λ b. (i == n) ≡ b → P i (cond b last.0 (rest.0 i))) [
        | true ↦ λ e. let is : n ≡ i = sym (eqb-true i n e) in subst (λ k. P k last.0) is last.1
        | false ↦ λ e. let apart = eqb-false i n e in rest.1 i (omega arith)
      ] refl,
    )

-- ---- all that came, and what came to each port

weigh-ports : (f : Change → ℕ) (n : ℕ) (history : List Arrival) → AllByRecursion (λ a. a.port < n) history → weigh f (changes_of history) ≡ total n (λ p. weigh f (at_port p history))
weigh-ports f n [] known = sym (total_none n)
weigh-ports f n (a ∷ others) known =
    let rest = weigh-ports f n others known.1 in
    let here = total_one n a.port (f a.change) known.0 in
    let split = total_plus n (λ p. cond (a.port == p) (f a.change) 0) (λ p. weigh f (at_port p others)) in
    let each : total n (λ p. weigh f (at_port p (a ∷ others))) ≡ total n (λ p. cond (a.port == p) (f a.change) 0 + weigh f (at_port p others)) =
    total-same n _ _ (λ p l. elim (a.port == p) as (λ b. weigh f (cond b (a.change ∷ at_port p others) (at_port p others)) ≡ cond b (f a.change) 0 + weigh f (at_port p others)) [ true ↦ refl | false ↦ omega arith ]) in
    omega arith

all_ports : (P : Change → Type 0) (n : ℕ) (history : List Arrival) → AllByRecursion (λ a. a.port < n) history → ((p : ℕ) → p < n → AllByRecursion P (at_port p history)) → AllByRecursion P (changes_of history)
all_ports P n [] known h = tt
all_ports P n (a ∷ others) known h = (
  (subst (AllByRecursion P) (ap (λ b. cond b (a.change ∷ at_port a.port others) (at_port a.port others)) (eq-eqb a.port a.port refl)) (h a.port known.0)).0,
  all_ports P n others known.1 (λ p l. behind (a.port == p) (at_port p others) (h p l)),
)
  where
    behind : (b : Bool) (xs : List Change) → AllByRecursion P (cond b (a.change ∷ xs) xs) → AllByRecursion P xs
    behind true xs g = g.1
    behind false xs g = g

changes_of-take : (n : ℕ) (history : List Arrival) → take n (changes_of history) ≡ changes_of (take n history)
changes_of-take zero history = refl
changes_of-take (suc n) [] = refl
changes_of-take (suc n) (a ∷ others) = ap (λ xs. a.change ∷ xs) (changes_of-take n others)

each-same : (changes : List Change) → each_change union_change changes ≡ Ok changes
each-same [] = refl
each-same (change ∷ changes) = ap (appended (Ok (change ∷ []))) (each-same changes)

copies-ports : (n : ℕ) (rows : ℕ → Rows) (row : Row) → copies (union_rows (rows_of_ports n rows)) row ≡ total n (λ p. copies (rows p) row)
copies-ports zero rows row = copies-none row_total row
copies-ports (suc n) rows row =
    copies-together row_total row_exact (rows 0) (union_rows (rows_of_ports n (λ p. rows (suc p)))) row
    ∙ ap (λ k. copies (rows 0) row + k) (copies-ports n (λ p. rows (suc p)) row)
    ∙ sym (total_first n (λ p. copies (rows p) row))

-- what came to the ports stands for these rows, so all that came stands for their union
ports_mean : (n : ℕ) (history : List Arrival) (rows : ℕ → Rows) → AllByRecursion (λ a. a.port < n) history → ((p : ℕ) → p < n → Means retract (at_port p history) (rows p))
    → Means retract (changes_of history) (union_rows (rows_of_ports n rows))
ports_mean n history rows known means row =
    let come = weigh-ports (addition row) n history known in
    let go = weigh-ports (removal row) n history known in
    let each : total n (λ p. additions row (at_port p history)) ≡ total n (λ p. removals row (at_port p history) + copies (rows p) row) = total-same n _ _ (λ p l. means p l row) in
    omega (arith, come, go, each, total_plus n (λ p. removals row (at_port p history)) (λ p. copies (rows p) row), copies-ports n rows row)

module _ (union : Union) (many : ℕ) (from : ℕ → Edge) (to : Edge) (fits : UnionFits union from to) where
  abbrev task : Task
  task = union_task union many from to

  came : (p : ℕ) → p < union.inputs → (changes : List Change) (rows : Rows) → ReadsAs (from p).meaning changes rows → Means retract changes rows
  came p l changes rows reads = subst (λ m. ReadsAs m changes rows) (fits.inputs p l).reads reads

  leaves : (changes : List Change) (rows : Rows) → Means retract changes rows → ReadsAs to.meaning changes rows
  leaves changes rows means = subst (λ m. ReadsAs m changes rows) (sym fits.writes) means

  sent_is : (j : ℕ) (pieces : List (List Arrival)) (sent : List Change) → Emitted task j pieces sent → sent ≡ changes_of (joined pieces)
  sent_is j pieces sent e =
      ok-same (changes_of (joined pieces)) sent
      (sym (each-same (changes_of (joined pieces)))
      ∙ sym (along-each union_change [] pieces)
      ∙ sym (appended-nothing (along (λ b piece. each_change union_change (changes_of piece)) [] pieces))
      ∙ e.emitted)

  all_sent : (P : Change → Type 0) (j : ℕ) (pieces : List (List Arrival)) (sent : List Change) → Emitted task j pieces sent → ((p : ℕ) → p < union.inputs → AllByRecursion P (at_port p (joined pieces))) → AllByRecursion P sent
  all_sent P j pieces sent e h = subst (AllByRecursion P) (sym (sent_is j pieces sent e)) (all_ports P union.inputs (joined pieces) e.ready.ports h)

  prefix : (j : ℕ) (pieces : List (List Arrival)) (sent : List Change) → Emitted task j pieces sent → (n : ℕ) → (rows : Rows) × ReadsAs to.meaning (take n sent) rows
  prefix j pieces sent e n =
      let each = choose none (λ p rows. Means retract (at_port p (take n (joined pieces))) rows) union.inputs (λ p l. let s = e.ready.valid p l n in (s.0, came p l _ s.0 s.1)) in
      let whole : Rows = union_rows (rows_of_ports union.inputs each.0) in (
        whole,
        leaves (take n sent) whole (subst (λ l. Means retract l whole) (sym (ap (take n) (sent_is j pieces sent e) ∙ changes_of-take n (joined pieces)))
            (ports_mean union.inputs (take n (joined pieces)) each.0 (all-take _ n (joined pieces) e.ready.ports) each.1)),
      )

  apart : (m : Meaning) → m ≡ bag → (sent : ℕ → List Change) → AreApartBy m many sent
  apart m is sent = subst (λ x. AreApartBy x many sent) (sym is) tt

  split_of : (p : ℕ) → p < union.inputs → (parts : ℕ → Rows) (whole : Rows) → IsSplitBy (from p).meaning (from p).exchange (from p).route many parts whole → (row : Row) → copies whole row ≡ total many (λ j. copies (parts j) row)
  split_of p l parts whole split =
      let s : IsSplitBy (from p).meaning forward (from p).route many parts whole = subst (λ x. IsSplitBy (from p).meaning x (from p).route many parts whole) (fits.inputs p l).forwards split in s

  pub union_facts : Facts task
  union_facts = record {
    folds_to_answer = λ j pieces sent e rows known. (
      union_rows (rows_of_ports union.inputs rows),
      refl,
      leaves sent (union_rows (rows_of_ports union.inputs rows))
          (subst (λ l. Means retract l (union_rows (rows_of_ports union.inputs rows))) (sym (sent_is j pieces sent e))
          (ports_mean union.inputs (joined pieces) rows e.ready.ports (λ p l. came p l _ (rows p) (known p l).0))),
    );
    prefixes_stand = prefix;
    kinds_stay = λ j pieces sent e.
        all_sent (λ change. has to.kinds change.kind ≡ true) j pieces sent e (λ p l. all-each _ _ (λ change k. (fits.inputs p l).kinds change.kind k) (at_port p (joined pieces)) (e.ready.kinds p l));
    types_stay = λ j pieces sent e.
        all_sent (λ change. to.fits change ≡ true) j pieces sent e (λ p l. all-each _ _ (λ change k. (fits.inputs p l).fits change k) (at_port p (joined pieces)) (e.ready.types p l));
    parts_add_up = λ parts whole answers split made. (
      union_rows (rows_of_ports union.inputs whole),
      refl,
      λ row.
          total-same many _ _ (λ j l.
          let one : Some (union_rows (rows_of_ports union.inputs (parts j))) ≡ Some (answers j) = made j l in
          ap (λ r. copies r row) (let is : answers j ≡ union_rows (rows_of_ports union.inputs (parts j)) = cc in is) ∙ copies-ports union.inputs (parts j) row)
          ∙ total_swap many union.inputs (λ j p. copies (parts j p) row)
          ∙ total-same union.inputs _ _ (λ p l. sym (split_of p l (λ j. parts j p) (whole p) (split p l) row))
          ∙ sym (copies-ports union.inputs whole row),
    );
    local_keys = λ j pieces sent e key has n rows reads. absurd (fits.local key has);
    fixing_sets = λ pieces sent all come set has. absurd (fits.fixing set has);
    after_only = λ pieces sent all come fixed. apart to.meaning fits.writes sent;
    answer_types = λ whole answer made settled row some.
        let one : Some (union_rows (rows_of_ports union.inputs whole)) ≡ Some answer = made in
        let is : copies answer row ≡ copies (union_rows (rows_of_ports union.inputs whole)) row = ap (λ r. copies r row) (let same : answer ≡ union_rows (rows_of_ports union.inputs whole) = cc in same) in
        let at = total_some union.inputs (λ p. copies (whole p) row) (omega (arith, is, copies-ports union.inputs whole row)) in
        (fits.inputs at.0 at.1).holds row ((settled at.0 at.1).types row at.2);
    unique_keys = λ whole answer made settled key has. absurd (fits.unique key has);
  }

pub unions_stand : UnionsStand
unions_stand union many from to fits = union_facts union many from to fits

pub unions_take : UnionsTake
unions_take union many from to fits = (
  refl,
  λ p l. record {
    reads = reads_retract (from p).meaning (fits.inputs p l).reads;
    kinds = λ kind h. retracts_all kind;
    fits = λ change h. refl;
    keyed = λ change h. tt;
  },
)
