-- The facts of a scan.
use Rattle.std.specs.Prelude.{◌≡◌, ℕ, ◌+◌, ◌<◌, ◌≤◌, ◌==◌, ◌&&◌, ◌||◌, not, Bool, cond, List, ◌++◌, length, Option}
use Rattle.std.proofs.Common.{zero, suc, true, false, [], ◌∷◌, refl, sym, ap, subst, ◌∙◌, arith, take, inl, inr, ◌⊎◌, Some, None, ⊎_elim}
use Rattle.std.specs.List.{AllByRecursion, filter, find}
use Rattle.std.proofs.lemmas.List.{append-nil, append_assoc, take_all}
use Rattle.std.proofs.lemmas.Bool.{eqb-true, eqb-false, false≢true}
use Rattle.ct_value.specs.Bag.{items, copies, none, add, remove, occurs, one_at}
use Rattle.ct_value.proofs.laws.Bags.{copies-none, copies-add, copies-remove, copies-occurs}
use Rattle.ct_value.specs.Order.{row_cmp, row_total, row_exact}
use Rattle.ct_value.specs.Rows.{project}
use Rattle.ct_value.specs.declared.row.Row.{Row}
use Rattle.ct_value.specs.declared.codes.ChangeCode.{ChangeCode}
use Rattle.ct_value.specs.declared.codes.ChangeCode.TheVariants.{KindNotDeclared, RowAbsent, KeyPresent}
use Rattle.ct_change.specs.declared.change.Change.{Change}
use Rattle.ct_change.specs.Changelog.{Mode, append, retract, upsert, Rows, same_row, adds, admits, row_at, apply, fold, MayCome, IsValidFrom, addition, removal, additions, last_shown, Means}
use Rattle.ct_change.proofs.laws.Folds.{fold-push, append_only}
use Rattle.ct_change.proofs.laws.Meanings.{means_fold}
use Rattle.op_rules.specs.Edges.{meaning_of, KeepsKeys, bag, IsPartial, ReadsAs, Edge, IsUnique, IsApart, AreApartBy, LiesIn}
use Rattle.op_rules.specs.Tasks.{IsFine}
use Rattle.stream_model.specs.KeysTold.{upsert_key}
use Rattle.stream_model.specs.Tables.{Table, scanned_at, kind_refusal, null_refusal, row_refusal, key_refusal_by, is_there, or_else, asked, refusal, AllTaken}
use Rattle.stream_model.specs.Network.{IsAnswered, scanned_by}
use Rattle.stream_model.specs.Scans.{IsKeyBy, IsKeyOf, CarriesTable, ScansStand}
use Rattle.op_rules.proofs.laws.LastRows.{added, last_unique}
use Rattle.stream_model.proofs.laws.KeysTold.{asked-added}
use Rattle.stream_model.proofs.Sums.{reach, take-filter, total-same, total_one, all-filter, all-weaker, filter_passes, cond_sum, cond_below}
use Rattle.op_rules.proofs.laws.Worths.{same-true, agree, agree_from, weigh-rows, about_addition, about_removal, restricted, copies-restricted}
use Rattle.stream_model.proofs.Exchange.{shown-filter, means_same, IsUnique-below}

-- ---- a change that isn't refused may come

or_none : (a b : Option ChangeCode) → or_else a b ≡ None → (a ≡ None) × (b ≡ None)
or_none None b e = (refl, e)
or_none (Some code) b e = absurd (cc)

passes : (q : Bool) (code : ChangeCode) → cond q None (Some code) ≡ None → q ≡ true
passes true code e = refl
passes false code e = absurd (cc)

fails : (q : Bool) (code : ChangeCode) → cond q (Some code) None ≡ None → q ≡ false
fails true code e = absurd (cc)
fails false code e = refl

pub record IsTaken (mode : Mode) (key : Option (List ℕ)) (rows : Rows) (change : Change) : Type 0 where
  pub kind : admits mode change.kind ≡ true
  pub row : row_refusal mode rows change ≡ None
  pub unseen : key_refusal_by mode key rows change ≡ None

is_taken : (t : Table) (rows : Rows) (change : Change) → refusal t rows change ≡ None → IsTaken t.mode t.key rows change
is_taken t rows change e =
    let a = or_none (kind_refusal t.mode change) _ e in
    let b = or_none (null_refusal (asked t change) change.row) _ a.1 in
    let c = or_none (row_refusal t.mode rows change) (key_refusal_by t.mode t.key rows change) b.1 in
    record { kind = passes (admits t.mode change.kind) KindNotDeclared a.0; row = c.0; unseen = c.1 }

some_copy : (n : ℕ) → not (n == 0) ≡ true → 0 < n
some_copy zero e = absurd (false≢true e)
some_copy (suc n) e = omega arith

may_come : (mode : Mode) (key : Option (List ℕ)) (rows : Rows) (change : Change) → IsTaken mode key rows change → MayCome mode rows change
may_come append key rows change t = t.kind
may_come retract key rows change t = λ e.
    let q = passes (adds change.kind || not (copies rows change.row == 0)) RowAbsent t.row in
    some_copy (copies rows change.row) (subst (λ b. (b || not (copies rows change.row == 0)) ≡ true) e q)
may_come (upsert columns) key rows change t = t.kind

valid_taken : (t : Table) (before changes : List Change) → AllTaken t before changes → IsValidFrom t.mode (fold t.mode before) changes
valid_taken t before [] h = tt
valid_taken t before (change ∷ changes) h = (
  may_come t.mode t.key (fold t.mode before) change (is_taken t (fold t.mode before) change h.0),
  subst (λ rows. IsValidFrom t.mode rows changes) (fold-push t.mode before change) (valid_taken t (before ++ change ∷ []) changes h.1),
)

taken-take : (t : Table) (before : List Change) (n : ℕ) (changes : List Change) → AllTaken t before changes → AllTaken t before (take n changes)
taken-take t before zero changes h = tt
taken-take t before (suc n) [] h = tt
taken-take t before (suc n) (change ∷ changes) h = (h.0, taken-take t (before ++ change ∷ []) n changes h.1)

-- ---- keys

-- no row with the key stands where none is found
find-none : (p : Row → Bool) (xs : List Row) (other : Row) → find p xs ≡ None → p other ≡ true → occurs row_cmp other xs ≡ 0
find-none p [] other e h = refl
find-none p (x ∷ xs) other e h =
    elim (p x) as (λ b. p x ≡ b → cond b (Some x) (find p xs) ≡ None → one_at row_cmp other x + occurs row_cmp other xs ≡ 0) [
      | true ↦ λ q f. absurd (cc)
      | false ↦ λ q f.
          elim (same_row other x) as (λ b. same_row other x ≡ b → cond b 1 0 + occurs row_cmp other xs ≡ 0) [
            | true ↦ λ s. absurd (false≢true (sym q ∙ (ap p (sym (same-true other x s)) ∙ h)))
            | false ↦ λ s. let rest = find-none p xs other f h in omega arith
          ] refl
    ] refl e

is_none : (o : Option Row) → is_there o ≡ false → o ≡ None
is_none None e = refl
is_none (Some row) e = absurd (false≢true (sym e))

none_stands : (rows : Rows) (key : List ℕ) (row other : Row) → is_there (row_at rows key row) ≡ false → project key row ≡ project key other → copies rows other ≡ 0
none_stands rows key row other e same =
    copies-occurs rows other ∙ find-none (λ r. same_row (project key row) (project key r)) (items rows) other (is_none (row_at rows key row) e) (agree_from key row other same)

none_unique : (key : List ℕ) → IsUnique key (copies {R = row_cmp} none)
none_unique key a b e x y = absurd (let z = copies-none row_total a in omega arith)

added_unique : (key : List ℕ) (rows : Rows) (row : Row) → IsUnique key (copies rows) → is_there (row_at rows key row) ≡ false → IsUnique key (copies (add rows row))
added_unique key rows row u e a b same x y =
    let free : (other : Row) → project key row ≡ project key other → copies rows other ≡ 0 = λ other q. none_stands rows key row other e q in
    let ca = copies-add row_total rows row a in
    let cb = copies-add row_total rows row b in
    elim (same_row a row) as (λ s. same_row a row ≡ s → copies (add rows row) a ≡ cond s 1 0 + copies rows a → (a ≡ b) × (copies (add rows row) a ≤ 1)) [
      | true ↦ λ s c.
          let is : a ≡ row = same-true a row s in
          let none_a = free a (ap (project key) (sym is)) in (
            elim (same_row b row) as (λ s. same_row b row ≡ s → copies (add rows row) b ≡ cond s 1 0 + copies rows b → a ≡ b) [
              | true ↦ λ s2 c2. is ∙ sym (same-true b row s2)
              | false ↦ λ s2 c2. absurd (let none_b = free b (ap (project key) (sym is) ∙ same) in omega arith)
            ] refl cb,
            omega arith,
          )
      | false ↦ λ s c.
          elim (same_row b row) as (λ s. same_row b row ≡ s → copies (add rows row) b ≡ cond s 1 0 + copies rows b → (a ≡ b) × (copies (add rows row) a ≤ 1)) [
            | true ↦ λ s2 c2. absurd (let none_a = free a (ap (project key) (sym (same-true b row s2)) ∙ sym same) in omega arith)
            | false ↦ λ s2 c2. let old = u a b same (omega arith) (omega arith) in (old.0, omega (arith, old.1))
          ] refl cb
    ] refl ca

abbrev IsLast : Mode → Type 0
IsLast append = ⊥
IsLast retract = ⊥
IsLast (upsert columns) = Unit {0}

unique_apply : (mode : Mode) (key : List ℕ) (declared : Option (List ℕ)) (rows : Rows) (change : Change) → IsKeyBy mode declared key → IsTaken mode declared rows change → IsUnique key (copies rows) → IsUnique key (copies (apply mode rows change)) ⊎ IsLast mode
unique_apply append key declared rows change is t u =
    let free : key_refusal_by append (Some key) rows change ≡ None = subst (λ d. key_refusal_by append d rows change ≡ None) is t.unseen in
    let q = fails (adds change.kind && is_there (row_at rows key change.row)) KeyPresent free in
    inl (added_unique key rows change.row u (subst (λ b. (b && is_there (row_at rows key change.row)) ≡ false) (append_only change.kind t.kind) q))
unique_apply retract key declared rows change is t u =
    let free : key_refusal_by retract (Some key) rows change ≡ None = subst (λ d. key_refusal_by retract d rows change ≡ None) is t.unseen in
    let q = fails (adds change.kind && is_there (row_at rows key change.row)) KeyPresent free in
    inl (elim (adds change.kind) as (λ b. adds change.kind ≡ b → (b && is_there (row_at rows key change.row)) ≡ false → IsUnique key (copies (cond b (add rows change.row) (remove rows change.row)))) [
      | true ↦ λ e f. added_unique key rows change.row u f
      | false ↦ λ e f. IsUnique-below key _ (copies rows) (λ row. let c = copies-remove row_total row_exact rows change.row row (may_come retract declared rows change t e) in omega arith) u
    ] refl q)
unique_apply (upsert columns) key declared rows change is t u = inr tt

-- the key of a table that isn't of last rows holds at each moment
unique_fold : (t : Table) (key : List ℕ) (whole : IsLast t.mode → ⊥) → IsKeyOf t key → (before changes : List Change) → AllTaken t before changes → IsUnique key (copies (fold t.mode before)) → IsUnique key (copies (fold t.mode (before ++ changes)))
unique_fold t key whole is before [] h u = subst (λ l. IsUnique key (copies (fold t.mode l))) (sym (append-nil before)) u
unique_fold t key whole is before (change ∷ changes) h u =
    let next : IsUnique key (copies (fold t.mode (before ++ change ∷ []))) =
    subst (λ rows. IsUnique key (copies rows)) (sym (fold-push t.mode before change))
    (⊎_elim (λ q. q) (λ z. absurd (whole z)) (unique_apply t.mode key t.key (fold t.mode before) change is (is_taken t (fold t.mode before) change h.0) u)) in
    subst (λ l. IsUnique key (copies (fold t.mode l))) (append_assoc before (change ∷ []) changes) (unique_fold t key whole is (before ++ change ∷ []) changes h.1 next)

-- ---- last rows

-- what is said of each row that is added holds of a row that stands
added_row : (Q : Row → Type 0) (row : Row) (changes : List Change) → AllByRecursion (λ c. adds c.kind ≡ true → Q c.row) changes → 0 < additions row changes → Q row
added_row Q row [] h l = absurd (omega arith)
added_row Q row (change ∷ changes) h l =
    elim (addition row change == 0) as (λ b. (addition row change == 0) ≡ b → Q row) [
      | true ↦ λ e. added_row Q row changes h.1 (let z = eqb-true (addition row change) 0 e in omega arith)
      | false ↦ λ e. let is = added row change (let z = eqb-false (addition row change) 0 e in omega arith) in subst Q (sym is.1) (h.0 is.0)
    ] refl

shown_row : (key : List ℕ) (Q : Row → Type 0) (row : Row) (x : ℕ) (changes : List Change) → AllByRecursion (λ c. adds c.kind ≡ true → Q c.row) changes → 0 < last_shown key row x changes → (0 < x → Q row) → Q row
shown_row key Q row x [] h l z = z l
shown_row key Q row x (change ∷ changes) h l z =
    shown_row key Q row (cond (agree key change.row row) (addition row change) x) changes h.1 l
    (elim (agree key change.row row) as (λ b. 0 < cond b (addition row change) x → Q row) [
      | true ↦ λ p. let is = added row change p in subst Q (sym is.1) (h.0 is.0)
      | false ↦ z
    ])

-- ---- what goes to one subtask

-- what of a table's changes goes to a subtask means what of its rows goes there
bag_part : (spread : List ℕ) (route : Row → ℕ) (i : ℕ) (changes : List Change) (rows : Rows) → ReadsAs bag changes rows → ReadsAs bag (filter (λ c. route (project spread c.row) == i) changes) (restricted (λ row. route (project spread row) == i) rows)
bag_part spread route i changes rows means row =
    let q : Bool = route (project spread row) == i in
    let c = cond_sum q _ _ _ (means row) in
    omega (
      arith,
      c,
      copies-restricted (λ row. route (project spread row) == i) rows row,
      weigh-rows (λ x. x.row) row (addition row) (about_addition row) (λ row. route (project spread row) == i) changes,
      weigh-rows (λ x. x.row) row (removal row) (about_removal row) (λ row. route (project spread row) == i) changes,
    )

reads_part : (mode : Mode) (spread : List ℕ) (route : Row → ℕ) → KeepsKeys mode spread → (i : ℕ) (changes : List Change) (rows : Rows) → Means mode changes rows
    → ReadsAs (meaning_of mode) (filter (λ c. route (project spread c.row) == i) changes) (restricted (λ row. route (project spread row) == i) rows)
reads_part append spread route keeps i changes rows means = bag_part spread route i changes rows means
reads_part retract spread route keeps i changes rows means = bag_part spread route i changes rows means
reads_part (upsert key) spread route keeps i changes rows means = λ row.
    copies-restricted (λ row. route (project spread row) == i) rows row
    ∙ (ap (λ n. cond (route (project spread row) == i) n 0) (means row)
    ∙ sym (shown-filter key row (λ r. route (project spread r) == i) (λ b q. ap (λ k. route k == i) (keeps b row q)) 0 changes))

module _ (table : Table) (taken : List Change) (all : AllTaken table [] taken) where
  means_front : (n : ℕ) → Means table.mode (take n taken) (fold table.mode (take n taken))
  means_front n = means_fold table.mode (take n taken) (valid_taken table [] (take n taken) (taken-take table [] n taken all))

  means_whole : Means table.mode taken (fold table.mode taken)
  means_whole = means_fold table.mode taken (valid_taken table [] taken all)

  key_front : (key : List ℕ) → IsKeyOf table key → (n : ℕ) → IsUnique key (copies (fold table.mode (take n taken)))
  key_front key is n = by_mode table.mode (λ _. is) refl
    where
      by_mode : (mode : Mode) → (Unit {0} → IsKeyOf table key) → table.mode ≡ mode → IsUnique key (copies (fold table.mode (take n taken)))
      by_mode append is e = unique_fold table key (λ z. subst IsLast e z) (is tt) [] (take n taken) (taken-take table [] n taken all) (none_unique key)
      by_mode retract is e = unique_fold table key (λ z. subst IsLast e z) (is tt) [] (take n taken) (taken-take table [] n taken all) (none_unique key)
      by_mode (upsert columns) is e =
          let own : columns ≡ key = subst (λ m. IsKeyBy m table.key key) e (is tt) in
          subst (λ k. IsUnique k (copies (fold table.mode (take n taken)))) own
          (last_unique columns (take n taken) (fold table.mode (take n taken)) (subst (λ m. Means m (take n taken) (fold table.mode (take n taken))) e (means_front n)))

  key_whole : (key : List ℕ) → IsKeyOf table key → IsUnique key (copies (fold table.mode taken))
  key_whole key is = subst (λ l. IsUnique key (copies (fold table.mode l))) (take_all (length taken) taken (omega arith)) (key_front key is (length taken))

kinds_taken : (t : Table) (before changes : List Change) → AllTaken t before changes → AllByRecursion (λ c. admits t.mode c.kind ≡ true) changes
kinds_taken t before [] h = tt
kinds_taken t before (change ∷ changes) h = ((is_taken t (fold t.mode before) change h.0).kind, kinds_taken t (before ++ change ∷ []) changes h.1)

-- NULL stands nowhere that the table refuses it
no_null : (t : Table) (rows : Rows) (change : Change) → refusal t rows change ≡ None → null_refusal (asked t change) change.row ≡ None
no_null t rows change e = (or_none (null_refusal (asked t change) change.row) _ (or_none (kind_refusal t.mode change) _ e).1).0

-- a change is of a kind that the table takes, fits the table, and has no NULL where it is refused
pub record IsWhole (t : Table) (change : Change) : Type 0 where
  pub kind : admits t.mode change.kind ≡ true
  pub fits : t.fits change ≡ true
  pub known : null_refusal (asked t change) change.row ≡ None

-- of a row that comes, NULL is asked for in each column in which it may not stand
known-added : (t : Table) (change : Change) → IsWhole t change → adds change.kind ≡ true → null_refusal t.required change.row ≡ None
known-added t change whole a = subst (λ columns. null_refusal columns change.row ≡ None) (asked-added t.required (upsert_key t.mode) change.kind a) whole.known

whole_taken : (t : Table) (before changes : List Change) → AllTaken t before changes → AllByRecursion (λ c. t.fits c ≡ true) changes → AllByRecursion (IsWhole t) changes
whole_taken t before [] h typed = tt
whole_taken t before (change ∷ changes) h typed =
    (record { kind = (is_taken t (fold t.mode before) change h.0).kind; fits = typed.0; known = no_null t (fold t.mode before) change h.0 }, whole_taken t (before ++ change ∷ []) changes h.1 typed.1)

no_partial : (mode : Mode) → IsPartial (meaning_of mode) → ⊥
no_partial append z = z
no_partial retract z = z
no_partial (upsert key) z = z

-- what is said of each row that is added holds of each row that stands
stands_row : (mode : Mode) (Q : Row → Type 0) (changes : List Change) (rows : Rows) → Means mode changes rows → AllByRecursion (λ c. adds c.kind ≡ true → Q c.row) changes → (row : Row) → 0 < copies rows row → Q row
stands_row append Q changes rows means h row p = added_row Q row changes h (omega (arith, means row))
stands_row retract Q changes rows means h row p = added_row Q row changes h (omega (arith, means row))
stands_row (upsert key) Q changes rows means h row p = shown_row key Q row 0 changes h (omega (arith, means row)) (λ z. absurd (omega arith))

module _ (many : ℕ) (table : Table) (edge : Edge) (carries : CarriesTable many table edge) (taken : List Change) (all : AllTaken table [] taken) (typed : AllByRecursion (λ c. table.fits c ≡ true) taken) where
  wholes : AllByRecursion (IsWhole table) taken
  wholes = whole_taken table [] taken all typed

  abbrev goes_to : ℕ → Row → Bool
  goes_to i row = table.route (project table.spread row) == i

  -- how far into what was taken for the first n changes of a subtask
  abbrev so_far : ℕ → ℕ → ℕ
  so_far i n = reach (λ c. scanned_at table c == i) n taken

  part_front : (i n : ℕ) → ReadsAs edge.meaning (take n (scanned_by table taken i)) (restricted (goes_to i) (fold table.mode (take (so_far i n) taken)))
  part_front i n =
      subst (λ m. ReadsAs m (take n (scanned_by table taken i)) (restricted (goes_to i) (fold table.mode (take (so_far i n) taken)))) (sym carries.meaning)
      (subst (λ l. ReadsAs (meaning_of table.mode) l (restricted (goes_to i) (fold table.mode (take (so_far i n) taken)))) (sym (take-filter (λ c. scanned_at table c == i) n taken))
      (reads_part table.mode table.spread table.route carries.spread i (take (so_far i n) taken) (fold table.mode (take (so_far i n) taken)) (means_front table taken all (so_far i n))))

  part_whole : (i : ℕ) → ReadsAs edge.meaning (scanned_by table taken i) (restricted (goes_to i) (fold table.mode taken))
  part_whole i =
      subst (λ m. ReadsAs m (scanned_by table taken i) (restricted (goes_to i) (fold table.mode taken))) (sym carries.meaning)
      (reads_part table.mode table.spread table.route carries.spread i taken (fold table.mode taken) (means_whole table taken all))

  part_apart : (columns : List ℕ) → LiesIn table.spread columns → IsApart columns many (scanned_by table taken)
  part_apart columns lies i j il jl =
      all-weaker _ _ (λ a e. all-weaker _ _ (λ b f q. sym (eqb-true (scanned_at table a) i e) ∙ (ap table.route (lies a.row b.row q) ∙ eqb-true (scanned_at table b) j f))
      (scanned_by table taken j) (filter_passes (λ c. scanned_at table c == j) taken)) (scanned_by table taken i) (filter_passes (λ c. scanned_at table c == i) taken)

  apart_by : (mode : Mode) → KeepsKeys mode table.spread → AreApartBy (meaning_of mode) many (scanned_by table taken)
  apart_by append keeps = tt
  apart_by retract keeps = tt
  apart_by (upsert key) keeps = part_apart key keeps

  scan_fine : IsFine many edge (scanned_by table taken)
  scan_fine = record {
    valid = λ i il n. (restricted (goes_to i) (fold table.mode (take (so_far i n) taken)), part_front i n);
    apart = subst (λ m. AreApartBy m many (scanned_by table taken)) (sym carries.meaning) (apart_by table.mode carries.spread);
    kinds = λ i il. all-filter _ _ taken (all-weaker _ _ (λ c e. carries.kinds c.kind e) taken (kinds_taken table [] taken all));
    types = λ i il. all-filter _ _ taken (all-weaker (IsWhole table) _ (λ c e. carries.fits c e.kind e.fits e.known) taken wholes);
    keys = λ key c i il n rows reads.
        ⊎_elim
        (λ same. IsUnique-below key (copies rows) (copies (fold table.mode (take (so_far i n) taken)))
        (λ row. omega (arith, same row, copies-restricted (goes_to i) (fold table.mode (take (so_far i n) taken)) row, cond_below (goes_to i row) (copies (fold table.mode (take (so_far i n) taken)) row)))
        (key_front table taken all key (carries.local key c) (so_far i n)))
        (λ z. absurd (no_partial table.mode (subst IsPartial carries.meaning z)))
        (means_same edge.meaning (take n (scanned_by table taken i)) rows (restricted (goes_to i) (fold table.mode (take (so_far i n) taken))) reads (part_front i n));
    fixed = λ columns c. part_apart columns (carries.fixing columns c);
  }

  scan_answers : IsAnswered many edge (scanned_by table taken) (fold table.mode taken)
  scan_answers = record {
    rows = λ i. restricted (goes_to i) (fold table.mode taken);
    stands = λ i il. part_whole i;
    together = λ row. total-same many _ _ (λ i il. copies-restricted (goes_to i) (fold table.mode taken) row) ∙ total_one many (table.route (project table.spread row)) (copies (fold table.mode taken) row) (carries.routed (project table.spread row));
    settled = record {
      keys = λ key. ⊎_elim
          (λ c. key_whole table taken all key (carries.unique key c))
          (λ o. λ a b e. key_whole table taken all o.local (carries.local o.local o.is_local) a b (o.has_local a b e));
      types = stands_row table.mode (λ row. edge.holds row ≡ true) taken (fold table.mode taken) (means_whole table taken all) (all-weaker (IsWhole table) _ (λ c e a. carries.holds c e.fits (known-added table c e a) a) taken wholes);
    };
  }

pub scans_stand : ScansStand
scans_stand many table edge carries = record {
  fine = λ taken all typed. scan_fine many table edge carries taken all typed;
  answers = λ taken all typed. scan_answers many table edge carries taken all typed;
}
