-- A merging group meets the facts of nodes.
use Rattle.std.proofs.Common.{◌≡◌, ℕ, ◌<◌, ◌≤◌, ◌==◌, true, false, cond, not, ◌||◌, List, [], ◌∷◌, length, take, Some, refl, sym, ap, subst, ◌∙◌, arith, inl, inr, ◌⊎◌}
use Rattle.std.specs.List.{Contains, AllByRecursion}
use Rattle.std.proofs.lemmas.Bool.{false≢true, ne_eqb}
use Rattle.ct_value.specs.Bag.{none, copies}
use Rattle.ct_value.specs.Rows.{project}
use Rattle.ct_value.specs.declared.row.Row.{Row}
use Rattle.ct_change.specs.declared.kind.Kind.{Kind}
use Rattle.ct_change.specs.declared.kind.Kind.TheVariants.{UB, UA, D}
use Rattle.ct_change.specs.declared.change.Change.{Change}
use Rattle.ct_change.specs.Changelog.{Mode, append, retract, upsert, Rows, has, admits}
use Rattle.ct_change.specs.Kinds.{has_more_than_inserts}
use Rattle.op_rules.specs.History.{Arrival, at_port, joined}
use Rattle.op_rules.specs.Edges.{partials, meaning_of, ReadsAs, hash, Edge, IsRoutedBy, IsUnique, IsApart, AreApartBy, HoldsOver}
use Rattle.op_rules.specs.Partials.{Partials, StandFor}
use Rattle.op_rules.specs.Ports.{IsReadIn}
use Rattle.op_rules.specs.Tasks.{Task, IsSettled, IsSplit, IsSplitBy, Emitted, AllEmitted, Facts, LocalKeysHold}
use Rattle.op_rules.proofs.laws.Histories.{prefix_at, all-each}
use Rattle.column_sets.specs.Places.{first_columns}
use Rattle.emission_rules.specs.GroupFits.{batch, part, GroupFits}
use Rattle.emission_rules.specs.Grouping.{Grouping, TellsGroups, IsSound}
use Rattle.emission_rules.proofs.laws.Columns.{project-first}
use Rattle.emission_rules.proofs.laws.GroupAnswers.{shown_by, AreCounted, answer_shown, counted_answer}
use Rattle.emission_rules.proofs.laws.GroupFacts.{names, key_of, long, unique_shown, group_stands}
use Rattle.emission_rules.proofs.laws.Pieces.{IsTold}
use Rattle.emission_rules.proofs.laws.Turns.{Shown, nothing_shown, Turns, turns_read, prefix_shown, prefix_stands}
use Rattle.phase_rules.specs.LocalGrouping.{LocalGrouping, partials_of}
use Rattle.phase_rules.specs.Merging.{Merging, in_one_phase}
use Rattle.phase_rules.specs.MergeFits.{merge_task, MergeFits, MergingGroupsStand, MergingGroupsTake}
use Rattle.phase_rules.proofs.laws.MergedPieces.{IsMerged, partial_wide, shown_after, shown_of_rows, all_counted, wide_rows, Stands, stands_whole}

module _ (many : ℕ) (m : Merging) (raw from to : Edge) (fits : MergeFits many m raw from to) where
  abbrev task : Task
  task = merge_task many m from to

  abbrev l : LocalGrouping
  l = m.local

  abbrev g : Grouping
  g = in_one_phase m

  abbrev p : Partials
  p = partials_of m.local

  abbrev sound : IsSound (in_one_phase m)
  sound = fits.group.sound

  -- the groups of a subtask
  abbrev Here : ℕ → Row → Type 0
  Here j key = from.route key ≡ j

  -- without an update of a row of the input it carries insertions alone
  inserts : m.local.input ≡ append → has_more_than_inserts raw.kinds ≡ false
  inserts e = ap (λ b. b || (raw.kinds.ua || raw.kinds.d)) (never UB refl) ∙ ap (λ b. b || raw.kinds.d) (never UA refl) ∙ never D refl
    where
      never : (kind : Kind) → admits append kind ≡ false → has raw.kinds kind ≡ false
      never kind refused = elim (has raw.kinds kind) as (λ b. has raw.kinds kind ≡ b → b ≡ false) [
        | true ↦ λ h. absurd (false≢true (sym refused ∙ subst (λ mode. admits mode kind ≡ true) e (fits.group.kinds kind h)))
        | false ↦ λ h. refl
      ] refl

  keyed : (l.keys == 0) ≡ false
  keyed = ne_eqb l.keys 0 (λ e. let some = fits.sums_up.some_keys in omega (arith, some, e))

  -- ---- what was taken and told

  abbrev IsTaken : ℕ → Change → Type 0
  IsTaken j = IsMerged m fits.sums_up sound (Here j) raw.kinds inserts

  abbrev Told : ℕ → Change → Type 0
  Told j = IsTold g sound (Here j) raw.kinds

  module _ (j : ℕ) (pieces : List (List Arrival)) (sent : List Change) (e : Emitted task j pieces sent) where
    abbrev took : List Change
    took = at_port 0 (joined pieces)

    placed : AllByRecursion (λ change. from.route (project (first_columns l.keys) change.row) ≡ j) took
    placed = subst (λ x. IsRoutedBy x from.route j took) fits.hashed (e.ready.placed 0 (omega arith))

    taken : AllByRecursion (IsTaken j) took
    taken = go took (e.ready.types 0 (omega arith)) placed
      where
        go : (xs : List Change) → AllByRecursion (λ change. from.fits change ≡ true) xs → AllByRecursion (λ change. from.route (project (first_columns l.keys) change.row) ≡ j) xs → AllByRecursion (IsTaken j) xs
        go [] f q = tt
        go (change ∷ xs) f q =
            let partial = fits.fits change f.0 in
            let wide = partial_wide m fits.sums_up sound (Here j) raw.kinds inserts change.row partial in
            (record { partial = partial; here = ap from.route (sym (project-first l.keys change.row wide)) ∙ q.0; grows = λ none_goes. fits.grows none_goes change f.0 }, go xs f.1 q.1)

    valid : (n : ℕ) → (rows : Rows) × StandFor p (take n took) rows
    valid n =
        let at = prefix_at 0 n (joined pieces) in
        let stands = e.ready.valid 0 (omega arith) at.0 in
        (stands.0, subst (λ meaning. ReadsAs meaning (take n took) stands.0) fits.reads (subst (λ xs. ReadsAs from.meaning xs stands.0) at.1 stands.1))

    known : Stands m fits.sums_up sound (Here j) raw.kinds inserts took sent
    known = stands_whole m fits.sums_up sound (Here j) raw.kinds inserts pieces sent taken valid e.emitted

    abbrev last : Shown
    last = shown_after m fits.sums_up sound (Here j) raw.kinds inserts took

    folds : (rows : ℕ → Rows) → ReadsAs from.meaning took (rows 0) → (answer : Rows) × (part g j rows ≡ Some answer) × ReadsAs to.meaning sent answer
    folds rows reads =
        let stand : StandFor p took (rows 0) = subst (λ meaning. ReadsAs meaning took (rows 0)) fits.reads reads in
        let counted : AreCounted g (rows 0) = all_counted m fits.sums_up sound (Here j) raw.kinds inserts took taken (rows 0) stand known.counted in
        let answer = counted_answer g (rows 0) counted in
        let shown = answer_shown g (rows 0) answer.0 (wide_rows m fits.sums_up sound (Here j) raw.kinds inserts took taken (rows 0) stand) answer.1 in
        let turns : Turns g.keys g.output nothing_shown sent (shown_by g (rows 0)) =
        subst (λ s. Turns g.keys g.output nothing_shown sent s) (shown_of_rows m fits.sums_up sound (Here j) raw.kinds inserts took taken (rows 0) stand) known.turns in (
          answer.0,
          ap (λ b. cond (not b || (j == 0)) (batch g rows) (Some none)) keyed ∙ answer.1,
          subst (λ meaning. ReadsAs meaning sent answer.0) (sym fits.group.writes)
              (turns_read g.keys g.output (names many g raw to fits.group g.output sound.tells) (shown_by g (rows 0)) sent turns answer.0 shown),
        )

    prefixes : (n : ℕ) → (rows : Rows) × ReadsAs to.meaning (take n sent) rows
    prefixes n =
        let rows = prefix_stands g.keys g.output last sent known.turns n in
        (rows.0, subst (λ meaning. ReadsAs meaning (take n sent) rows.0) (sym fits.group.writes) rows.1)

  -- ---- keys

  local_keys : LocalKeysHold task
  local_keys j pieces sent e key has_key n rows reads =
      let at = prefix_shown g.keys g.output (names many g raw to fits.group g.output sound.tells) (last j pieces sent e) sent (known j pieces sent e).turns n rows (subst (λ meaning. ReadsAs meaning (take n sent) rows) fits.group.writes reads) in
      unique_shown many g raw to fits.group at.0 at.1 rows at.2 key (fits.group.local key has_key)

  -- rows of one group leave one subtask
  groups_apart : (pieces : ℕ → List (List Arrival)) (sent : ℕ → List Change) → AllEmitted task pieces sent
      → (columns : List ℕ) → ((a b : Row) → g.keys ≤ length a → g.keys ≤ length b → project columns a ≡ project columns b → take g.keys a ≡ take g.keys b) → IsApart columns many sent
  groups_apart pieces sent all columns agree i j il jl =
      all-each _ _ (λ a ta. all-each _ _ (λ b tb same. sym ta.here ∙ (ap from.route (agree a.row b.row (long many g raw to fits.group a.row ta.named) (long many g raw to fits.group b.row tb.named) same) ∙ tb.here))
      (sent j) (known j (pieces j) (sent j) (all j jl)).told) (sent i) (known i (pieces i) (sent i) (all i il)).told

  after_only : (mode : Mode) → TellsGroups g mode → (pieces : ℕ → List (List Arrival)) (sent : ℕ → List Change) → AllEmitted task pieces sent → AreApartBy (meaning_of mode) many sent
  after_only append tells pieces sent all = tt
  after_only retract tells pieces sent all = tt
  after_only (upsert key) tells pieces sent all = groups_apart pieces sent all key (λ a b wide_a wide_b same. (tells a b wide_a wide_b).0 same)

  -- ---- answers are those of one phase

  -- the edge of one phase, of which no keys are asked
  abbrev plain : Edge
  plain = record { meaning = raw.meaning; exchange = raw.exchange; route = raw.route; kinds = raw.kinds; fits = raw.fits; holds = raw.holds; unique = []; local = []; fixing = [] }

  plain_fits : GroupFits many g plain to
  plain_fits = let f = fits.group in record {
    sound = f.sound;
    reads = f.reads;
    hashed = f.hashed;
    routed = f.routed;
    home = f.home;
    kinds = f.kinds;
    fits = f.fits;
    keyed = f.keyed;
    holds = f.holds;
    writes = f.writes;
    out_kinds = f.out_kinds;
    out_fits = f.out_fits;
    out_holds = f.out_holds;
    unique = f.unique;
    local = f.local;
    fixing = f.fixing;
  }

  settled_plain : (rows : Rows) → IsSettled from rows → IsSettled plain rows
  settled_plain rows settled = record { keys = none_known; types = λ row there. fits.holds row (settled.types row there) }
    where
      nothing_in : (key : List ℕ) → Contains {X = List ℕ} [] key → ⊥
      nothing_in key c = let few = c.1 in omega (arith, few)

      none_known : (key : List ℕ) → Contains plain.unique key ⊎ HoldsOver plain key → IsUnique key (copies rows)
      none_known key (inl c) = absurd (nothing_in key c)
      none_known key (inr h) = absurd (nothing_in h.local h.is_local)

  -- partial rows go where the rows of their group would go
  split_plain : (parts : ℕ → Rows) (whole : Rows) → IsSplit many from parts whole → IsSplit many plain parts whole
  split_plain parts whole split =
      let as_hash : IsSplitBy from.meaning (hash (first_columns l.keys)) from.route many parts whole = subst (λ x. IsSplitBy from.meaning x from.route many parts whole) fits.hashed split in
      let as_partials : IsSplitBy (partials p) (hash (first_columns l.keys)) from.route many parts whole = subst (λ meaning. IsSplitBy meaning (hash (first_columns l.keys)) from.route many parts whole) fits.reads as_hash in
      subst (λ x. IsSplitBy raw.meaning x raw.route many parts whole) (sym fits.group.hashed)
      (subst (λ meaning. IsSplitBy meaning (hash (first_columns l.keys)) raw.route many parts whole) (sym fits.group.reads)
      (in_mode g.input (λ j jl row. as_partials j jl row ∙ ap (λ n. cond (n == j) (copies whole row) 0) (fits.routes (project (first_columns l.keys) row)))))
    where
      in_mode : (mode : Mode) → ((j : ℕ) → j < many → (row : Row) → copies (parts j) row ≡ cond (raw.route (project (first_columns l.keys) row) == j) (copies whole row) 0) → IsSplitBy (meaning_of mode) (hash (first_columns l.keys)) raw.route many parts whole
      in_mode append s = s
      in_mode retract s = s
      in_mode (upsert key) s = s

  pub merge_stands : Facts task
  merge_stands = let in_one = group_stands many g plain to plain_fits in record {
    folds_to_answer = λ j pieces sent e rows reads. folds j pieces sent e rows (reads 0 (omega arith)).0;
    prefixes_stand = prefixes;
    kinds_stay = λ j pieces sent e. all-each (Told j) (λ change. has to.kinds change.kind ≡ true) (λ change t. fits.group.out_kinds change.kind t.kind) sent (known j pieces sent e).told;
    types_stay = λ j pieces sent e. all-each (Told j) (λ change. to.fits change ≡ true) (λ change t. subst (λ row. to.fits (record { kind = change.kind; row = row }) ≡ true) (sym t.tells) (fits.group.out_fits change.kind t.whole t.fits)) sent (known j pieces sent e).told;
    parts_add_up = λ parts whole answers split made. in_one.parts_add_up parts whole answers (λ port within. split_plain (λ j. parts j port) (whole port) (split port within)) made;
    local_keys = local_keys;
    fixing_sets = λ pieces sent all come set has_set. groups_apart pieces sent all set (λ a b wide_a wide_b same. sym (key_of many g raw to fits.group a wide_a) ∙ (fits.group.fixing set has_set a b same ∙ key_of many g raw to fits.group b wide_b));
    after_only = λ pieces sent all come fixed. subst (λ meaning. AreApartBy meaning many sent) (sym fits.group.writes) (after_only g.output sound.tells pieces sent all);
    answer_types = λ whole answer e settled. in_one.answer_types whole answer e (λ port within. settled_plain (whole port) (settled port within));
    unique_keys = λ whole answer e settled. in_one.unique_keys whole answer e (λ port within. settled_plain (whole port) (settled port within));
  }

pub merging_groups_stand : MergingGroupsStand
merging_groups_stand many m raw from to fits = merge_stands many m raw from to fits

pub merging_groups_take : MergingGroupsTake
merging_groups_take many m raw from to fits = (
  refl,
  λ port within. record {
    reads = subst (λ meaning. IsReadIn meaning append) (sym fits.reads) tt;
    kinds = λ kind h. subst (λ k. admits append k ≡ true) (sym (fits.comes kind h)) refl;
    fits = fits.fits;
    keyed = λ change f. tt;
  },
)
