-- What a merging group tells of a piece, group by group, and along a history: what the group in one phase would tell.
use Rattle.std.proofs.Common.{◌≡◌, ℕ, zero, suc, ◌+◌, ◌≤◌, ◌==◌, true, false, cond, ◌&&◌, ◌||◌, List, [], ◌∷◌, ◌++◌, map, length, take, None, Ok, refl, sym, ap, subst, ◌∙◌, arith, append_assoc, append-nil}
use Rattle.std.specs.Prelude.{ℤ, pos, unsigned_abs, ◌+ℤ◌, ◌<ℤ◌, ◌≤ℤ◌, drop, is_some, option_map}
use Rattle.std.specs.List.{list_any, AllByRecursion, IsDistinct}
use Rattle.std.specs.Cmp.{eq_by_cmp_equiv}
use Rattle.std.proofs.lemmas.Bool.{eqb-true, eq-eqb, and_parts, false≢true}
use Rattle.std.proofs.lemmas.Int.{ints}
use Rattle.std.proofs.lemmas.List.{map-append}
use Rattle.std.proofs.lemmas.List.Elements.{filter-append}
use Rattle.std.proofs.lemmas.Map.Keys.{IsDistinct-head, IsDistinct-tail}
use Rattle.ct_value.specs.Bag.{none}
use Rattle.ct_value.proofs.laws.Bags.{copies-none}
use Rattle.ct_value.specs.Order.{row_total, row_exact, number_of}
use Rattle.ct_value.specs.declared.row.Row.{Row}
use Rattle.ct_value.specs.declared.value.Value.{Value}
use Rattle.ct_field.specs.Typed.{cell}
use Rattle.ct_change.specs.declared.kind.KindSet.{KindSet}
use Rattle.ct_change.specs.declared.change.Change.{Change}
use Rattle.ct_change.specs.Changelog.{append, Rows, same_row}
use Rattle.ct_change.specs.Emission.{emission}
use Rattle.ct_change.specs.Kinds.{has_more_than_inserts}
use Rattle.ct_change.proofs.laws.Meanings.{same_row-true}
use Rattle.rel_algebra.specs.Aggregates.{sum_of}
use Rattle.rel_algebra.specs.Clauses.{Fits}
use Rattle.rel_algebra.specs.Sums.{Each}
use Rattle.rel_algebra.specs.GroupedCounts.{first_seen, in_group, group_size, AreWide}
use Rattle.rel_algebra.proofs.laws.Aggregates.{sum_of-none, sum_of-add}
use Rattle.rel_algebra.proofs.laws.Bags.{copies-each, restrict-none}
use Rattle.rel_algebra.proofs.laws.Results.{any-first_seen, distinct-first_seen, all-first_seen, group-wide, nothing_above}
use Rattle.agg_fns.specs.Partial.{column_of}
use Rattle.op_rules.specs.History.{Arrival, at_port, joined}
use Rattle.op_rules.specs.Partials.{Partials, StandFor}
use Rattle.op_rules.specs.Rules.{Answer, appended, along}
use Rattle.op_rules.specs.Values.{types_fit}
use Rattle.op_rules.proofs.laws.Histories.{at_port-append, all-append, all-front, all-back, all-each, appended-nothing, ok-same, both-appended}
use Rattle.op_rules.proofs.laws.Worths.{worth-none}
use Rattle.emission_rules.specs.Grouping.{Grouping, members, results, group_row, is_counted, groups_of, answers, IsSound}
use Rattle.emission_rules.proofs.laws.GroupAnswers.{shown_by, AreCounted, no_members}
use Rattle.emission_rules.proofs.laws.Members.{row_count-members}
use Rattle.emission_rules.proofs.laws.Pieces.{IsTold, one_group, in_range, all-any, counted_none, rows_wide}
use Rattle.emission_rules.proofs.laws.Turns.{Shown, nothing_shown, Turns, turns-append, shown_at, same_shown}
use Rattle.phase_rules.specs.LocalGrouping.{LocalGrouping, SumsUp, members_of, parts, partials_of}
use Rattle.phase_rules.specs.Merging.{Merging, in_one_phase, is_partial_row, amounts_in, merged, results_from, row_from, within_after, merge_answer, merge_emits}
use Rattle.phase_rules.proofs.laws.LocalSums.{no_members as no_changes, long_key}
use Rattle.phase_rules.proofs.laws.MergedRows.{row_after, counted_after, count_after}

-- ---- lists

front_taken : (xs ys : List Change) → take (length xs) (xs ++ ys) ≡ xs
front_taken [] ys = refl
front_taken (x ∷ xs) ys = ap (λ l. x ∷ l) (front_taken xs ys)

cell_behind : (n : ℕ) (row : List Value) → cell 0 (drop n row) ≡ cell n row
cell_behind zero row = refl
cell_behind (suc n) [] = refl
cell_behind (suc n) (x ∷ row) = cell_behind n row

amounts-append : (keys : ℕ) (key : Row) (xs ys : List Change) → amounts_in keys key (xs ++ ys) ≡ amounts_in keys key xs ++ amounts_in keys key ys
amounts-append keys key xs ys =
    ap (map (λ change. drop keys change.row)) (filter-append (λ change. in_group keys key change.row) xs ys)
    ∙ map-append (λ change. drop keys change.row) (members_of keys key xs) (members_of keys key ys)

-- ---- sums of numbers

abbrev first_sum : List (List Value) → ℤ
first_sum rows = sum_of (column_of 0 rows)

none_more : (s a : ℤ) → s ≡ pos 0 → a ≡ s +ℤ a
none_more s a e = omega (arith, ints)

one_more : (n a b c s t : ℤ) → s ≡ n +ℤ c → c ≡ a +ℤ b → t ≡ n +ℤ a → s ≡ t +ℤ b
one_more n a b c s t p q r = omega (arith, ints)

sums-append : (xs ys : List (List Value)) → first_sum (xs ++ ys) ≡ first_sum xs +ℤ first_sum ys
sums-append [] ys = none_more (sum_of none) (first_sum ys) sum_of-none
sums-append (x ∷ xs) ys =
    one_more (number_of (cell 0 x)) (first_sum xs) (first_sum ys) (first_sum (xs ++ ys)) (first_sum (x ∷ xs ++ ys)) (first_sum (x ∷ xs))
    (sum_of-add (column_of 0 (xs ++ ys)) (cell 0 x)) (sums-append xs ys) (sum_of-add (column_of 0 xs) (cell 0 x))

at_least_none : (s : ℤ) → s ≡ pos 0 → pos 0 ≤ℤ s
at_least_none s e = omega (arith, ints)

still_at_least : (n s t : ℤ) → t ≡ n +ℤ s → pos 0 <ℤ n → pos 0 ≤ℤ s → pos 0 ≤ℤ t
still_at_least n s t e p q = omega (arith, ints)

sum_at_least : (rows : List (List Value)) → AllByRecursion (λ row. pos 0 <ℤ number_of (cell 0 row)) rows → pos 0 ≤ℤ first_sum rows
sum_at_least [] h = at_least_none (sum_of none) sum_of-none
sum_at_least (x ∷ xs) h = still_at_least (number_of (cell 0 x)) (first_sum xs) (first_sum (x ∷ xs)) (sum_of-add (column_of 0 xs) (cell 0 x)) h.0 (sum_at_least xs h.1)

not_less : (a b : ℕ) (s t u : ℤ) → s ≡ pos a → u ≡ pos b → u ≡ s +ℤ t → pos 0 ≤ℤ t → a ≤ b
not_less a b s t u p q e h = omega (arith, ints)

module _ (m : Merging) (sums_up : SumsUp m.local) (sound : IsSound (in_one_phase m)) (Here : Row → Type 0) (kinds : KindSet) (inserts : m.local.input ≡ append → has_more_than_inserts kinds ≡ false) where
  abbrev l : LocalGrouping
  l = m.local

  abbrev g : Grouping
  g = in_one_phase m

  abbrev p : Partials
  p = partials_of m.local

  abbrev Told : Change → Type 0
  Told = IsTold g sound Here kinds

  -- a partial row that is taken: its group is here, and where rows only come it says that some have come
  pub record IsMerged (change : Change) : Type 0 where
    pub partial : is_partial_row l change.row ≡ true
    pub here : Here (take l.keys change.row)
    pub grows : has_more_than_inserts kinds ≡ false → pos 0 <ℤ number_of (cell l.keys change.row)

  abbrev AreWideChanges : List Change → Type 0
  AreWideChanges changes = AllByRecursion (λ change. l.keys ≤ length change.row) changes

  pub partial_wide : (row : Row) → is_partial_row l row ≡ true → l.keys ≤ length row
  partial_wide row e =
      let long = eqb-true (length row) (l.keys + length (parts l.aggs)) (and_parts (types_fit (take l.keys l.columns) (take l.keys row)) (length row == l.keys + length (parts l.aggs)) e).1 in
      omega (arith, long)

  wide_changes : (changes : List Change) → AllByRecursion IsMerged changes → AreWideChanges changes
  wide_changes changes taken = all-each IsMerged (λ change. l.keys ≤ length change.row) (λ change t. partial_wide change.row t.partial) changes taken

  -- ---- what is shown after partial rows

  abbrev after : List Change → Row → List Value
  after changes key = merged l.aggs (amounts_in l.keys key changes)

  abbrev pub shown_after : List Change → Shown
  shown_after changes = λ key. cond (length key == l.keys) (row_from l key (after changes key)) None

  abbrev pub AreCountedAfter : List Change → Type 0
  AreCountedAfter changes = (key : Row) → length key ≡ l.keys → is_some (results_from l.columns l.aggs (after changes key)) ≡ true

  module _ (changes : List Change) (taken : AllByRecursion IsMerged changes) (rows : Rows) (stand : StandFor p changes rows) where
    fits_rows : Each (Fits l.columns) rows
    fits_rows = copies-each row_total row_exact (Fits l.columns) rows stand.holds

    pub wide_rows : AreWide l.keys rows
    wide_rows = rows_wide g sound Here kinds rows fits_rows

    row_of_rows : (key : Row) → length key ≡ l.keys → row_from l key (after changes key) ≡ group_row g rows key
    row_of_rows key named = row_after m key named changes rows (wide_changes changes taken) wide_rows (stand.worth key) sums_up.have_partials sums_up.some_keys

    counted_of_rows : (key : Row) → length key ≡ l.keys → is_some (results_from l.columns l.aggs (after changes key)) ≡ is_counted g rows key
    counted_of_rows key named = counted_after m key named changes rows (wide_changes changes taken) wide_rows (stand.worth key) sums_up.have_partials

    size_of_rows : (key : Row) → length key ≡ l.keys → first_sum (amounts_in l.keys key changes) ≡ pos (group_size l.keys rows key)
    size_of_rows key named = count_after m key named changes rows (wide_changes changes taken) wide_rows (stand.worth key) ∙ ap pos (row_count-members g key rows)

    pub shown_of_rows : shown_after changes ≡ shown_by g rows
    shown_of_rows = same_shown l.keys _ _ (λ key.
        elim (length key == l.keys) as (λ b. (length key == l.keys) ≡ b → cond b (row_from l key (after changes key)) None ≡ cond b (group_row g rows key) None) [
          | true ↦ λ e. row_of_rows key (eqb-true (length key) l.keys e)
          | false ↦ λ e. refl
        ] refl)

    -- what isn't a group's key has no members
    no_group : (key : Row) → (length key == l.keys) ≡ false → is_counted g rows key ≡ true
    no_group key e =
        let size : group_size l.keys rows key ≡ 0 = nothing_above (group_size l.keys rows key) (λ some. false≢true (sym e ∙ eq-eqb (length key) l.keys (group-wide l.keys rows key wide_rows some))) in
        ap (λ r. is_some (results g r)) (no_members g (members g key rows) (row_count-members g key rows ∙ size)) ∙ counted_none l.columns l.aggs

    pub all_counted : AreCountedAfter changes → AreCounted g rows
    all_counted counted key =
        elim (length key == l.keys) as (λ b. (length key == l.keys) ≡ b → is_counted g rows key ≡ true) [
          | true ↦ λ e. let named = eqb-true (length key) l.keys e in sym (counted_of_rows key named) ∙ counted key named
          | false ↦ λ e. no_group key e
        ] refl

  -- what is known of what was told for partial rows
  pub record Stands (changes : List Change) (sent : List Change) : Type 0 where
    pub counted : AreCountedAfter changes
    pub turns : Turns l.keys m.output nothing_shown sent (shown_after changes)
    pub told : AllByRecursion Told sent

  -- ---- the groups of a piece, in turn

  module _ (before piece : List Change) (taken_before : AllByRecursion IsMerged before) (taken : AllByRecursion IsMerged piece)
      (rows new : Rows) (old : StandFor p before rows) (fresh : StandFor p (before ++ piece) new) where
    abbrev answer : Row → Answer
    answer key = merge_answer m key (amounts_in l.keys key before) (amounts_in l.keys key piece)

    taken_all : AllByRecursion IsMerged (before ++ piece)
    taken_all = all-append IsMerged before piece taken_before taken

    -- where rows only come, groups don't get smaller
    grows : has_more_than_inserts kinds ≡ false → (key : Row) → group_size l.keys rows key ≤ group_size l.keys new key
    grows none_goes key = go (group_size l.keys rows key) refl
      where
        positive : (changes : List Change) → AllByRecursion IsMerged changes → AllByRecursion (λ row. pos 0 <ℤ number_of (cell 0 row)) (amounts_in l.keys key changes)
        positive [] h = tt
        positive (x ∷ xs) h =
            elim (in_group l.keys key x.row) as (λ b. AllByRecursion (λ row. pos 0 <ℤ number_of (cell 0 row)) (map (λ change. drop l.keys change.row) (cond b (x ∷ members_of l.keys key xs) (members_of l.keys key xs)))) [
              | true ↦ (subst (λ v. pos 0 <ℤ number_of v) (sym (cell_behind l.keys x.row)) (h.0.grows none_goes), positive xs h.1)
              | false ↦ positive xs h.1
            ]

        go : (n : ℕ) → group_size l.keys rows key ≡ n → group_size l.keys rows key ≤ group_size l.keys new key
        go zero e = omega (arith, e)
        go (suc n) e =
            let named : length key ≡ l.keys = group-wide l.keys rows key (wide_rows before taken_before rows old) (omega (arith, e)) in
            not_less (group_size l.keys rows key) (group_size l.keys new key) (first_sum (amounts_in l.keys key before)) (first_sum (amounts_in l.keys key piece)) (first_sum (amounts_in l.keys key (before ++ piece)))
            (size_of_rows before taken_before rows old key named) (size_of_rows (before ++ piece) taken_all new fresh key named)
            (ap first_sum (amounts-append l.keys key before piece) ∙ sums-append (amounts_in l.keys key before) (amounts_in l.keys key piece)) (sum_at_least (amounts_in l.keys key piece) (positive piece taken))

    -- another row shown for each of these groups
    abbrev over : Shown → List Row → Shown
    over shown groups = λ key. cond (list_any (same_row key) groups) (group_row g new key) (shown key)

    -- a group that is still to be told
    abbrev IsNext : Shown → Row → Type 0
    IsNext shown key = (length key ≡ l.keys) × Here key × (shown key ≡ group_row g rows key)

    still_next : (shown : Shown) (key : Row) (groups : List Row) → AllByRecursion (λ other. same_row key other ≡ false) groups → AllByRecursion (IsNext shown) groups → AllByRecursion (IsNext (shown_at l.keys shown key (group_row g new key))) groups
    still_next shown key [] apart next = tt
    still_next shown key (other ∷ groups) apart next = (
      (next.0.0, next.0.1, ap (λ b. cond b (group_row g new key) (shown other)) ((eq_by_cmp_equiv row_total).symm other key ∙ apart.0) ∙ next.0.2),
      still_next shown key groups apart.1 next.1,
    )

    over-first : (shown : Shown) (key : Row) (groups : List Row) → over (shown_at l.keys shown key (group_row g new key)) groups ≡ over shown (key ∷ groups)
    over-first shown key groups = same_shown l.keys _ _ (λ other.
        elim (same_row other key) as (λ b. same_row other key ≡ b → cond (list_any (same_row other) groups) (group_row g new other) (cond b (group_row g new key) (shown other)) ≡ cond (b || list_any (same_row other) groups) (group_row g new other) (shown other)) [
          | true ↦ λ e. elim (list_any (same_row other) groups) as (λ b. cond b (group_row g new other) (group_row g new key) ≡ group_row g new other) [ true ↦ refl | false ↦ ap (group_row g new) (sym (same_row-true other key e)) ]
          | false ↦ λ e. refl
        ] refl)

    -- what is told of a group
    pub record ToldOf (key : Row) (sent : List Change) : Type 0 where
      pub counted : is_some (results_from l.columns l.aggs (after (before ++ piece) key)) ≡ true
      pub told : sent ≡ emission m.output (group_row g rows key) (group_row g new key)

    told_of : (key : Row) → length key ≡ l.keys → (sent : List Change) → answer key ≡ Ok sent → ToldOf key sent
    told_of key named sent ok =
        let earlier = amounts_in l.keys key before in
        let more = amounts_in l.keys key piece in
        let both : amounts_in l.keys key (before ++ piece) ≡ earlier ++ more = amounts-append l.keys key before piece in
        let ranged = in_range (within_after l earlier more && is_some (results_from l.columns l.aggs (merged l.aggs (earlier ++ more)))) (emission m.output (row_from l key (merged l.aggs earlier)) (row_from l key (merged l.aggs (earlier ++ more)))) sent key ok in
        let was : row_from l key (merged l.aggs earlier) ≡ group_row g rows key = row_of_rows before taken_before rows old key named in
        let is : row_from l key (merged l.aggs (earlier ++ more)) ≡ group_row g new key = ap (λ a. row_from l key (merged l.aggs a)) (sym both) ∙ row_of_rows (before ++ piece) taken_all new fresh key named in
        record {
          counted = ap (λ a. is_some (results_from l.columns l.aggs (merged l.aggs a))) both ∙ (and_parts (within_after l earlier more) (is_some (results_from l.columns l.aggs (merged l.aggs (earlier ++ more)))) ranged.0).1;
          told = ranged.1 ∙ (λ i. emission m.output (was i) (is i));
        }

    in_turn : (shown : Shown) (groups : List Row) (more : List Change) → IsDistinct same_row groups → AllByRecursion (IsNext shown) groups → answers answer groups ≡ Ok more
        → Turns l.keys m.output shown more (over shown groups) × AllByRecursion Told more × AllByRecursion (λ key. is_some (results_from l.columns l.aggs (after (before ++ piece) key)) ≡ true) groups
    in_turn shown [] more distinct next ok =
        let nothing : more ≡ [] = ok-same [] more ok in
        (subst (λ c. Turns l.keys m.output shown c (over shown [])) (sym nothing) refl, subst (AllByRecursion Told) (sym nothing) tt, tt)
    in_turn shown (key ∷ groups) more distinct next ok =
        let both = both-appended (answer key) (answers answer groups) more ok in
        let of = told_of key next.0.0 both.front both.is_front in
        let counted : is_counted g new key ≡ true = sym (counted_of_rows (before ++ piece) taken_all new fresh key next.0.0) ∙ of.counted in
        let one = one_group g sound Here kinds rows new (fits_rows before taken_before rows old) (fits_rows (before ++ piece) taken_all new fresh) grows (λ e. grows (inserts e)) key next.0.0 next.0.1 counted shown next.0.2 in
        let rest = in_turn (shown_at l.keys shown key (group_row g new key)) groups both.back (IsDistinct-tail same_row key groups distinct) (still_next shown key groups (IsDistinct-head same_row key groups distinct) next.1) both.is_back in (
          subst (λ c. Turns l.keys m.output shown c (over shown (key ∷ groups))) (sym both.whole)
              (turns-append l.keys m.output shown (shown_at l.keys shown key (group_row g new key)) (over shown (key ∷ groups)) both.front both.back
              (subst (λ c. Turns l.keys m.output shown c (shown_at l.keys shown key (group_row g new key))) (sym of.told) one.0)
              (subst (λ s. Turns l.keys m.output (shown_at l.keys shown key (group_row g new key)) both.back s) (over-first shown key groups) rest.0)),
          subst (AllByRecursion Told) (sym both.whole) (all-append Told both.front both.back (subst (AllByRecursion Told) (sym of.told) one.1) rest.1),
          (of.counted, rest.2),
        )

    -- ---- after one more piece

    abbrev groups : List Row
    groups = map (λ change. take l.keys change.row) piece

    -- groups of which no partial row came keep their sums
    quiet : (key : Row) → list_any (same_row key) (first_seen groups) ≡ false → amounts_in l.keys key (before ++ piece) ≡ amounts_in l.keys key before
    quiet key apart =
        amounts-append l.keys key before piece
        ∙ ap (λ xs. amounts_in l.keys key before ++ map (λ (change : Change). drop l.keys change.row) xs) (no_changes l.keys key piece (sym (any-first_seen key groups) ∙ apart))
        ∙ append-nil (amounts_in l.keys key before)

    all_next : AllByRecursion (IsNext (shown_by g rows)) groups
    all_next = go piece taken
      where
        go : (xs : List Change) → AllByRecursion IsMerged xs → AllByRecursion (IsNext (shown_by g rows)) (map (λ change. take l.keys change.row) xs)
        go [] h = tt
        go (change ∷ xs) h =
            let named = long_key l (take l.keys change.row) l.keys change.row (partial_wide change.row h.0.partial) in
            ((named, h.0.here, ap (λ b. cond b (group_row g rows (take l.keys change.row)) None) (eq-eqb (length (take l.keys change.row)) l.keys named)), go xs h.1)

    pub piece_stands : (sent more : List Change) → answers answer (groups_of l.keys piece) ≡ Ok more → Stands before sent → Stands (before ++ piece) (sent ++ more)
    piece_stands sent more ok stands =
        let next : AllByRecursion (IsNext (shown_by g rows)) (first_seen groups) = all-first_seen (IsNext (shown_by g rows)) groups all_next in
        let turn = in_turn (shown_by g rows) (first_seen groups) more (distinct-first_seen groups) next ok in
        let was : shown_after before ≡ shown_by g rows = shown_of_rows before taken_before rows old in
        let is : shown_after (before ++ piece) ≡ shown_by g new = shown_of_rows (before ++ piece) taken_all new fresh in
        record {
          counted = λ key named.
              elim (list_any (same_row key) (first_seen groups)) as (λ b. list_any (same_row key) (first_seen groups) ≡ b → is_some (results_from l.columns l.aggs (after (before ++ piece) key)) ≡ true) [
                | true ↦ λ e. all-any (λ k. is_some (results_from l.columns l.aggs (after (before ++ piece) k)) ≡ true) (first_seen groups) turn.2 key e
                | false ↦ λ e. ap (λ a. is_some (results_from l.columns l.aggs (merged l.aggs a))) (quiet key e) ∙ stands.counted key named
              ] refl;
          turns = turns-append l.keys m.output nothing_shown (shown_by g rows) (shown_after (before ++ piece)) sent more
              (subst (λ s. Turns l.keys m.output nothing_shown sent s) was stands.turns)
              (subst (λ s. Turns l.keys m.output (shown_by g rows) more s) (same_shown l.keys _ _ (λ key.
              elim (list_any (same_row key) (first_seen groups)) as (λ b. list_any (same_row key) (first_seen groups) ≡ b → cond b (group_row g new key) (shown_by g rows key) ≡ shown_after (before ++ piece) key) [
                | true ↦ λ e.
                    sym (ap (λ b. cond b (group_row g new key) None) (eq-eqb (length key) l.keys (all-any (IsNext (shown_by g rows)) (first_seen groups) next key e).0))
                    ∙ sym (ap (λ (s : Shown). s key) is)
                | false ↦ λ e.
                    sym (ap (λ (s : Shown). s key) was) ∙ sym (ap (λ a. cond (length key == l.keys) (row_from l key (merged l.aggs a)) None) (quiet key e))
              ] refl)) turn.0);
          told = all-append Told sent more stands.told turn.1;
        }

  -- ---- along a history

  module _ (whole : List Change) (taken : AllByRecursion IsMerged whole) (valid : (n : ℕ) → (rows : Rows) × StandFor p (take n whole) rows) where
    front : (xs ys : List Change) → whole ≡ xs ++ ys → (rows : Rows) × StandFor p xs rows
    front xs ys split =
        let s = valid (length xs) in
        (s.0, subst (λ zs. StandFor p zs s.0) (ap (take (length xs)) split ∙ front_taken xs ys) s.1)

    stands_along : (before : List Arrival) (pieces : List (List Arrival)) (sent more : List Change) → whole ≡ at_port 0 (before ++ joined pieces) → along (merge_emits m) before pieces ≡ Ok more
        → Stands (at_port 0 before) sent → Stands (at_port 0 (before ++ joined pieces)) (sent ++ more)
    stands_along before [] sent more e ok stands =
        subst (λ h. Stands (at_port 0 h) (sent ++ more)) (sym (append-nil before))
        (subst (Stands (at_port 0 before)) (sym (append-nil sent) ∙ ap (λ xs. sent ++ xs) (sym (ok-same [] more ok))) stands)
    stands_along before (piece ∷ pieces) sent more e ok stands =
        let both = both-appended (merge_emits m before piece) (along (merge_emits m) (before ++ piece) pieces) more ok in
        let was = at_port 0 before in
        let here = at_port 0 piece in
        let later = at_port 0 (joined pieces) in
        let split : whole ≡ was ++ (here ++ later) = e ∙ at_port-append 0 before (piece ++ joined pieces) ∙ ap (λ xs. was ++ xs) (at_port-append 0 piece (joined pieces)) in
        let all = subst (AllByRecursion IsMerged) split taken in
        let old = front was (here ++ later) split in
        let fresh = front (was ++ here) later (split ∙ sym (append_assoc was here later)) in
        let one = piece_stands was here (all-front IsMerged was (here ++ later) all) (all-front IsMerged here later (all-back IsMerged was (here ++ later) all)) old.0 fresh.0 old.1 fresh.1 sent both.front both.is_front stands in
        let rest = stands_along (before ++ piece) pieces (sent ++ both.front) both.back (e ∙ ap (at_port 0) (sym (append_assoc before piece (joined pieces)))) both.is_back
        (subst (λ xs. Stands xs (sent ++ both.front)) (sym (at_port-append 0 before piece)) one) in
        subst (λ h. Stands (at_port 0 h) (sent ++ more)) (append_assoc before piece (joined pieces))
        (subst (Stands (at_port 0 ((before ++ piece) ++ joined pieces))) (append_assoc sent both.front both.back ∙ ap (λ xs. sent ++ xs) (sym both.whole)) rest)

  -- ---- when the job opens

  none_stand : StandFor p [] none
  none_stand = record { holds = λ row there. absurd (let e = copies-none row_total row in omega (arith, e, there)); worth = λ key. sym (worth-none p key) }

  opened : Stands [] []
  opened = record {
    counted = λ key named.
        counted_of_rows [] tt none none_stand key named
        ∙ ap (λ r. is_some (results g r)) (restrict-none row_total row_exact (λ row. same_row key (take l.keys row))) ∙ counted_none l.columns l.aggs;
    turns = same_shown l.keys _ _ (λ key.
        elim (length key == l.keys) as (λ b. None ≡ cond b (row_from l key (after [] key)) None) [
          | true ↦ sym (ap (λ n. cond (unsigned_abs n == 0) None (option_map (λ values. key ++ values) (results_from l.columns l.aggs (after [] key)))) sum_of-none)
          | false ↦ refl
        ]);
    told = tt;
  }

  -- all that is told for what is taken
  pub stands_whole : (pieces : List (List Arrival)) (sent : List Change) → AllByRecursion IsMerged (at_port 0 (joined pieces)) → ((n : ℕ) → (rows : Rows) × StandFor p (take n (at_port 0 (joined pieces))) rows)
      → appended (Ok []) (along (merge_emits m) [] pieces) ≡ Ok sent → Stands (at_port 0 (joined pieces)) sent
  stands_whole pieces sent taken valid ok = stands_along (at_port 0 (joined pieces)) taken valid [] pieces [] sent refl (sym (appended-nothing (along (merge_emits m) [] pieces)) ∙ ok) opened
