-- A local group whose calls count or choose stays in range, and its partial rows sum up no more changes than a piece has.
use Rattle.std.proofs.Common.{◌≡◌, ℕ, ◌+◌, ◌≤◌, Bool, true, false, cond, not, List, [], ◌∷◌, ◌++◌, length, map, take, drop, Option, refl, sym, ap, subst, ◌∙◌, arith}
use Rattle.std.specs.Prelude.{ℤ, pos, filter}
use Rattle.std.specs.List.{AllByRecursion, list_all}
use Rattle.std.proofs.lemmas.Bool.{and_parts}
use Rattle.std.proofs.lemmas.Int.{ints}
use Rattle.ct_value.specs.Bag.{bag_of, items}
use Rattle.ct_value.specs.declared.row.Row.{Row}
use Rattle.ct_value.specs.declared.value.Value.{Value}
use Rattle.ct_field.specs.Typed.{cell}
use Rattle.ct_change.specs.declared.kind.Kind.TheVariants.{I}
use Rattle.ct_change.specs.declared.change.Change.{Change}
use Rattle.ct_change.specs.Changelog.{Rows, adds}
use Rattle.rel_algebra.specs.declared.agg.Agg.{Agg}
use Rattle.rel_algebra.specs.declared.agg.AggCall.{AggCall}
use Rattle.rel_algebra.specs.declared.agg.AggCall.TheVariants.{CountAll, Count, CountDistinct, Sum, Min, Max, Avg}
use Rattle.rel_algebra.specs.Aggregates.{Values, size, known, values_of}
use Rattle.rel_algebra.specs.GroupedCounts.{in_group}
use Rattle.rel_algebra.specs.Sums.{Each}
use Rattle.rel_algebra.proofs.laws.Results.{all-first_seen}
use Rattle.agg_fns.specs.Partial.{net, partial_of, partial_fits}
use Rattle.agg_fns.specs.Reading.{Part, parts_by, adds_to_sum}
use Rattle.op_rules.specs.History.{Arrival, at_port}
use Rattle.op_rules.proofs.laws.Histories.{all-each}
use Rattle.op_rules.specs.Values.{types_fit}
use Rattle.emission_rules.specs.Grouping.{groups_of, row_count}
use Rattle.phase_rules.specs.LocalGrouping.{LocalGrouping, SumsUp, amounts, amounts_fit, are_silent, fit_after, local_answer, local_rule, members_of, partial_row, partials_of_calls, parts, parts_of_calls, rows_come, rows_gone}
use Rattle.phase_rules.proofs.laws.LocalSums.{rows_by, added, taken_away, behind, all_members, named_groups}
use Rattle.phase_rules.proofs.laws.LocalTold.{wide_of}
use Rattle.range_rules.specs.Tame.{is_short, only_counts}
use Rattle.range_rules.specs.Ranges.{IsShortRow, IsShort, IsAnswerOf, IsUpTo, AreUpTo, IsShortPart, ComesShort, LocalGroupsStayInRange}
use Rattle.range_rules.proofs.laws.Folds.{AreShort, none_short, more_short, add_short}
use Rattle.range_rules.proofs.laws.Counts.{known_few, first_short, last_short, known_short, values_short}
use Rattle.range_rules.proofs.laws.Answers.{all_if, at_port_all, at_port_few, both_short}
use Rattle.range_rules.proofs.laws.Groups.{answer_if, both_true, groups_all, keys_short}

-- ---- what adds at most so much

pub up_to_more : (n m : ℕ) (z : ℤ) → n ≤ m → IsUpTo n z → IsUpTo m z
up_to_more n m z l h = let a = h.low in let b = h.high in record { low = omega (arith, ints); high = omega (arith, ints) }

pub are_up_to_more : (n m : ℕ) → n ≤ m → (ps : List Part) (values : List Value) → AreUpTo n ps values → AreUpTo m ps values
are_up_to_more n m l [] values h = tt
are_up_to_more n m l (p ∷ ps) values h = (up_to_more n m (adds_to_sum p (cell 0 values)) l h.0, are_up_to_more n m l ps (drop 1 values) h.1)

pub nothing_added : (n : ℕ) → IsUpTo n (pos 0)
nothing_added n = record { low = omega (arith, ints); high = omega (arith, ints) }

-- as many more come than go
net_up_to : (come gone a b : ℕ) → come ≤ a → gone ≤ b → IsUpTo (a + b) (net come gone)
net_up_to come gone a b h k = record { low = omega (arith, ints); high = omega (arith, ints) }

-- ---- bags of rows

bag_short : (rows : List Row) → AllByRecursion IsShortRow rows → AreShort (length rows) (bag_of rows)
bag_short [] h = none_short
bag_short (row ∷ rows) h = more_short (length rows + 1) (length (row ∷ rows)) (bag_of (row ∷ rows)) (omega arith) (add_short (length rows) (bag_of rows) row h.0 (bag_short rows h.1))

rows_short : (test : Change → Bool) (changes : List Change) → AllByRecursion IsShort changes → AllByRecursion IsShortRow (rows_by test changes)
rows_short test [] h = tt
rows_short test (x ∷ xs) h =
    elim (test x) as (λ b. AllByRecursion IsShortRow (map (λ (change : Change). change.row) (cond b (x ∷ filter test xs) (filter test xs)))) [ true ↦ (h.0, rows_short test xs h.1) | false ↦ rows_short test xs h.1 ]

-- each change comes or goes
come_or_go : (changes : List Change) → length (rows_by added changes) + length (rows_by taken_away changes) ≡ length changes
come_or_go [] = refl
come_or_go (x ∷ xs) =
    elim (adds x.kind) as (λ b. length (map (λ (change : Change). change.row) (cond b (x ∷ filter added xs) (filter added xs))) + length (map (λ (change : Change). change.row) (cond (not b) (x ∷ filter taken_away xs) (filter taken_away xs))) ≡ length (x ∷ xs)) [
      | true ↦ omega (arith, come_or_go xs)
      | false ↦ omega (arith, come_or_go xs)
    ]

members_few : (keys : ℕ) (key : Row) (changes : List Change) → length (members_of keys key changes) ≤ length changes
members_few keys key [] = omega arith
members_few keys key (x ∷ xs) =
    elim (in_group keys key x.row) as (λ b. length (cond b (x ∷ members_of keys key xs) (members_of keys key xs)) ≤ length (x ∷ xs)) [
      | true ↦ omega (arith, members_few keys key xs)
      | false ↦ omega (arith, members_few keys key xs)
    ]

-- ---- one call

abbrev IsShortValue : Value → Type 0
IsShortValue value = is_short value ≡ true

fits : (call : AggCall) (come gone : Values) → only_counts call ≡ true → partial_fits call come gone ≡ true
fits CountAll come gone t = refl
fits Count come gone t = refl
fits CountDistinct come gone t = refl
fits Sum come gone t = absurd (cc)
fits Min come gone t = refl
fits Max come gone t = refl
fits Avg come gone t = absurd (cc)

one_short : (call : AggCall) (come gone : Values) → only_counts call ≡ true → Each IsShortValue come → (others : List Value) → IsShortRow others → IsShortRow (partial_of call come gone ++ others)
one_short CountAll come gone t h others k = (refl, k)
one_short Count come gone t h others k = (refl, k)
one_short CountDistinct come gone t h others k = k
one_short Sum come gone t h others k = absurd (cc)
one_short Min come gone t h others k = (first_short (items (known come)) (known_short come h), k)
one_short Max come gone t h others k = (last_short (items (known come)) (known_short come h), k)
one_short Avg come gone t h others k = absurd (cc)

one_adds : (a b : ℕ) (call : AggCall) (come gone : Values) → only_counts call ≡ true → size come ≤ a → size gone ≤ b → (ps : List Part) (others : List Value) → AreUpTo (a + b) ps others
    → AreUpTo (a + b) (parts_by call ++ ps) (partial_of call come gone ++ others)
one_adds a b CountAll come gone t m n ps others h = (net_up_to (size come) (size gone) a b m n, h)
one_adds a b Count come gone t m n ps others h =
    let c = known_few come in
    let g = known_few gone in
    (net_up_to (size (known come)) (size (known gone)) a b (omega (arith, c, m)) (omega (arith, g, n)), h)
one_adds a b CountDistinct come gone t m n ps others h = h
one_adds a b Sum come gone t m n ps others h = absurd (cc)
one_adds a b Min come gone t m n ps others h = (nothing_added (a + b), h)
one_adds a b Max come gone t m n ps others h = (nothing_added (a + b), h)
one_adds a b Avg come gone t m n ps others h = absurd (cc)

-- ---- all calls

module _ (a b : ℕ) (come gone : Rows) (h : AreShort a come) (k : AreShort b gone) where
  calls_fit : (aggs : List Agg) → list_all (λ agg. only_counts agg.call) aggs ≡ true → amounts_fit aggs come gone ≡ true
  calls_fit [] t = refl
  calls_fit (agg ∷ aggs) t =
      let p = and_parts _ _ t in
      both_true (partial_fits agg.call (values_of agg come) (values_of agg gone)) _ (fits agg.call (values_of agg come) (values_of agg gone) p.0) (calls_fit aggs p.1)

  calls_short : (aggs : List Agg) → list_all (λ agg. only_counts agg.call) aggs ≡ true → IsShortRow (partials_of_calls aggs come gone)
  calls_short [] t = tt
  calls_short (agg ∷ aggs) t =
      let p = and_parts _ _ t in
      one_short agg.call (values_of agg come) (values_of agg gone) p.0 (values_short a agg come h).0 (partials_of_calls aggs come gone) (calls_short aggs p.1)

  calls_add : (aggs : List Agg) → list_all (λ agg. only_counts agg.call) aggs ≡ true → AreUpTo (a + b) (parts_of_calls aggs) (partials_of_calls aggs come gone)
  calls_add [] t = tt
  calls_add (agg ∷ aggs) t =
      let p = and_parts _ _ t in
      one_adds a b agg.call (values_of agg come) (values_of agg gone) p.0 (values_short a agg come h).1 (values_short b agg gone k).1 (parts_of_calls aggs) (partials_of_calls aggs come gone) (calls_add aggs p.1)

  amounts_add : (aggs : List Agg) → list_all (λ agg. only_counts agg.call) aggs ≡ true → AreUpTo (a + b) (parts aggs) (amounts aggs come gone)
  amounts_add aggs t = (net_up_to (row_count come) (row_count gone) a b h.few k.few, calls_add aggs t)

-- ---- a group

module _ (l : LocalGrouping) (tame : list_all (λ agg. only_counts agg.call) l.aggs ≡ true) where
  come_short : (changes : List Change) → AllByRecursion IsShort changes → AreShort (length (rows_by added changes)) (rows_come changes)
  come_short changes h = bag_short (rows_by added changes) (rows_short added changes h)

  gone_short : (changes : List Change) → AllByRecursion IsShort changes → AreShort (length (rows_by taken_away changes)) (rows_gone changes)
  gone_short changes h = bag_short (rows_by taken_away changes) (rows_short taken_away changes h)

  fit_always : (earlier changes : List Change) → fit_after l.aggs earlier changes ≡ true
  fit_always earlier [] = refl
  fit_always earlier (x ∷ xs) = both_true (amounts_fit l.aggs (rows_come (earlier ++ x ∷ [])) (rows_gone (earlier ++ x ∷ []))) _ (go l.aggs tame) (fit_always (earlier ++ x ∷ []) xs)
    where
      go : (aggs : List Agg) → list_all (λ agg. only_counts agg.call) aggs ≡ true → amounts_fit aggs (rows_come (earlier ++ x ∷ [])) (rows_gone (earlier ++ x ∷ [])) ≡ true
      go [] t = refl
      go (agg ∷ aggs) t =
          let p = and_parts _ _ t in
          both_true (partial_fits agg.call (values_of agg (rows_come (earlier ++ x ∷ []))) (values_of agg (rows_gone (earlier ++ x ∷ [])))) _ (fits agg.call _ _ p.0) (go aggs p.1)

  module _ (most : ℕ) (key : Row) (named : IsShortRow key) (long : length key ≡ l.keys) (changes : List Change) (short : AllByRecursion IsShort changes) (few : length changes ≤ most) where
    abbrev values : List Value
    values = amounts l.aggs (rows_come changes) (rows_gone changes)

    values_add : AreUpTo most (parts l.aggs) values
    values_add =
        are_up_to_more (length (rows_by added changes) + length (rows_by taken_away changes)) most (omega (arith, come_or_go changes, few)) (parts l.aggs) values
        (amounts_add (length (rows_by added changes)) (length (rows_by taken_away changes)) (rows_come changes) (rows_gone changes) (come_short changes short) (gone_short changes short) l.aggs tame)

    values_are_short : IsShortRow values
    values_are_short =
        (refl, calls_short (length (rows_by added changes)) (length (rows_by taken_away changes)) (rows_come changes) (rows_gone changes) (come_short changes short) (gone_short changes short) l.aggs tame)

    part_short : IsShortPart most l (record { kind = I; row = partial_row l.aggs key changes })
    part_short = record {
      short = both_short key values named values_are_short;
      adds = subst (λ vs. AreUpTo most (parts l.aggs) vs) (sym (ap (λ n. drop n (key ++ values)) (sym long) ∙ behind key values)) values_add;
    }

    group_short : IsAnswerOf (IsShortPart most l) (local_answer l.aggs key changes)
    group_short =
        answer_if (IsShortPart most l) (fit_after l.aggs [] changes) _ key (fit_always [] changes)
        (all_if (IsShortPart most l) (are_silent l.aggs (rows_come changes) (rows_gone changes)) [] (record { kind = I; row = partial_row l.aggs key changes } ∷ []) tt (part_short, tt))

-- ---- a piece

all_both : {A : Type 0} (P Q : A → Type 0) (xs : List A) → AllByRecursion P xs → AllByRecursion Q xs → AllByRecursion (λ x. P x × Q x) xs
all_both P Q [] h k = tt
all_both P Q (x ∷ xs) h k = ((h.0, k.0), all_both P Q xs h.1 k.1)

module _ (l : LocalGrouping) (sums_up : SumsUp l) (tame : list_all (λ agg. only_counts agg.call) l.aggs ≡ true) (most limit : ℕ) (partial : Option LocalGrouping) where
  abbrev Comes : Arrival → Type 0
  Comes = ComesShort most partial (local_rule l)

  piece_short : (piece : List Arrival) → AllByRecursion Comes piece → length piece ≤ most → IsAnswerOf (IsShortPart most l) ((local_rule l).emits [] piece)
  piece_short piece comes few =
      let changes = at_port 0 piece in
      let short : AllByRecursion IsShort changes = at_port_all IsShort 0 piece (all-each Comes (λ a. a.port ≡ 0 → IsShort a.change) (λ a h e. h.short) piece comes) in
      let typed : AllByRecursion (λ change. types_fit l.columns change.row ≡ true) changes =
      at_port_all (λ change. types_fit l.columns change.row ≡ true) 0 piece (all-each Comes (λ a. a.port ≡ 0 → types_fit l.columns a.change.row ≡ true) (λ a h e. h.fits) piece comes) in
      groups_all (IsShortPart most l) (λ key. local_answer l.aggs key (members_of l.keys key changes)) (λ key. IsShortRow key × (length key ≡ l.keys))
      (λ key h.
      let m = members_few l.keys key changes in
      let f = at_port_few 0 piece in
      group_short l tame most key h.0 h.1 (members_of l.keys key changes) (all_members IsShort l.keys key changes short) (omega (arith, m, f, few)))
      (groups_of l.keys changes)
      (all_both IsShortRow (λ key. length key ≡ l.keys) (groups_of l.keys changes)
      (all-first_seen IsShortRow (map (λ change. take l.keys change.row) changes) (keys_short l.keys changes short)) (named_groups l [] changes (wide_of l sums_up changes typed)))

pub local_groups_stay : LocalGroupsStayInRange
local_groups_stay l sums_up tame most limit partial = record {
  opens = λ subtask. tt;
  answers = λ before piece h k few within. piece_short l sums_up tame most limit partial piece k few;
}
