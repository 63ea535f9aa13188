-- The partial rows that a local group sends for a piece are worth, group by group, what the piece's rows come are, less what those gone are.
use Rattle.std.proofs.Common.{◌≡◌, ℕ, zero, suc, ◌≤◌, Bool, true, false, cond, not, ◌||◌, List, [], ◌∷◌, ◌++◌, length, map, take, Ok, Err, refl, sym, ap, subst, ◌∙◌, arith, inl, inr, ◌⊎◌}
use Rattle.std.specs.Prelude.{drop, filter}
use Rattle.std.specs.List.{list_any, AllByRecursion, IsDistinct}
use Rattle.std.specs.Cmp.{eq_by_cmp_equiv}
use Rattle.std.proofs.lemmas.List.{map-append}
use Rattle.std.proofs.lemmas.List.Elements.{filter-append}
use Rattle.std.proofs.lemmas.Map.Keys.{IsDistinct-head, IsDistinct-tail}
use Rattle.ct_value.specs.Bag.{bag_of}
use Rattle.ct_value.specs.Order.{row_total}
use Rattle.ct_value.specs.Rows.{project}
use Rattle.ct_value.specs.declared.row.Row.{Row}
use Rattle.ct_change.specs.declared.kind.Kind.TheVariants.{I}
use Rattle.ct_change.specs.declared.change.Change.{Change}
use Rattle.ct_change.specs.Changelog.{same_row, adds}
use Rattle.ct_change.proofs.laws.Meanings.{same_row-true}
use Rattle.rel_algebra.specs.GroupedCounts.{first_seen, in_group}
use Rattle.rel_algebra.proofs.laws.Results.{any-first_seen, distinct-first_seen}
use Rattle.agg_fns.specs.Partial.{is_signed}
use Rattle.op_rules.specs.History.{Arrival, at_port, joined}
use Rattle.op_rules.specs.Partials.{Worth, nothing, plus, Partials, sum_of, worth_in}
use Rattle.op_rules.specs.Rules.{Answer, along}
use Rattle.op_rules.proofs.laws.Histories.{at_port-append, both-appended, ok-same, all-front, all-back}
use Rattle.op_rules.proofs.laws.Worths.{plus_nothing, plus_comm, plus_assoc, nothing_plus, worth-append}
use Rattle.column_sets.specs.Places.{first_columns}
use Rattle.emission_rules.specs.Grouping.{answers, groups_of}
use Rattle.phase_rules.specs.LocalGrouping.{LocalGrouping, amounts, parts, worth_of_values, are_silent, fit_after, rows_come, rows_gone, members_of, partial_row, told_of, local_answer, local_emits, partials_of}
use Rattle.emission_rules.proofs.laws.Columns.{project-first}
use Rattle.phase_rules.proofs.laws.LocalWorths.{blank_worth, together_worth, worth_rows_come, worth_rows_go, worth_none}

-- ---- lists

pub front_of : (key rest : Row) → take (length key) (key ++ rest) ≡ key
front_of [] rest = refl
front_of (x ∷ key) rest = ap (λ r. x ∷ r) (front_of key rest)

pub behind : (key rest : Row) → drop (length key) (key ++ rest) ≡ rest
behind [] rest = refl
behind (x ∷ key) rest = behind key rest

pub longer : (key rest : Row) → length key ≤ length (key ++ rest)
longer [] rest = omega arith
longer (x ∷ key) rest = let e = longer key rest in omega (arith, e)

pub turned : (a b : Row) → same_row a b ≡ same_row b a
turned a b = (eq_by_cmp_equiv row_total).symm a b

-- the rows of the changes that pass a test
abbrev pub rows_by : (Change → Bool) → List Change → List Row
rows_by test changes = map (λ change. change.row) (filter test changes)

abbrev pub added : Change → Bool
added change = adds change.kind

abbrev pub taken_away : Change → Bool
taken_away change = not (adds change.kind)

rows_by-append : (test : Change → Bool) (xs ys : List Change) → rows_by test (xs ++ ys) ≡ rows_by test xs ++ rows_by test ys
rows_by-append test xs ys = ap (map (λ change. change.row)) (filter-append test xs ys) ∙ map-append (λ change. change.row) (filter test xs) (filter test ys)

pub nothing_goes : (changes : List Change) → AllByRecursion (λ change. adds change.kind ≡ true) changes → rows_by taken_away changes ≡ []
nothing_goes [] h = refl
nothing_goes (x ∷ xs) h = ap (λ b. map (λ change. change.row) (cond (not b) (x ∷ filter taken_away xs) (filter taken_away xs))) h.0 ∙ nothing_goes xs h.1

pub all_members : (P : Change → Type 0) (keys : ℕ) (key : Row) (changes : List Change) → AllByRecursion P changes → AllByRecursion P (members_of keys key changes)
all_members P keys key [] h = tt
all_members P keys key (x ∷ xs) h =
    elim (in_group keys key x.row) as (λ b. AllByRecursion P (cond b (x ∷ members_of keys key xs) (members_of keys key xs))) [ true ↦ (h.0, all_members P keys key xs h.1) | false ↦ all_members P keys key xs h.1 ]

-- a group of which nothing came has no changes
pub no_members : (keys : ℕ) (key : Row) (changes : List Change) → list_any (same_row key) (map (λ change. take keys change.row) changes) ≡ false → members_of keys key changes ≡ []
no_members keys key [] e = refl
no_members keys key (x ∷ xs) e =
    elim (in_group keys key x.row) as (λ b. (b || list_any (same_row key) (map (λ (change : Change). take keys change.row) xs)) ≡ false → cond b (x ∷ members_of keys key xs) (members_of keys key xs) ≡ []) [
      | true ↦ λ h. absurd (cc)
      | false ↦ λ h. no_members keys key xs h
    ] e

turn_round : (a b c d : Worth) → plus (plus a b) (plus c d) ≡ plus (plus a c) (plus b d)
turn_round a b c d =
    plus_assoc a b (plus c d)
    ∙ ap (plus a) (sym (plus_assoc b c d) ∙ ap (λ w. plus w d) (plus_comm b c) ∙ plus_assoc c b d)
    ∙ sym (plus_assoc a c (plus b d))

either : (b : Bool) → cond b nothing nothing ≡ nothing
either true = refl
either false = refl

module _ (l : LocalGrouping) (g : Row) where
  abbrev p : Partials
  p = partials_of l

  -- the key that is meant
  abbrev k : Row
  k = project (first_columns l.keys) g

  abbrev worth : List Row → List Row → Worth
  worth come gone = worth_of_values (parts l.aggs) (amounts l.aggs (bag_of come) (bag_of gone))

  -- rows of changes that hold the key's columns
  abbrev AreWide : List Change → Type 0
  AreWide changes = AllByRecursion (λ change. l.keys ≤ length change.row) changes

  -- all calls can be taken back, or nothing is
  abbrev Suits : List Change → Type 0
  Suits changes = AllByRecursion (λ agg. is_signed agg.call ≡ true) l.aggs ⊎ AllByRecursion (λ change. adds change.kind ≡ true) changes

  pub agrees : (row : Row) → l.keys ≤ length row → same_row (project (first_columns l.keys) row) k ≡ in_group l.keys k row
  agrees row wide = ap (λ r. same_row r k) (project-first l.keys row wide) ∙ turned (take l.keys row) k

  -- what rows of the group are worth is what the group's changes say
  worth_members : (test : Change → Bool) (changes : List Change) → AreWide changes → worth_in p g (rows_by test changes) ≡ together_worth l.aggs (rows_by test (members_of l.keys k changes))
  worth_members test [] wide = refl
  worth_members test (x ∷ xs) wide =
      let rest = worth_members test xs wide.1 in
      let own : Worth = p.alone x.row in
      elim (in_group l.keys k x.row) as (λ b. same_row (project (first_columns l.keys) x.row) k ≡ b → worth_in p g (rows_by test (x ∷ xs)) ≡ together_worth l.aggs (rows_by test (cond b (x ∷ members_of l.keys k xs) (members_of l.keys k xs)))) [
        | true ↦ λ e.
            elim (test x) as (λ t. worth_in p g (map (λ change. change.row) (cond t (x ∷ filter test xs) (filter test xs))) ≡ together_worth l.aggs (map (λ change. change.row) (cond t (x ∷ filter test (members_of l.keys k xs)) (filter test (members_of l.keys k xs))))) [
              | true ↦ ap (λ b. cond b (plus own (worth_in p g (rows_by test xs))) (worth_in p g (rows_by test xs))) e ∙ ap (plus own) rest
              | false ↦ rest
            ]
        | false ↦ λ e.
            elim (test x) as (λ t. worth_in p g (map (λ change. change.row) (cond t (x ∷ filter test xs) (filter test xs))) ≡ together_worth l.aggs (rows_by test (members_of l.keys k xs))) [
              | true ↦ ap (λ b. cond b (plus own (worth_in p g (rows_by test xs))) (worth_in p g (rows_by test xs))) e ∙ rest
              | false ↦ rest
            ]
      ] (agrees x.row wide.0)

  -- ---- one group

  pub all_come : (come : List Row) → worth_of_values (parts l.aggs) (amounts l.aggs (bag_of come) (bag_of [])) ≡ together_worth l.aggs come
  all_come come = worth_rows_come l.aggs come (bag_of []) ∙ ap (plus (together_worth l.aggs come)) (worth_none l.aggs) ∙ plus_nothing (together_worth l.aggs come)

  -- rows come and gone are worth together with those gone what those come are
  amounts_worth : (changes : List Change) → Suits changes → plus (together_worth l.aggs (rows_by taken_away changes)) (worth (rows_by added changes) (rows_by taken_away changes)) ≡ together_worth l.aggs (rows_by added changes)
  amounts_worth changes (inl signed) = worth_rows_go l.aggs signed (bag_of (rows_by added changes)) (rows_by taken_away changes) ∙ all_come (rows_by added changes)
  amounts_worth changes (inr all) =
      ap (λ gone. plus (together_worth l.aggs gone) (worth (rows_by added changes) gone)) (nothing_goes changes all)
      ∙ nothing_plus (worth (rows_by added changes) [])
      ∙ all_come (rows_by added changes)

  pub sum-append : (xs ys : List Change) → sum_of p g (xs ++ ys) ≡ plus (sum_of p g xs) (sum_of p g ys)
  sum-append [] ys = sym (nothing_plus (sum_of p g ys))
  sum-append (x ∷ xs) ys =
      elim (same_row (project (first_columns l.keys) x.row) k) as (λ b. cond b (plus (p.worth x.row) (sum_of p g (xs ++ ys))) (sum_of p g (xs ++ ys)) ≡ plus (cond b (plus (p.worth x.row) (sum_of p g xs)) (sum_of p g xs)) (sum_of p g ys)) [
        | true ↦ ap (plus (p.worth x.row)) (sum-append xs ys) ∙ sym (plus_assoc (p.worth x.row) (sum_of p g xs) (sum_of p g ys))
        | false ↦ sum-append xs ys
      ]

  -- what is told of a group is worth what its changes amount to, for the group that is meant
  told_worth : (key : Row) (changes : List Change) → length key ≡ l.keys → sum_of p g (told_of l.aggs key changes) ≡ cond (same_row key k) (worth (rows_by added changes) (rows_by taken_away changes)) nothing
  told_worth key changes named =
      elim (are_silent l.aggs (rows_come changes) (rows_gone changes)) as (λ b. are_silent l.aggs (rows_come changes) (rows_gone changes) ≡ b → sum_of p g (cond b [] (change ∷ [])) ≡ cond (same_row key k) (worth (rows_by added changes) (rows_by taken_away changes)) nothing) [
        | true ↦ λ e. sym (ap (λ w. cond (same_row key k) w nothing) (blank_worth (parts l.aggs) (amounts l.aggs (rows_come changes) (rows_gone changes)) e) ∙ either (same_row key k))
        | false ↦ λ e.
            ap (λ r. cond (same_row r k) (plus (p.worth row) nothing) nothing) own
            ∙ ap (λ w. cond (same_row key k) w nothing) (plus_nothing (p.worth row) ∙ ap (worth_of_values (parts l.aggs)) rest)
      ] refl
    where
      row : Row
      row = partial_row l.aggs key changes

      change : Change
      change = record { kind = I; row = row }

      own : project (first_columns l.keys) row ≡ key
      own =
          project-first l.keys row (subst (λ n. n ≤ length row) named (longer key (amounts l.aggs (rows_come changes) (rows_gone changes))))
          ∙ ap (λ n. take n row) (sym named)
          ∙ front_of key (amounts l.aggs (rows_come changes) (rows_gone changes))

      rest : drop l.keys row ≡ amounts l.aggs (rows_come changes) (rows_gone changes)
      rest = ap (λ n. drop n row) (sym named) ∙ behind key (amounts l.aggs (rows_come changes) (rows_gone changes))

  -- ---- a piece

  fitting : (b : Bool) (a : List Change) (key : Row) (told : List Change) → (let r : Answer = cond b (Ok a) (Err key) in r ≡ Ok told) → told ≡ a
  fitting true a key told e = ok-same a told e
  fitting false a key told e = absurd (cc)

  module _ (changes : List Change) where
    abbrev mine : Row → List Change
    mine key = members_of l.keys key changes

    abbrev answer : Row → Answer
    answer key = local_answer l.aggs key (mine key)

    pub told_groups : (keys : List Row) (told : List Change) → IsDistinct same_row keys → AllByRecursion (λ key. length key ≡ l.keys) keys → answers answer keys ≡ Ok told
        → sum_of p g told ≡ cond (list_any (same_row k) keys) (worth (rows_by added (mine k)) (rows_by taken_away (mine k))) nothing
    told_groups [] told distinct named e = ap (sum_of p g) (ok-same [] told e)
    told_groups (key ∷ keys) told distinct named e =
        let both = both-appended (answer key) (answers answer keys) told e in
        let mine_told : both.front ≡ told_of l.aggs key (mine key) = fitting (fit_after l.aggs [] (mine key)) (told_of l.aggs key (mine key)) key both.front both.is_front in
        let later = told_groups keys both.back (IsDistinct-tail same_row key keys distinct) named.1 both.is_back in
        let sums : sum_of p g told ≡ plus (cond (same_row key k) (worth (rows_by added (mine key)) (rows_by taken_away (mine key))) nothing) (cond (list_any (same_row k) keys) (worth (rows_by added (mine k)) (rows_by taken_away (mine k))) nothing) =
        ap (sum_of p g) both.whole ∙ sum-append both.front both.back ∙ (λ i. plus ((ap (sum_of p g) mine_told ∙ told_worth key (mine key) named.0) i) (later i)) in
        sums ∙
        elim (same_row k key) as (λ b. same_row k key ≡ b → plus (cond (same_row key k) (worth (rows_by added (mine key)) (rows_by taken_away (mine key))) nothing) (cond (list_any (same_row k) keys) (worth (rows_by added (mine k)) (rows_by taken_away (mine k))) nothing) ≡ cond (b || list_any (same_row k) keys) (worth (rows_by added (mine k)) (rows_by taken_away (mine k))) nothing) [
          | true ↦ λ s.
              let same : key ≡ k = sym (same_row-true k key s) in
              let none_later : list_any (same_row k) keys ≡ false = others key keys (IsDistinct-head same_row key keys distinct) same in
              ap (λ b. plus (cond (same_row key k) (worth (rows_by added (mine key)) (rows_by taken_away (mine key))) nothing) (cond b (worth (rows_by added (mine k)) (rows_by taken_away (mine k))) nothing)) none_later
              ∙ plus_nothing (cond (same_row key k) (worth (rows_by added (mine key)) (rows_by taken_away (mine key))) nothing)
              ∙ ap (λ b. cond b (worth (rows_by added (mine key)) (rows_by taken_away (mine key))) nothing) (turned key k ∙ s)
              ∙ ap (λ r. worth (rows_by added (mine r)) (rows_by taken_away (mine r))) same
          | false ↦ λ s.
              ap (λ b. plus (cond b (worth (rows_by added (mine key)) (rows_by taken_away (mine key))) nothing) (cond (list_any (same_row k) keys) (worth (rows_by added (mine k)) (rows_by taken_away (mine k))) nothing)) (turned key k ∙ s)
              ∙ nothing_plus (cond (list_any (same_row k) keys) (worth (rows_by added (mine k)) (rows_by taken_away (mine k))) nothing)
        ] refl
      where
        others : (key : Row) (keys : List Row) → AllByRecursion (λ other. same_row key other ≡ false) keys → key ≡ k → list_any (same_row k) keys ≡ false
        others key [] h same = refl
        others key (x ∷ xs) h same = ap (λ b. b || list_any (same_row k) xs) (ap (λ r. same_row r x) (sym same) ∙ h.0) ∙ others key xs h.1 same

    -- with what those gone are worth, what is told is worth what those come are
    pub piece_worth : (told : List Change) → AreWide changes → Suits changes → AllByRecursion (λ key. length key ≡ l.keys) (groups_of l.keys changes) → local_emits l changes ≡ Ok told
        → plus (worth_in p g (rows_by taken_away changes)) (sum_of p g told) ≡ worth_in p g (rows_by added changes)
    piece_worth told wide suits named e =
        let groups = groups_of l.keys changes in
        let sums = told_groups groups told (distinct-first_seen (map (λ change. take l.keys change.row) changes)) named e in
        (λ i. plus (worth_members taken_away changes wide i) (sums i))
        ∙ elim (list_any (same_row k) groups) as (λ b. list_any (same_row k) groups ≡ b → plus (together_worth l.aggs (rows_by taken_away (mine k))) (cond b (worth (rows_by added (mine k)) (rows_by taken_away (mine k))) nothing) ≡ together_worth l.aggs (rows_by added (mine k))) [
          | true ↦ λ s. amounts_worth (mine k) (suits_mine suits)
          | false ↦ λ s.
              let empty : mine k ≡ [] = no_members l.keys k changes (sym (any-first_seen k (map (λ change. take l.keys change.row) changes)) ∙ s) in
              plus_nothing (together_worth l.aggs (rows_by taken_away (mine k))) ∙ ap (λ xs. together_worth l.aggs (rows_by taken_away xs)) empty ∙ sym (ap (λ xs. together_worth l.aggs (rows_by added xs)) empty)
        ] refl
        ∙ sym (worth_members added changes wide)
      where
        suits_mine : Suits changes → Suits (mine k)
        suits_mine (inl signed) = inl signed
        suits_mine (inr all) = inr (all_members (λ change. adds change.kind ≡ true) l.keys k changes all)

  -- ---- all pieces

  suits-front : (xs ys : List Change) → Suits (xs ++ ys) → Suits xs
  suits-front xs ys (inl signed) = inl signed
  suits-front xs ys (inr all) = inr (all-front (λ change. adds change.kind ≡ true) xs ys all)

  suits-back : (xs ys : List Change) → Suits (xs ++ ys) → Suits ys
  suits-back xs ys (inl signed) = inl signed
  suits-back xs ys (inr all) = inr (all-back (λ change. adds change.kind ≡ true) xs ys all)

  pub long_key : (n : ℕ) (row : Row) → n ≤ length row → length (take n row) ≡ n
  long_key zero row h = refl
  long_key (suc n) [] h = absurd (omega (arith, h))
  long_key (suc n) (x ∷ row) h = let e = long_key n row (omega (arith, h)) in omega (arith, e)

  named_first : (rows : List Row) → AllByRecursion (λ key. length key ≡ l.keys) rows → AllByRecursion (λ key. length key ≡ l.keys) (first_seen rows)
  named_first [] h = tt
  named_first (x ∷ xs) h = (h.0, kept (first_seen xs) (named_first xs h.1))
    where
      kept : (ys : List Row) → AllByRecursion (λ key. length key ≡ l.keys) ys → AllByRecursion (λ key. length key ≡ l.keys) (filter (λ other. not (same_row x other)) ys)
      kept [] h = tt
      kept (y ∷ ys) h = elim (not (same_row x y)) as (λ b. AllByRecursion (λ key. length key ≡ l.keys) (cond b (y ∷ filter (λ other. not (same_row x other)) ys) (filter (λ other. not (same_row x other)) ys))) [ true ↦ (h.0, kept ys h.1) | false ↦ kept ys h.1 ]

  pub named_groups : (changes : List Change) → AreWide changes → AllByRecursion (λ key. length key ≡ l.keys) (groups_of l.keys changes)
  named_groups changes wide = named_first (map (λ change. take l.keys change.row) changes) (go changes wide)
    where
      go : (xs : List Change) → AreWide xs → AllByRecursion (λ key. length key ≡ l.keys) (map (λ change. take l.keys change.row) xs)
      go [] w = tt
      go (x ∷ xs) w = (long_key l.keys x.row w.0, go xs w.1)

  pub pieces_worth : (before : List Arrival) (pieces : List (List Arrival)) (sent : List Change) → AreWide (at_port 0 (joined pieces)) → Suits (at_port 0 (joined pieces))
      → along (λ earlier piece. local_emits l (at_port 0 piece)) before pieces ≡ Ok sent
      → plus (worth_in p g (rows_by taken_away (at_port 0 (joined pieces)))) (sum_of p g sent) ≡ worth_in p g (rows_by added (at_port 0 (joined pieces)))
  pieces_worth before [] sent wide suits e = ap (λ xs. plus nothing (sum_of p g xs)) (ok-same [] sent e) ∙ nothing_plus nothing
  pieces_worth before (piece ∷ pieces) sent wide suits e =
      let xs = at_port 0 piece in
      let ys = at_port 0 (joined pieces) in
      let split : at_port 0 (piece ++ joined pieces) ≡ xs ++ ys = at_port-append 0 piece (joined pieces) in
      let all_wide : AreWide (xs ++ ys) = subst AreWide split wide in
      let all_suit : Suits (xs ++ ys) = subst Suits split suits in
      let wide_front : AreWide xs = all-front (λ change. l.keys ≤ length change.row) xs ys all_wide in
      let wide_back : AreWide ys = all-back (λ change. l.keys ≤ length change.row) xs ys all_wide in
      let both = both-appended (local_emits l xs) (along (λ earlier piece. local_emits l (at_port 0 piece)) (before ++ piece) pieces) sent e in
      let here = piece_worth xs both.front wide_front (suits-front xs ys all_suit) (named_groups xs wide_front) both.is_front in
      let later = pieces_worth (before ++ piece) pieces both.back wide_back (suits-back xs ys all_suit) both.is_back in
      let parted : (test : Change → Bool) → worth_in p g (rows_by test (at_port 0 (piece ++ joined pieces))) ≡ plus (worth_in p g (rows_by test xs)) (worth_in p g (rows_by test ys)) =
      λ test. ap (λ zs. worth_in p g (rows_by test zs)) split ∙ ap (worth_in p g) (rows_by-append test xs ys) ∙ worth-append p g (rows_by test xs) (rows_by test ys) in
      (λ i. plus (parted taken_away i) ((ap (sum_of p g) both.whole ∙ sum-append both.front both.back) i))
      ∙ turn_round (worth_in p g (rows_by taken_away xs)) (worth_in p g (rows_by taken_away ys)) (sum_of p g both.front) (sum_of p g both.back)
      ∙ (λ i. plus (here i) (later i))
      ∙ sym (parted added)
