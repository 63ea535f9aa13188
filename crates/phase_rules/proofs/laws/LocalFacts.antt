-- A local group meets the facts of nodes.
use Rattle.std.proofs.Common.{◌≡◌, ℕ, zero, suc, ◌+◌, ◌<◌, ◌≤◌, Bool, true, false, cond, not, ◌||◌, List, [], ◌∷◌, ◌++◌, length, map, take, Option, Some, Ok, Err, refl, sym, ap, subst, ◌∙◌, arith, inl, inr, ◌⊎◌}
use Rattle.std.specs.Prelude.{ℤ, ◌+ℤ◌, filter, slice_get}
use Rattle.std.specs.List.{list_any, AllByRecursion, IsDistinct}
use Rattle.std.proofs.lemmas.Bool.{false≢true}
use Rattle.std.proofs.lemmas.Int.{ints}
use Rattle.std.proofs.lemmas.List.{append_assoc, append-nil}
use Rattle.ct_value.specs.Bag.{bag_of, copies, occurs, one_at}
use Rattle.ct_value.proofs.laws.Bags.{copies-bag_of, same_bag}
use Rattle.ct_value.specs.Order.{row_cmp, row_total, row_exact}
use Rattle.ct_value.specs.Rows.{project}
use Rattle.ct_value.specs.declared.row.Row.{Row}
use Rattle.ct_value.specs.declared.value.Value.{Value}
use Rattle.ct_field.specs.Typed.{row_fits}
use Rattle.ct_change.specs.declared.kind.Kind.TheVariants.{I}
use Rattle.ct_change.specs.declared.change.Change.{Change}
use Rattle.ct_change.specs.Changelog.{Mode, append, retract, upsert, Rows, same_row, adds, has, admits, AreOf, additions, removals, HasKey, Means}
use Rattle.ct_change.proofs.laws.Meanings.{means_come, same_row-true}
use Rattle.rel_algebra.specs.GroupedCounts.{in_group}
use Rattle.std.proofs.lemmas.List.Elements.{filter-append}
use Rattle.rel_algebra.specs.declared.agg.Agg.{Agg}
use Rattle.rel_algebra.specs.declared.agg.AggCall.{AggCall}
use Rattle.rel_algebra.specs.declared.agg.AggCall.TheVariants.{CountAll, Count, CountDistinct, Sum, Min, Max, Avg}
use Rattle.rel_algebra.proofs.laws.Results.{distinct-first_seen}
use Rattle.agg_fns.specs.Partial.{is_signed}
use Rattle.agg_fns.specs.Reading.{Part, summed, parts_by}
use Rattle.op_rules.specs.History.{Arrival, at_port, joined}
use Rattle.op_rules.specs.Values.{types_fit}
use Rattle.op_rules.specs.Edges.{bag, Edge, ReadsAs, IsUnique, AreApartBy}
use Rattle.op_rules.specs.Partials.{Worth, nothing, plus, Partials, sum_of, worth_in, worth_of, StandFor}
use Rattle.op_rules.specs.Ports.{IsReadIn}
use Rattle.op_rules.specs.Rules.{Answer, appended, along}
use Rattle.op_rules.specs.Tasks.{Task, total, IsSplitBy, Emitted, Facts}
use Rattle.op_rules.proofs.laws.Histories.{all-append, all-front, all-back, all-each, at_port-append, appended-nothing, Both, both-appended, ok-same}
use Rattle.op_rules.proofs.laws.Totals.{total-same}
use Rattle.op_rules.proofs.laws.Values.{types_of_row}
use Rattle.op_rules.proofs.laws.Worths.{plus_nothing, union, restricted, copies-union, copies-restricted, worth-bag_of, worth-union, worth-near}
use Rattle.column_sets.specs.Places.{first_columns}
use Rattle.emission_rules.specs.Grouping.{answers, groups_of}
use Rattle.phase_rules.specs.LocalGrouping.{LocalGrouping, amounts, worth_of_values, parts, parts_of_calls, reached_at, are_silent, fit_after, rows_come, rows_gone, members_of, partial_row, local_answer, local_emits, partials_of}
use Rattle.phase_rules.specs.LocalFits.{IsOfBags, LocalFits, local_task, LocalGroupsStand, LocalGroupsTake}
use Rattle.phase_rules.specs.LocalPrefixes.{LocalPrefixesStand, StandsForPieces}
use Rattle.phase_rules.proofs.laws.LocalTold.{comes_in, wide_of, IsTaken, each_piece}
use Rattle.phase_rules.proofs.laws.LocalSums.{rows_by, added, taken_away, front_of, nothing_goes, pieces_worth, told_groups, named_groups, sum-append}

-- ---- worths

cancel : (a b c : Worth) → ((k : ℕ) (v : Value) → a.reached k v ≡ false) → plus a b ≡ plus a c → b ≡ c
cancel a b c none e = λ i. record { sums = λ k. sums k i; reached = λ k v. reached k v i }
  where
    left : (x y z : ℤ) → x +ℤ y ≡ x +ℤ z → y ≡ z
    left x y z q = omega (arith, ints, q)

    sums : (k : ℕ) → b.sums k ≡ c.sums k
    sums k = left (a.sums k) (b.sums k) (c.sums k) (ap (λ (w : Worth). w.sums k) e)

    reached : (k : ℕ) (v : Value) → b.reached k v ≡ c.reached k v
    reached k v =
        sym (ap (λ t. t || b.reached k v) (none k v)) ∙ ap (λ (w : Worth). w.reached k v) e ∙ ap (λ t. t || c.reached k v) (none k v)

-- ---- lists

-- a front of one list behind another is of the first, or the first with a front of the second
take_split : {A : Type 0} (n : ℕ) (xs ys : List A) → (take n (xs ++ ys) ≡ take n xs) ⊎ ((m : ℕ) × (take n (xs ++ ys) ≡ xs ++ take m ys))
take_split zero xs ys = inl refl
take_split (suc n) [] ys = inr (suc n, refl)
take_split (suc n) (x ∷ xs) ys =
    elim (take_split n xs ys) [
      | inl e ↦ inl (ap (λ l. x ∷ l) e)
      | inr r ↦ inr (r.0, ap (λ l. x ∷ l) r.1)
    ]

whole_front : {A : Type 0} (xs ys : List A) → (n : ℕ) × (take n (xs ++ ys) ≡ xs)
whole_front [] ys = (0, refl)
whole_front (x ∷ xs) ys = let rest = whole_front xs ys in (suc rest.0, ap (λ l. x ∷ l) rest.1)

joined-append : (xs ys : List (List Arrival)) → joined (xs ++ ys) ≡ joined xs ++ joined ys
joined-append [] ys = refl
joined-append (x ∷ xs) ys = ap (λ l. x ++ l) (joined-append xs ys) ∙ sym (append_assoc x (joined xs) (joined ys))

-- how often a change adds or removes a row is how often it occurs among those added or taken away
occurs_added : (row : Row) (changes : List Change) → occurs row_cmp row (rows_by added changes) ≡ additions row changes
occurs_added row [] = refl
occurs_added row (x ∷ xs) =
    elim (adds x.kind) as (λ b. occurs row_cmp row (map (λ change. change.row) (cond b (x ∷ filter added xs) (filter added xs))) ≡ cond b (one_at row_cmp row x.row) 0 + additions row xs) [
      | true ↦ ap (λ n. one_at row_cmp row x.row + n) (occurs_added row xs)
      | false ↦ let e = occurs_added row xs in omega (arith, e)
    ]

occurs_gone : (row : Row) (changes : List Change) → occurs row_cmp row (rows_by taken_away changes) ≡ removals row changes
occurs_gone row [] = refl
occurs_gone row (x ∷ xs) =
    elim (adds x.kind) as (λ b. occurs row_cmp row (map (λ change. change.row) (cond (not b) (x ∷ filter taken_away xs) (filter taken_away xs))) ≡ cond b 0 (one_at row_cmp row x.row) + removals row xs) [
      | true ↦ let e = occurs_gone row xs in omega (arith, e)
      | false ↦ ap (λ n. one_at row_cmp row x.row + n) (occurs_gone row xs)
    ]

distinct-front : (xs ys : List Row) → IsDistinct same_row (xs ++ ys) → IsDistinct same_row xs
unfolding IsDistinct
distinct-front [] ys d = tt
distinct-front (x ∷ xs) ys d = (all-front (λ y. same_row x y ≡ false) xs ys d.0, distinct-front xs ys d.1)

any-front : (test : Row → Bool) (xs ys : List Row) → list_any test xs ≡ true → list_any test (xs ++ ys) ≡ true
any-front test [] ys e = absurd (false≢true e)
any-front test (x ∷ xs) ys e =
    elim (test x) as (λ b. (b || list_any test xs) ≡ true → (b || list_any test (xs ++ ys)) ≡ true) [ true ↦ λ h. refl | false ↦ λ h. any-front test xs ys h ] e

-- ---- parts that are summed alone

abbrev AreSums : List Part → Type 0
AreSums ps = AllByRecursion (λ part. part ≡ summed) ps

sums_by : (call : AggCall) → is_signed call ≡ true → AreSums (parts_by call)
sums_by CountAll e = (refl, tt)
sums_by Count e = (refl, tt)
sums_by CountDistinct e = tt
sums_by Sum e = (refl, (refl, tt))
sums_by Min e = absurd (cc)
sums_by Max e = absurd (cc)
sums_by Avg e = (refl, (refl, tt))

sums_of_calls : (aggs : List Agg) → AllByRecursion (λ agg. is_signed agg.call ≡ true) aggs → AreSums (parts_of_calls aggs)
sums_of_calls [] h = tt
sums_of_calls (agg ∷ aggs) h = all-append (λ part. part ≡ summed) (parts_by agg.call) (parts_of_calls aggs) (sums_by agg.call h.0) (sums_of_calls aggs h.1)

reach_none : (ps : List Part) → AreSums ps → (c : ℕ) (x limit : Value) → reached_at (slice_get ps c) x limit ≡ false
reach_none [] h c x limit = refl
reach_none (p ∷ ps) h zero x limit = ap (λ (q : Part). reached_at (Some q) x limit) h.0
reach_none (p ∷ ps) h (suc c) x limit = reach_none ps h.1 c x limit

module _ (many : ℕ) (l : LocalGrouping) (from to : Edge) (fits : LocalFits many l from to) where
  abbrev task : Task
  task = local_task many l from to

  abbrev p : Partials
  p = partials_of l

  abbrev emits : List Arrival → List Arrival → Answer
  emits before piece = local_emits l (at_port 0 piece)

  abbrev AreWide : List Change → Type 0
  AreWide changes = AllByRecursion (λ change. l.keys ≤ length change.row) changes

  abbrev Typed : List Change → Type 0
  Typed changes = AllByRecursion (λ change. types_fit l.columns change.row ≡ true) changes

  abbrev Suits : List Change → Type 0
  Suits changes = AllByRecursion (λ agg. is_signed agg.call ≡ true) l.aggs ⊎ AllByRecursion (λ change. adds change.kind ≡ true) changes

  wide : (changes : List Change) → Typed changes → AreWide changes
  wide changes typed = wide_of l fits.sums_up changes typed

  -- all calls are signed, or rows only come
  signed_or : (aggs : List Agg) → AllByRecursion (λ agg. is_signed agg.call ≡ false → l.input ≡ append) aggs → AllByRecursion (λ agg. is_signed agg.call ≡ true) aggs ⊎ (l.input ≡ append)
  signed_or [] h = inl tt
  signed_or (agg ∷ aggs) h =
      elim (is_signed agg.call) as (λ b. is_signed agg.call ≡ b → ((is_signed agg.call ≡ true) × AllByRecursion (λ agg. is_signed agg.call ≡ true) aggs) ⊎ (l.input ≡ append)) [
        | true ↦ λ e. elim (signed_or aggs h.1) [ inl rest ↦ inl (e, rest) | inr a ↦ inr a ]
        | false ↦ λ e. inr (h.0 e)
      ] refl

  suits_of : (changes : List Change) → AreOf from.kinds changes → Suits changes
  suits_of changes kinds =
      elim (signed_or l.aggs fits.sums_up.stay) [
        | inl signed ↦ inl signed
        | inr a ↦ inr (all-each (λ change. has from.kinds change.kind ≡ true) (λ change. adds change.kind ≡ true) (λ change h. comes_in change.kind (subst (λ m. admits m change.kind ≡ true) a (fits.kinds change.kind h))) changes kinds)
      ]

  -- what went is worth no limit
  quiet_gone : (g : Row) (changes : List Change) → Suits changes → (c : ℕ) (v : Value) → (worth_in p g (rows_by taken_away changes)).reached c v ≡ false
  quiet_gone g changes (inl signed) c v = go (rows_by taken_away changes)
    where
      both : (b : Bool) (w x : Worth) → w.reached c v ≡ false → x.reached c v ≡ false → (cond b (plus w x) x).reached c v ≡ false
      both true w x d e = ap (λ t. t || x.reached c v) d ∙ e
      both false w x d e = e

      go : (rows : List Row) → (worth_in p g rows).reached c v ≡ false
      go [] = refl
      go (row ∷ rows) = both (same_row (project p.group row) (project p.own g)) (p.alone row) (worth_in p g rows) (reach_none (parts l.aggs) (refl, sums_of_calls l.aggs signed) c _ v) (go rows)
  quiet_gone g changes (inr all) c v = ap (λ rows. (worth_in p g rows).reached c v) (nothing_goes changes all)

  -- ---- what was sent for pieces stands for the rows that these leave
  means_worth : (g : Row) (changes : List Change) (rows : Rows) → Means retract changes rows → worth_in p g (rows_by added changes) ≡ plus (worth_in p g (rows_by taken_away changes)) (worth_of p g rows)
  means_worth g changes rows means =
      let same : bag_of (rows_by added changes) ≡ union (bag_of (rows_by taken_away changes)) rows =
      same_bag row_total row_exact _ _ (λ row.
      copies-bag_of row_total (rows_by added changes) row ∙ occurs_added row changes ∙ means row
      ∙ sym (copies-union (bag_of (rows_by taken_away changes)) rows row ∙ ap (λ n. n + copies rows row) (copies-bag_of row_total (rows_by taken_away changes) row ∙ occurs_gone row changes))) in
      sym (worth-bag_of p g (rows_by added changes)) ∙ ap (worth_of p g) same ∙ worth-union p g (bag_of (rows_by taken_away changes)) rows
      ∙ ap (λ w. plus w (worth_of p g rows)) (worth-bag_of p g (rows_by taken_away changes))

  stands : (pieces : List (List Arrival)) (sent : List Change) → Typed (at_port 0 (joined pieces)) → Suits (at_port 0 (joined pieces)) → along emits [] pieces ≡ Ok sent
      → (rows : Rows) → Means retract (at_port 0 (joined pieces)) rows → (g : Row) → sum_of p g sent ≡ worth_of p g rows
  stands pieces sent typed suits e rows means g =
      let took = at_port 0 (joined pieces) in
      cancel (worth_in p g (rows_by taken_away took)) (sum_of p g sent) (worth_of p g rows) (quiet_gone g took suits)
      (pieces_worth l g [] pieces sent (wide took typed) suits e ∙ means_worth g took rows means)

  -- ---- fronts of what was sent

  -- a front ends where some pieces were told, in the middle of a piece, or at the end
  pub record InPiece (before : List Arrival) (pieces : List (List Arrival)) (front_sent : List Change) : Type 0 where
    pub front : List (List Arrival)
    pub piece : List Arrival
    pub others : List (List Arrival)
    pub is : pieces ≡ front ++ piece ∷ others
    pub sent : List Change
    pub sent_is : along emits before front ≡ Ok sent
    pub told : List Change
    pub told_is : local_emits l (at_port 0 piece) ≡ Ok told
    pub count : ℕ
    pub front_is : front_sent ≡ sent ++ take count told

  front_in : (before : List Arrival) (pieces : List (List Arrival)) (sent : List Change) → along emits before pieces ≡ Ok sent → (n : ℕ) → (take n sent ≡ sent) ⊎ InPiece before pieces (take n sent)
  front_in before [] sent e n = inl (let none = ok-same [] sent e in ap (take n) none ∙ nothing_left n ∙ sym none)
    where
      nothing_left : (n : ℕ) → ◌≡◌ {A = List Change} (take n []) []
      nothing_left zero = refl
      nothing_left (suc n) = refl
  front_in before (piece ∷ pieces) sent e n =
      let both = both-appended (local_emits l (at_port 0 piece)) (along emits (before ++ piece) pieces) sent e in
      elim (take_split n both.front both.back) [
        | inl q ↦ inr record {
          front = [];
          piece = piece;
          others = pieces;
          is = refl;
          sent = [];
          sent_is = refl;
          told = both.front;
          told_is = both.is_front;
          count = n;
          front_is = ap (take n) both.whole ∙ q;
        }
        | inr r ↦ later both r (front_in (before ++ piece) pieces both.back both.is_back r.0)
      ]
    where
      later : (both : Both (local_emits l (at_port 0 piece)) (along emits (before ++ piece) pieces) sent) → (r : (m : ℕ) × (take n (both.front ++ both.back) ≡ both.front ++ take m both.back))
          → (take r.0 both.back ≡ both.back) ⊎ InPiece (before ++ piece) pieces (take r.0 both.back) → (take n sent ≡ sent) ⊎ InPiece before (piece ∷ pieces) (take n sent)
      later both r (inl all) = inl (ap (take n) both.whole ∙ r.1 ∙ ap (λ b. both.front ++ b) all ∙ sym both.whole)
      later both r (inr i) = inr record {
        front = piece ∷ i.front;
        piece = i.piece;
        others = i.others;
        is = ap (λ ps. piece ∷ ps) i.is;
        sent = both.front ++ i.sent;
        sent_is = (λ t. appended (both.is_front t) (i.sent_is t));
        told = i.told;
        told_is = i.told_is;
        count = i.count;
        front_is = ap (take n) both.whole ∙ r.1 ∙ ap (λ b. both.front ++ b) i.front_is ∙ sym (append_assoc both.front i.sent (take i.count i.told));
      }

  -- a front of what is told of a piece is what is told of some first groups
  some_groups : (changes : List Change) (keys : List Row) (told : List Change) → answers (λ key. local_answer l.aggs key (members_of l.keys key changes)) keys ≡ Ok told → (n : ℕ)
      → (first : List Row) × (others : List Row) × (keys ≡ first ++ others) × (answers (λ key. local_answer l.aggs key (members_of l.keys key changes)) first ≡ Ok (take n told))
  some_groups changes keys told e zero = ([], keys, refl, refl)
  some_groups changes [] told e (suc n) = ([], [], refl, ap (λ (xs : List Change). let r : Answer = Ok (take (suc n) xs) in r) (sym (ok-same [] told e)))
  some_groups changes (key ∷ keys) told e (suc n) =
      let both = both-appended (local_answer l.aggs key (members_of l.keys key changes)) (answers (λ key. local_answer l.aggs key (members_of l.keys key changes)) keys) told e in
      at_most_one both.front (short (fit_after l.aggs [] (members_of l.keys key changes)) (are_silent l.aggs (rows_come (members_of l.keys key changes)) (rows_gone (members_of l.keys key changes))) both.front both.is_front) both refl (λ m. some_groups changes keys both.back both.is_back m)
    where
      short : (fit silent : Bool) (front : List Change) → (let r : Answer = cond fit (Ok (cond silent [] (record { kind = I; row = partial_row l.aggs key (members_of l.keys key changes) } ∷ []))) (Err key) in r ≡ Ok front) → length front ≤ 1
      short true true front q = let s = ap length (ok-same [] front q) in omega (arith, s)
      short true false front q = let s = ap length (ok-same _ front q) in omega (arith, s)
      short false silent front q = absurd (cc)

      answer : Row → Answer
      answer k = local_answer l.aggs k (members_of l.keys k changes)

      at_most_one : (front : List Change) → length front ≤ 1 → (both : Both (answer key) (answers answer keys) told) → both.front ≡ front
          → ((m : ℕ) → (first : List Row) × (others : List Row) × (keys ≡ first ++ others) × (answers answer first ≡ Ok (take m both.back)))
          → (first : List Row) × (others : List Row) × (key ∷ keys ≡ first ++ others) × (answers answer first ≡ Ok (take (suc n) told))
      at_most_one [] h both is later =
          let rest = later (suc n) in (
            key ∷ rest.0,
            rest.1,
            ap (λ ks. key ∷ ks) rest.2,
            (λ t. appended ((both.is_front ∙ ap (λ (xs : List Change). let r : Answer = Ok xs in r) is) t) (rest.3 t))
                ∙ ap (λ (xs : List Change). let r : Answer = Ok (take (suc n) xs) in r) (sym (both.whole ∙ ap (λ xs. xs ++ both.back) is)),
          )
      at_most_one (c ∷ []) h both is later =
          let rest = later n in (
            key ∷ rest.0,
            rest.1,
            ap (λ ks. key ∷ ks) rest.2,
            (λ t. appended ((both.is_front ∙ ap (λ (xs : List Change). let r : Answer = Ok xs in r) is) t) (rest.3 t))
                ∙ ap (λ (xs : List Change). let r : Answer = Ok (take (suc n) xs) in r) (sym (both.whole ∙ ap (λ xs. xs ++ both.back) is)),
          )
      at_most_one (c ∷ d ∷ front) h both is later = absurd (omega (arith, h))

  -- ---- fronts stand for rows

  -- rows of which some groups are those of new rows, and the others those of old ones
  abbrev in_some : List Row → Row → Bool
  in_some first row = list_any (same_row (project (first_columns l.keys) row)) first

  abbrev mixed : List Row → Rows → Rows → Rows
  mixed first old new = union (restricted (in_some first) new) (restricted (λ row. not (in_some first row)) old)

  mixed_copies : (first : List Row) (old new : Rows) (row : Row) (b : Bool) → in_some first row ≡ b → copies (mixed first old new) row ≡ cond b (copies new row) (copies old row)
  mixed_copies first old new row b e =
      copies-union (restricted (in_some first) new) (restricted (λ other. not (in_some first other)) old) row
      ∙ (λ i. copies-restricted (in_some first) new row i + copies-restricted (λ other. not (in_some first other)) old row i)
      ∙ ap (λ t. cond t (copies new row) 0 + cond (not t) (copies old row) 0) e
      ∙ one b (copies new row) (copies old row)
    where
      one : (b : Bool) (n m : ℕ) → cond b n 0 + cond (not b) m 0 ≡ cond b n m
      one true n m = omega arith
      one false n m = omega arith

  mixed_worth : (g : Row) (first : List Row) (old new : Rows) (b : Bool) → list_any (same_row (project (first_columns l.keys) g)) first ≡ b → worth_of p g (mixed first old new) ≡ cond b (worth_of p g new) (worth_of p g old)
  mixed_worth g first old new true e = worth-near p g (mixed first old new) new (λ row same. mixed_copies first old new row true (ap (λ r. list_any (same_row r) first) same ∙ e))
  mixed_worth g first old new false e = worth-near p g (mixed first old new) old (λ row same. mixed_copies first old new row false (ap (λ r. list_any (same_row r) first) same ∙ e))

  mixed_hold : (first : List Row) (old new : Rows) → ((row : Row) → 0 < copies old row → p.holds row ≡ true) → ((row : Row) → 0 < copies new row → p.holds row ≡ true)
      → (row : Row) → 0 < copies (mixed first old new) row → p.holds row ≡ true
  mixed_hold first old new before after row some = go (in_some first row) refl
    where
      go : (b : Bool) → in_some first row ≡ b → p.holds row ≡ true
      go true e = after row (let c = mixed_copies first old new row true e in omega (arith, some, c))
      go false e = before row (let c = mixed_copies first old new row false e in omega (arith, some, c))

  front_worth : (changes : List Change) (first others : List Row) → AreWide changes → groups_of l.keys changes ≡ first ++ others
      → (sent told few : List Change) → local_emits l changes ≡ Ok told → answers (λ key. local_answer l.aggs key (members_of l.keys key changes)) first ≡ Ok few
      → (old new : Rows) → ((g : Row) → sum_of p g sent ≡ worth_of p g old) → ((g : Row) → sum_of p g (sent ++ told) ≡ worth_of p g new) → (g : Row) → sum_of p g (sent ++ few) ≡ worth_of p g (mixed first old new)
  front_worth changes first others wide split sent told few all some old new before after g =
      elim (list_any (same_row k) first) as (λ b. list_any (same_row k) first ≡ b → sum_of p g (sent ++ few) ≡ worth_of p g (mixed first old new)) [
        | true ↦ λ e.
            let in_all : list_any (same_row k) groups ≡ true = ap (list_any (same_row k)) split ∙ any-front (same_row k) first others e in
            let same : sum_of p g few ≡ sum_of p g told = few_is ∙ ap (λ b. cond b w nothing) (e ∙ sym in_all) ∙ sym told_is in
            sum-append l g sent few ∙ ap (plus (sum_of p g sent)) same ∙ sym (sum-append l g sent told) ∙ after g ∙ sym (mixed_worth g first old new true e)
        | false ↦ λ e.
            sum-append l g sent few ∙ ap (plus (sum_of p g sent)) (few_is ∙ ap (λ b. cond b w nothing) e) ∙ plus_nothing (sum_of p g sent) ∙ before g ∙ sym (mixed_worth g first old new false e)
      ] refl
    where
      k : Row
      k = project (first_columns l.keys) g

      groups : List Row
      groups = groups_of l.keys changes

      distinct : IsDistinct same_row groups
      distinct = distinct-first_seen (map (λ change. take l.keys change.row) changes)

      named : AllByRecursion (λ key. length key ≡ l.keys) groups
      named = named_groups l g changes wide

      w : Worth
      w = worth_of_values (parts l.aggs) (amounts l.aggs (bag_of (rows_by added (members_of l.keys k changes))) (bag_of (rows_by taken_away (members_of l.keys k changes))))

      few_is : sum_of p g few ≡ cond (list_any (same_row k) first) w nothing
      few_is = told_groups l g changes first few (distinct-front first others (subst (IsDistinct same_row) split distinct)) (all-front (λ key. length key ≡ l.keys) first others (subst (AllByRecursion (λ key. length key ≡ l.keys)) split named)) some

      told_is : sum_of p g told ≡ cond (list_any (same_row k) groups) w nothing
      told_is = told_groups l g changes groups told distinct named all

  -- ---- the partial rows of one group

  abbrev answer_of : List Change → Row → Answer
  answer_of changes key = local_answer l.aggs key (members_of l.keys key changes)

  -- what is told of some groups, and behind them of others
  apart : (changes : List Change) (first others : List Row) (told : List Change) → answers (answer_of changes) (first ++ others) ≡ Ok told
      → (few rest : List Change) × (answers (answer_of changes) first ≡ Ok few) × (answers (answer_of changes) others ≡ Ok rest) × (told ≡ few ++ rest)
  apart changes [] others told e = ([], told, refl, e, refl)
  apart changes (key ∷ first) others told e =
      let both = both-appended (answer_of changes key) (answers (answer_of changes) (first ++ others)) told e in
      let more = apart changes first others both.back both.is_back in (
        both.front ++ more.0,
        more.1,
        (λ t. appended (both.is_front t) (more.2 t)),
        more.3,
        both.whole ∙ ap (λ b. both.front ++ b) more.4 ∙ sym (append_assoc both.front more.0 more.1),
      )

  -- another group's partial row isn't of this one
  not_own : (k key : Row) (changes : List Change) → length key ≡ l.keys → same_row k key ≡ false → (fit silent : Bool) (front : List Change)
      → (let r : Answer = cond fit (Ok (cond silent [] (record { kind = I; row = partial_row l.aggs key changes } ∷ []))) (Err key) in r ≡ Ok front) → members_of l.keys k front ≡ []
  not_own k key changes long differs true true front q = ap (members_of l.keys k) (ok-same [] front q)
  not_own k key changes long differs true false front q =
      ap (members_of l.keys k) (ok-same _ front q)
      ∙ ap (λ (b : Bool). cond b (record { kind = I; row = partial_row l.aggs key changes } ∷ []) [])
      (ap (λ n. same_row k (take n (partial_row l.aggs key changes))) (sym long) ∙ ap (same_row k) (front_of key (amounts l.aggs (rows_come changes) (rows_gone changes))) ∙ differs)
  not_own k key changes long differs false silent front q = absurd (cc)

  or_parts : (a b : Bool) → (a || b) ≡ false → (a ≡ false) × (b ≡ false)
  or_parts true b e = absurd (cc)
  or_parts false b e = (refl, e)

  none_own : (k : Row) (changes : List Change) (groups : List Row) → AllByRecursion (λ key. length key ≡ l.keys) groups → list_any (same_row k) groups ≡ false → (told : List Change)
      → answers (answer_of changes) groups ≡ Ok told → members_of l.keys k told ≡ []
  none_own k changes [] named none told e = ap (members_of l.keys k) (ok-same [] told e)
  none_own k changes (key ∷ groups) named none told e =
      let both = both-appended (answer_of changes key) (answers (answer_of changes) groups) told e in
      let others = or_parts (same_row k key) (list_any (same_row k) groups) none in
      let mine = members_of l.keys key changes in
      ap (members_of l.keys k) both.whole ∙ filter-append (λ change. in_group l.keys k change.row) both.front both.back
      ∙ ap (λ xs. xs ++ members_of l.keys k both.back) (not_own k key mine named.0 others.0 (fit_after l.aggs [] mine) (are_silent l.aggs (rows_come mine) (rows_gone mine)) both.front both.is_front)
      ∙ none_own k changes groups named.1 others.1 both.back both.is_back

  -- a group among the first isn't among the others
  once : (k : Row) (first others : List Row) → IsDistinct same_row (first ++ others) → list_any (same_row k) first ≡ true → list_any (same_row k) others ≡ false
  unfolding IsDistinct
  once k [] others d e = absurd (false≢true e)
  once k (x ∷ first) others d e =
      elim (same_row k x) as (λ b. same_row k x ≡ b → (b || list_any (same_row k) first) ≡ true → list_any (same_row k) others ≡ false) [
        | true ↦ λ same h. ap (λ row. list_any (same_row row) others) (same_row-true k x same) ∙ differs x others (all-back (λ y. same_row x y ≡ false) first others d.0)
        | false ↦ λ same h. once k first others d.1 h
      ] refl e
    where
      differs : (x : Row) (ys : List Row) → AllByRecursion (λ y. same_row x y ≡ false) ys → list_any (same_row x) ys ≡ false
      differs x [] h = refl
      differs x (y ∷ ys) h = ap (λ b. b || list_any (same_row x) ys) h.0 ∙ differs x ys h.1

  -- a front of what is told of a piece tells a group as the whole does, or not at all
  module _ (g : Row) (changes : List Change) (first others : List Row) (split : groups_of l.keys changes ≡ first ++ others) (wide_here : AreWide changes) (told few : List Change)
      (all : local_emits l changes ≡ Ok told) (some : answers (answer_of changes) first ≡ Ok few) where
    abbrev own_key : Row
    own_key = project (first_columns l.keys) g

    abbrev own_worth : Worth
    own_worth = worth_of_values (parts l.aggs) (amounts l.aggs (bag_of (rows_by added (members_of l.keys own_key changes))) (bag_of (rows_by taken_away (members_of l.keys own_key changes))))

    all_distinct : IsDistinct same_row (first ++ others)
    all_distinct = subst (IsDistinct same_row) split (distinct-first_seen (map (λ change. take l.keys change.row) changes))

    all_named : AllByRecursion (λ key. length key ≡ l.keys) (first ++ others)
    all_named = subst (AllByRecursion (λ key. length key ≡ l.keys)) split (named_groups l g changes wide_here)

    few_worth : sum_of p g few ≡ cond (list_any (same_row own_key) first) own_worth nothing
    few_worth = told_groups l g changes first few (distinct-front first others all_distinct) (all-front (λ key. length key ≡ l.keys) first others all_named) some

    told_worth : sum_of p g told ≡ cond (list_any (same_row own_key) (first ++ others)) own_worth nothing
    told_worth = told_groups l g changes (first ++ others) told all_distinct all_named (subst (λ keys. answers (answer_of changes) keys ≡ Ok told) split all)

    told_first : list_any (same_row own_key) first ≡ true → (members_of l.keys own_key few ≡ members_of l.keys own_key told) × (sum_of p g few ≡ sum_of p g told)
    told_first e =
        let halves = apart changes first others told (subst (λ keys. answers (answer_of changes) keys ≡ Ok told) split all) in
        let rest = none_own own_key changes others (all-back (λ key. length key ≡ l.keys) first others all_named) (once own_key first others all_distinct e) halves.1 halves.3 in
        let few_same : few ≡ halves.0 = ok-same halves.0 few (sym halves.2 ∙ some) in (
          ap (members_of l.keys own_key) few_same
              ∙ sym (ap (members_of l.keys own_key) halves.4 ∙ filter-append (λ change. in_group l.keys own_key change.row) halves.0 halves.1
              ∙ ap (λ xs. members_of l.keys own_key halves.0 ++ xs) rest ∙ append-nil (members_of l.keys own_key halves.0)),
          few_worth ∙ ap (λ b. cond b own_worth nothing) (e ∙ sym (any-front (same_row own_key) first others e)) ∙ sym told_worth,
        )

    told_later : list_any (same_row own_key) first ≡ false → (members_of l.keys own_key few ≡ []) × (sum_of p g few ≡ nothing)
    told_later e = (none_own own_key changes first (all-front (λ key. length key ≡ l.keys) first others all_named) e few some, few_worth ∙ ap (λ b. cond b own_worth nothing) e)

  along_more : (before : List Arrival) (front : List (List Arrival)) (piece : List Arrival) (sent told : List Change) → along emits before front ≡ Ok sent → local_emits l (at_port 0 piece) ≡ Ok told
      → along emits before (front ++ piece ∷ []) ≡ Ok (sent ++ told)
  along_more before [] piece sent told e h =
      (λ t. appended (h t) (let r : Answer = Ok [] in r))
      ∙ ap (λ (xs : List Change). let r : Answer = Ok xs in r) (append-nil told ∙ ap (λ xs. xs ++ told) (sym (ok-same [] sent e)))
  along_more before (x ∷ front) piece sent told e h =
      let both = both-appended (local_emits l (at_port 0 x)) (along emits (before ++ x) front) sent e in
      (λ t. appended (both.is_front t) (along_more (before ++ x) front piece both.back told both.is_back h t))
      ∙ ap (λ (xs : List Change). let r : Answer = Ok xs in r) (sym (append_assoc both.front both.back told) ∙ ap (λ xs. xs ++ told) (sym both.whole))

  module _ (j : ℕ) (pieces : List (List Arrival)) (sent : List Change) (e : Emitted task j pieces sent) where
    abbrev took : List Change
    took = at_port 0 (joined pieces)

    typed : Typed took
    typed = all-each (λ change. from.fits change ≡ true) (λ change. types_fit l.columns change.row ≡ true) (λ change t. types_of_row l.columns change.row (fits.fits change t)) took (e.ready.types 0 (omega arith))

    taken : AllByRecursion (IsTaken l fits.sums_up) took
    taken = both_of took (all-each (λ change. from.fits change ≡ true) (λ change. row_fits l.columns change.row ≡ true) (λ change t. fits.fits change t) took (e.ready.types 0 (omega arith))) (e.ready.kinds 0 (omega arith))
      where
        both_of : (xs : List Change) → AllByRecursion (λ change. row_fits l.columns change.row ≡ true) xs → AreOf from.kinds xs → AllByRecursion (IsTaken l fits.sums_up) xs
        both_of [] t k = tt
        both_of (x ∷ xs) t k = ((t.0, fits.kinds x.kind k.0), both_of xs t.1 k.1)

    suits : Suits took
    suits = suits_of took (e.ready.kinds 0 (omega arith))

    told_along : along emits [] pieces ≡ Ok sent
    told_along = sym (appended-nothing (along emits [] pieces)) ∙ e.emitted

    -- the rows after a front of what came
    rows_at : (xs ys : List Arrival) → joined pieces ≡ xs ++ ys → (rows : Rows) × Means retract (at_port 0 xs) rows
    rows_at xs ys split =
        let n = whole_front xs ys in
        let s = e.ready.valid 0 (omega arith) n.0 in
        (s.0, subst (λ arrivals. Means retract (at_port 0 arrivals) s.0) (ap (take n.0) split ∙ n.1) (subst (λ m. ReadsAs m (at_port 0 (take n.0 (joined pieces))) s.0) fits.reads s.1))

    typed_front : (xs ys : List Arrival) → joined pieces ≡ xs ++ ys → Typed (at_port 0 xs)
    typed_front xs ys split = all-front (λ change. types_fit l.columns change.row ≡ true) (at_port 0 xs) (at_port 0 ys) (subst Typed (ap (at_port 0) split ∙ at_port-append 0 xs ys) typed)

    suits_front : (xs ys : List Arrival) → joined pieces ≡ xs ++ ys → Suits (at_port 0 xs)
    suits_front xs ys split = suits_of (at_port 0 xs) (all-front (λ change. has from.kinds change.kind ≡ true) (at_port 0 xs) (at_port 0 ys) (subst (AreOf from.kinds) (ap (at_port 0) split ∙ at_port-append 0 xs ys) (e.ready.kinds 0 (omega arith))))

    whole : AllByRecursion (λ change. p.holds change.row ≡ true) took
    whole = all-each (λ change. from.fits change ≡ true) (λ change. p.holds change.row ≡ true) (λ change t. fits.fits change t) took (e.ready.types 0 (omega arith))

    -- the rows that a front leaves have the columns
    hold : (xs ys : List Arrival) → joined pieces ≡ xs ++ ys → (rows : Rows) → Means retract (at_port 0 xs) rows → (row : Row) → 0 < copies rows row → p.holds row ≡ true
    hold xs ys split rows means =
        means_come (λ row. p.holds row ≡ true) retract (at_port 0 xs) rows means
        (all-each (λ change. p.holds change.row ≡ true) (λ change. adds change.kind ≡ true → p.holds change.row ≡ true) (λ change h a. h) (at_port 0 xs)
        (all-front (λ change. p.holds change.row ≡ true) (at_port 0 xs) (at_port 0 ys) (subst (AllByRecursion (λ change. p.holds change.row ≡ true)) (ap (at_port 0) split ∙ at_port-append 0 xs ys) whole)))

    front_stands : (front others : List (List Arrival)) → pieces ≡ front ++ others → (told : List Change) → along emits [] front ≡ Ok told → (rows : Rows) × StandFor p told rows
    front_stands front others is told along_is =
        let split : joined pieces ≡ joined front ++ joined others = ap joined is ∙ joined-append front others in
        let rows = rows_at (joined front) (joined others) split in (
          rows.0,
          record {
            holds = hold (joined front) (joined others) split rows.0 rows.1;
            worth = stands front told (typed_front (joined front) (joined others) split) (suits_front (joined front) (joined others) split) along_is rows.0 rows.1;
          },
        )

    wide_piece : (n : ℕ) (i : InPiece [] pieces (take n sent)) → AreWide (at_port 0 i.piece)
    wide_piece n i =
        let split : joined pieces ≡ joined i.front ++ (i.piece ++ joined i.others) = ap joined i.is ∙ joined-append i.front (i.piece ∷ i.others) in
        let both = subst Typed (ap (at_port 0) split ∙ at_port-append 0 (joined i.front) (i.piece ++ joined i.others)) typed in
        let back = all-back (λ change. types_fit l.columns change.row ≡ true) (at_port 0 (joined i.front)) (at_port 0 (i.piece ++ joined i.others)) both in
        wide (at_port 0 i.piece) (all-front (λ change. types_fit l.columns change.row ≡ true) (at_port 0 i.piece) (at_port 0 (joined i.others)) (subst Typed (at_port-append 0 i.piece (joined i.others)) back))

    front_reads : (n : ℕ) → (rows : Rows) × StandFor p (take n sent) rows
    front_reads n =
        elim (front_in [] pieces sent told_along n) [
          | inl all ↦ let s = front_stands pieces [] (sym (append-nil pieces)) sent told_along in (s.0, subst (λ xs. StandFor p xs s.0) (sym all) s.1)
          | inr i ↦
              let old = front_stands i.front (i.piece ∷ i.others) i.is i.sent i.sent_is in
              let new = front_stands (i.front ++ i.piece ∷ []) i.others (i.is ∙ sym (append_assoc i.front (i.piece ∷ []) i.others)) (i.sent ++ i.told) (along_more [] i.front i.piece i.sent i.told i.sent_is i.told_is) in
              let groups = some_groups (at_port 0 i.piece) (groups_of l.keys (at_port 0 i.piece)) i.told i.told_is i.count in (
                mixed groups.0 old.0 new.0,
                record {
                  holds = mixed_hold groups.0 old.0 new.0 old.1.holds new.1.holds;
                  worth = λ g.
                      ap (sum_of p g) i.front_is
                      ∙ front_worth (at_port 0 i.piece) groups.0 groups.1 (wide_piece n i) groups.2 i.sent i.told (take i.count i.told) i.told_is groups.3 old.0 new.0 old.1.worth new.1.worth g;
                },
              )
        ]

    -- ---- for which part of what was folded a prefix stands

    front_pieces : (front others : List (List Arrival)) → pieces ≡ front ++ others → (told prefix : List Change) → along emits [] front ≡ Ok told → (g : Row)
        → members_of l.keys (project (first_columns l.keys) g) prefix ≡ members_of l.keys (project (first_columns l.keys) g) told → sum_of p g prefix ≡ sum_of p g told → StandsForPieces l pieces prefix g
    front_pieces front others is told prefix along_is g same worth =
        let split : joined pieces ≡ joined front ++ joined others = ap joined is ∙ joined-append front others in
        let rows = rows_at (joined front) (joined others) split in
        record {
          folded = front;
          others = others;
          is_front = is;
          told = told;
          told_is = along_is;
          same = same;
          rows = rows.0;
          leave = rows.1;
          worth = worth ∙ stands front told (typed_front (joined front) (joined others) split) (suits_front (joined front) (joined others) split) along_is rows.0 rows.1 g;
        }

    pub prefix_pieces : (n : ℕ) (g : Row) → StandsForPieces l pieces (take n sent) g
    prefix_pieces n g =
        elim (front_in [] pieces sent told_along n) [
          | inl all ↦ front_pieces pieces [] (sym (append-nil pieces)) sent (take n sent) told_along g (ap (members_of l.keys (project (first_columns l.keys) g)) all) (ap (sum_of p g) all)
          | inr i ↦ in_piece i (some_groups (at_port 0 i.piece) (groups_of l.keys (at_port 0 i.piece)) i.told i.told_is i.count)
        ]
      where
        in_piece : (i : InPiece [] pieces (take n sent))
            → (first : List Row) × (others : List Row) × (groups_of l.keys (at_port 0 i.piece) ≡ first ++ others) × (answers (answer_of (at_port 0 i.piece)) first ≡ Ok (take i.count i.told)) → StandsForPieces l pieces (take n sent) g
        in_piece i groups =
            let few = take i.count i.told in
            let first = told_first g (at_port 0 i.piece) groups.0 groups.1 groups.2 (wide_piece n i) i.told few i.told_is groups.3 in
            let later = told_later g (at_port 0 i.piece) groups.0 groups.1 groups.2 (wide_piece n i) i.told few i.told_is groups.3 in
            elim (list_any (same_row (project (first_columns l.keys) g)) groups.0) as (λ b. list_any (same_row (project (first_columns l.keys) g)) groups.0 ≡ b → StandsForPieces l pieces (take n sent) g) [
              | true ↦ λ e.
                  let t = first e in
                  front_pieces (i.front ++ i.piece ∷ []) i.others (i.is ∙ sym (append_assoc i.front (i.piece ∷ []) i.others)) (i.sent ++ i.told) (take n sent) (along_more [] i.front i.piece i.sent i.told i.sent_is i.told_is) g
                  (ap (members_of l.keys (project (first_columns l.keys) g)) i.front_is ∙ filter-append (λ change. in_group l.keys (project (first_columns l.keys) g) change.row) i.sent few
                  ∙ ap (λ xs. members_of l.keys (project (first_columns l.keys) g) i.sent ++ xs) t.0 ∙ sym (filter-append (λ change. in_group l.keys (project (first_columns l.keys) g) change.row) i.sent i.told))
                  (ap (sum_of p g) i.front_is ∙ sum-append l g i.sent few ∙ ap (plus (sum_of p g i.sent)) t.1 ∙ sym (sum-append l g i.sent i.told))
              | false ↦ λ e.
                  let t = later e in
                  front_pieces i.front (i.piece ∷ i.others) i.is i.sent (take n sent) i.sent_is g
                  (ap (members_of l.keys (project (first_columns l.keys) g)) i.front_is ∙ filter-append (λ change. in_group l.keys (project (first_columns l.keys) g) change.row) i.sent few
                  ∙ ap (λ xs. members_of l.keys (project (first_columns l.keys) g) i.sent ++ xs) t.0 ∙ append-nil (members_of l.keys (project (first_columns l.keys) g) i.sent))
                  (ap (sum_of p g) i.front_is ∙ sum-append l g i.sent few ∙ ap (plus (sum_of p g i.sent)) t.1 ∙ plus_nothing (sum_of p g i.sent))
            ] refl

    pub prefix : (n : ℕ) → (rows : Rows) × ReadsAs to.meaning (take n sent) rows
    prefix n = let r = front_reads n in (r.0, subst (λ m. ReadsAs m (take n sent) r.0) (sym fits.writes) r.1)

    pub folds : (rows : Rows) → ReadsAs from.meaning took rows → ReadsAs to.meaning sent rows
    folds rows reads =
        let means = subst (λ m. ReadsAs m took rows) fits.reads reads in
        subst (λ m. ReadsAs m sent rows) (sym fits.writes)
        (record { holds = hold (joined pieces) [] (sym (append-nil (joined pieces))) rows means; worth = stands pieces sent typed suits told_along rows means })

  some_is : (a b : Rows) → (let o : Option Rows = Some a in o ≡ Some b) → a ≡ b
  some_is a b q = cc

  pub local_facts : Facts task
  local_facts = record {
    folds_to_answer = λ j pieces sent e rows reads. (rows 0, refl, folds j pieces sent e (rows 0) (reads 0 (omega arith)).0);
    prefixes_stand = prefix;
    kinds_stay = λ j pieces sent e. each_piece l fits.sums_up (λ change. has to.kinds change.kind ≡ true) (λ key changes summed. fits.comes) [] pieces sent (taken j pieces sent e) (told_along j pieces sent e);
    types_stay = λ j pieces sent e. each_piece l fits.sums_up (λ change. to.fits change ≡ true) fits.out_fits [] pieces sent (taken j pieces sent e) (told_along j pieces sent e);
    parts_add_up = λ parts whole answers split made.
        let spread : (row : Row) → copies (whole 0) row ≡ total many (λ j. copies (parts j 0) row) = subst (λ x. IsSplitBy from.meaning x from.route many (λ j. parts j 0) (whole 0)) fits.forwards (split 0 (omega arith)) in
        (whole 0, refl, λ row. total-same many (λ j. copies (answers j) row) (λ j. copies (parts j 0) row) (λ j jl. ap (λ (r : Rows). copies r row) (sym (some_is (parts j 0) (answers j) (made j jl)))) ∙ sym (spread row));
    local_keys = λ j pieces sent e key has_key. absurd (fits.local key has_key);
    fixing_sets = λ pieces sent all come set has_set. absurd (fits.fixing set has_set);
    after_only = λ pieces sent all come fixed. subst (λ m. AreApartBy m many sent) (sym fits.writes) tt;
    answer_types = λ whole answer e settled row there. fits.out_holds row ((settled 0 (omega arith)).types row (subst (λ (r : Rows). 0 < copies r row) (sym (some_is (whole 0) answer e)) there));
    unique_keys = λ whole answer e settled key has_key. subst (λ (r : Rows). IsUnique key (copies r)) (some_is (whole 0) answer e) ((settled 0 (omega arith)).keys key (inl (fits.unique key has_key)));
  }

pub local_prefixes_stand : LocalPrefixesStand
local_prefixes_stand many l from to fits j pieces sent e n group = prefix_pieces many l from to fits j pieces sent e n group

pub local_groups_stand : LocalGroupsStand
local_groups_stand many l from to fits = local_facts many l from to fits

pub local_groups_take : LocalGroupsTake
local_groups_take many l from to fits = (
  refl,
  λ port within. record {
    reads = subst (λ m. IsReadIn m l.input) (sym fits.reads) (read_in l.input fits.of_bags);
    kinds = fits.kinds;
    fits = λ change f. types_of_row l.columns change.row (fits.fits change f);
    keyed = λ change f. keyless l.input fits.of_bags change;
  },
)
  where
    read_in : (mode : Mode) → IsOfBags mode → IsReadIn bag mode
    read_in append h = tt
    read_in retract h = tt
    read_in (upsert key) h = absurd h

    keyless : (mode : Mode) → IsOfBags mode → (change : Change) → HasKey mode change.row
    keyless append h change = tt
    keyless retract h change = tt
    keyless (upsert key) h change = absurd h
