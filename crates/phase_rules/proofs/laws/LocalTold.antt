-- What holds of each change that a local group sends: it is a partial row of some changes of one group.
use Rattle.std.proofs.Common.{◌≡◌, ℕ, zero, suc, ◌+◌, ◌<◌, ◌≤◌, Bool, true, false, cond, ◌&&◌, ◌==◌, nat_le, List, [], ◌∷◌, ◌++◌, length, map, take, Some, None, Ok, Err, refl, sym, ap, subst, ◌∙◌, arith, length-append}
use Rattle.std.specs.Prelude.{pos, ◌<ℤ◌, filter, option_map}
use Rattle.std.specs.List.{AllByRecursion}
use Rattle.std.proofs.lemmas.Bool.{eq-eqb, leb-true}
use Rattle.std.proofs.lemmas.Int.{ints}
use Rattle.ct_value.specs.Bag.{bag_of}
use Rattle.ct_value.specs.Order.{number_of}
use Rattle.ct_value.specs.declared.row.Row.{Row}
use Rattle.ct_value.specs.declared.ty.ColTy.{ColTy}
use Rattle.ct_value.specs.declared.value.Value.{Value}
use Rattle.ct_field.specs.Typed.{cell, col_fits, row_fits, value_fits}
use Rattle.ct_change.specs.declared.kind.Kind.{Kind}
use Rattle.ct_change.specs.declared.kind.Kind.TheVariants.{I, UB, UA, D}
use Rattle.ct_change.specs.declared.change.Change.{Change}
use Rattle.ct_change.specs.Changelog.{append, Rows, adds, admits}
use Rattle.ct_change.proofs.laws.Meanings.{same_row-itself, same_row-true}
use Rattle.rel_algebra.specs.declared.agg.Agg.{Agg}
use Rattle.rel_algebra.specs.Aggregates.{values_of, agg_types}
use Rattle.rel_algebra.specs.GroupedCounts.{in_group}
use Rattle.rel_algebra.proofs.laws.Results.{all-first_seen}
use Rattle.agg_fns.specs.Partial.{net, partial_of}
use Rattle.agg_fns.specs.Reading.{parts_by}
use Rattle.op_rules.specs.History.{Arrival, at_port, joined}
use Rattle.op_rules.specs.Rules.{Answer, along}
use Rattle.op_rules.specs.Values.{types_fit}
use Rattle.op_rules.proofs.laws.Histories.{all-append, all-front, all-back, all-each, at_port-append, ok-same, both-appended}
use Rattle.op_rules.proofs.laws.Values.{types-length, types_of_row}
use Rattle.emission_rules.specs.Grouping.{answers, groups_of, row_count}
use Rattle.phase_rules.specs.LocalGrouping.{LocalGrouping, SumsUp, amounts, partials_of_calls, parts, parts_of_calls, are_silent, fit_after, rows_come, rows_gone, members_of, partial_row, local_answer, local_emits}
use Rattle.phase_rules.specs.LocalFits.{AreSummed}
use Rattle.phase_rules.specs.Merging.{is_partial_row}
use Rattle.phase_rules.proofs.laws.LocalSums.{rows_by, added, nothing_goes, front_of, all_members, named_groups}
use Rattle.phase_rules.proofs.laws.LocalWorths.{first, second, as_many, counts, no_rows}

pub comes_in : (kind : Kind) → admits append kind ≡ true → adds kind ≡ true
comes_in I e = refl
comes_in UB e = absurd (cc)
comes_in UA e = absurd (cc)
comes_in D e = absurd (cc)

both : (a b : Bool) → a ≡ true → b ≡ true → (a && b) ≡ true
both true b p q = q
both false b p q = absurd (cc)

-- the first values have the first columns' types
types_taken : (n : ℕ) (columns : List ColTy) (row : List Value) → types_fit columns row ≡ true → types_fit (take n columns) (take n row) ≡ true
types_taken zero columns row h = refl
types_taken (suc n) [] [] h = refl
types_taken (suc n) [] (value ∷ row) h = absurd (cc)
types_taken (suc n) (column ∷ columns) [] h = absurd (cc)
types_taken (suc n) (column ∷ columns) (value ∷ row) h =
    both (value_fits column.ty value) (types_fit (take n columns) (take n row)) (first (value_fits column.ty value) (types_fit columns row) h)
    (types_taken n columns row (second (value_fits column.ty value) (types_fit columns row) h))

many_partials : (aggs : List Agg) (come gone : Rows) → length (partials_of_calls aggs come gone) ≡ length (parts_of_calls aggs)
many_partials [] come gone = refl
many_partials (agg ∷ aggs) come gone =
    length-append (partial_of agg.call (values_of agg come) (values_of agg gone)) (partials_of_calls aggs come gone)
    ∙ (λ i. sym (as_many agg.call (values_of agg come) (values_of agg gone)) i + many_partials aggs come gone i)
    ∙ sym (length-append (parts_by agg.call) (parts_of_calls aggs))

cell_after : (key values : Row) → cell (length key) (key ++ values) ≡ cell 0 values
cell_after [] values = refl
cell_after (x ∷ key) values = cell_after key values

more_come : (a b n : ℕ) → a ≡ 1 + n → b ≡ 0 → pos 0 <ℤ net a b
more_come a b n p q = omega (arith, ints)

module _ (l : LocalGrouping) (sums_up : SumsUp l) where
  abbrev Typed : List Change → Type 0
  Typed changes = AllByRecursion (λ change. types_fit l.columns change.row ≡ true) changes

  keys_fit : l.keys ≤ length l.columns
  keys_fit = go (nat_le l.keys (length l.columns)) refl sums_up.typed
    where
      go : (b : Bool) → nat_le l.keys (length l.columns) ≡ b → cond b (option_map (λ results. take l.keys l.columns ++ results) (agg_types l.columns (l.keys == 0) l.aggs)) None ≡ Some sums_up.made → l.keys ≤ length l.columns
      go true t e = leb-true l.keys (length l.columns) t
      go false t e = absurd (cc)

  pub wide_of : (changes : List Change) → Typed changes → AllByRecursion (λ change. l.keys ≤ length change.row) changes
  wide_of changes typed = all-each (λ change. types_fit l.columns change.row ≡ true) (λ change. l.keys ≤ length change.row) (λ change t. let k = keys_fit in let e = types-length l.columns change.row t in omega (arith, k, e)) changes typed

  -- ---- what holds of each change that is sent

  -- a change of the input, of its columns
  abbrev pub IsTaken : Change → Type 0
  IsTaken change = (row_fits l.columns change.row ≡ true) × (admits l.input change.kind ≡ true)

  typed_of : (changes : List Change) → AllByRecursion IsTaken changes → Typed changes
  typed_of changes taken = all-each IsTaken (λ change. types_fit l.columns change.row ≡ true) (λ change t. types_of_row l.columns change.row t.0) changes taken

  whole_of : (changes : List Change) → AllByRecursion IsTaken changes → AllByRecursion (λ change. row_fits l.columns change.row ≡ true) changes
  whole_of changes taken = all-each IsTaken (λ change. row_fits l.columns change.row ≡ true) (λ change t. t.0) changes taken

  kinds_of : (changes : List Change) → AllByRecursion IsTaken changes → AllByRecursion (λ change. admits l.input change.kind ≡ true) changes
  kinds_of changes taken = all-each IsTaken (λ change. admits l.input change.kind ≡ true) (λ change t. t.1) changes taken

  own_members : (key : Row) (changes : List Change) → AllByRecursion (λ change. in_group l.keys key change.row ≡ true) (members_of l.keys key changes)
  own_members key [] = tt
  own_members key (x ∷ xs) =
      elim (in_group l.keys key x.row) as (λ b. in_group l.keys key x.row ≡ b → AllByRecursion (λ change. in_group l.keys key change.row ≡ true) (cond b (x ∷ members_of l.keys key xs) (members_of l.keys key xs))) [
        | true ↦ λ e. (e, own_members key xs)
        | false ↦ λ e. own_members key xs
      ] refl

  -- each group of changes has one
  abbrev HasSome : List Change → Row → Type 0
  HasSome changes key = 0 < length (members_of l.keys key changes)

  all_some : (changes : List Change) → AllByRecursion (HasSome changes) (map (λ change. take l.keys change.row) changes)
  all_some [] = tt
  all_some (x ∷ xs) = (
    subst (λ b. 0 < length (cond b (x ∷ members_of l.keys (take l.keys x.row) xs) (members_of l.keys (take l.keys x.row) xs))) (sym (same_row-itself (take l.keys x.row))) (omega arith),
    all-each (HasSome xs) (HasSome (x ∷ xs)) more (map (λ change. take l.keys change.row) xs) (all_some xs),
  )
    where
      more : (key : Row) → HasSome xs key → HasSome (x ∷ xs) key
      more key h = elim (in_group l.keys key x.row) as (λ b. 0 < length (cond b (x ∷ members_of l.keys key xs) (members_of l.keys key xs))) [ true ↦ omega arith | false ↦ h ]

  module _ (P : Change → Type 0) (each : (key : Row) (changes : List Change) → AreSummed l key changes → P (record { kind = I; row = partial_row l.aggs key changes })) where
    each_group : (changes : List Change) → AllByRecursion IsTaken changes → (keys : List Row) → AllByRecursion (λ key. length key ≡ l.keys) keys → AllByRecursion (HasSome changes) keys → (told : List Change)
        → answers (λ key. local_answer l.aggs key (members_of l.keys key changes)) keys ≡ Ok told → AllByRecursion P told
    each_group changes taken [] named some told e = subst (AllByRecursion P) (sym (ok-same [] told e)) tt
    each_group changes taken (key ∷ keys) named some told e =
        let both = both-appended (local_answer l.aggs key mine) (answers (λ k. local_answer l.aggs k (members_of l.keys k changes)) keys) told e in
        subst (AllByRecursion P) (sym both.whole)
        (all-append P both.front both.back (one (fit_after l.aggs [] mine) refl (are_silent l.aggs (rows_come mine) (rows_gone mine)) both.front both.is_front) (each_group changes taken keys named.1 some.1 both.back both.is_back))
      where
        mine : List Change
        mine = members_of l.keys key changes

        summed : fit_after l.aggs [] mine ≡ true → AreSummed l key mine
        summed f = record {
          named = named.0;
          some = some.0;
          kinds = all_members (λ change. admits l.input change.kind ≡ true) l.keys key changes (kinds_of changes taken);
          whole = all_members (λ change. row_fits l.columns change.row ≡ true) l.keys key changes (whole_of changes taken);
          types = all_members (λ change. types_fit l.columns change.row ≡ true) l.keys key changes (typed_of changes taken);
          own = own_members key changes;
          fit = f;
        }

        one : (fit : Bool) → fit_after l.aggs [] mine ≡ fit → (silent : Bool) (front : List Change)
            → (let r : Answer = cond fit (Ok (cond silent [] (record { kind = I; row = partial_row l.aggs key mine } ∷ []))) (Err key) in r ≡ Ok front) → AllByRecursion P front
        one true f true front q = subst (AllByRecursion P) (sym (ok-same [] front q)) tt
        one true f false front q = subst (AllByRecursion P) (sym (ok-same _ front q)) (each key mine (summed f), tt)
        one false f silent front q = absurd (cc)

    pub each_piece : (before : List Arrival) (pieces : List (List Arrival)) (sent : List Change) → AllByRecursion IsTaken (at_port 0 (joined pieces))
        → along (λ earlier piece. local_emits l (at_port 0 piece)) before pieces ≡ Ok sent → AllByRecursion P sent
    each_piece before [] sent taken e = subst (AllByRecursion P) (sym (ok-same [] sent e)) tt
    each_piece before (piece ∷ pieces) sent taken e =
        let both = both-appended (local_emits l (at_port 0 piece)) (along (λ earlier other. local_emits l (at_port 0 other)) (before ++ piece) pieces) sent e in
        let parted = subst (AllByRecursion IsTaken) (at_port-append 0 piece (joined pieces)) taken in
        let here = all-front IsTaken (at_port 0 piece) (at_port 0 (joined pieces)) parted in
        let later = all-back IsTaken (at_port 0 piece) (at_port 0 (joined pieces)) parted in
        subst (AllByRecursion P) (sym both.whole)
        (all-append P both.front both.back
        (each_group (at_port 0 piece) here (groups_of l.keys (at_port 0 piece)) (named_groups l [] (at_port 0 piece) (wide_of (at_port 0 piece) (typed_of (at_port 0 piece) here)))
        (all-first_seen (HasSome (at_port 0 piece)) (map (λ change. take l.keys change.row) (at_port 0 piece)) (all_some (at_port 0 piece))) both.front both.is_front)
        (each_piece (before ++ piece) pieces both.back later both.is_back))

-- ---- partial rows of changes of one group

-- they have the key's types, and as many columns as are read
pub partial_row_fits : (l : LocalGrouping) (key : Row) (changes : List Change) → AreSummed l key changes → is_partial_row l (partial_row l.aggs key changes) ≡ true
partial_row_fits l key [] summed = absurd (let some = summed.some in omega (arith, some))
partial_row_fits l key (x ∷ xs) summed =
    both (types_fit (take l.keys l.columns) (take l.keys row)) (length row == l.keys + length (parts l.aggs))
    (ap (types_fit (take l.keys l.columns)) (own ∙ same_row-true key (take l.keys x.row) summed.own.0) ∙ types_taken l.keys l.columns x.row summed.types.0)
    (eq-eqb (length row) (l.keys + length (parts l.aggs)) long)
  where
    values : List Value
    values = amounts l.aggs (rows_come (x ∷ xs)) (rows_gone (x ∷ xs))

    row : Row
    row = partial_row l.aggs key (x ∷ xs)

    own : take l.keys row ≡ key
    own = ap (λ n. take n row) (sym summed.named) ∙ front_of key values

    long : length row ≡ l.keys + length (parts l.aggs)
    long =
        length-append key values
        ∙ (λ i. summed.named i + suc (many_partials l.aggs (rows_come (x ∷ xs)) (rows_gone (x ∷ xs)) i))

-- the first values fit the first columns
row_taken : (n : ℕ) (columns : List ColTy) (row : List Value) → row_fits columns row ≡ true → row_fits (take n columns) (take n row) ≡ true
row_taken zero columns row h = refl
row_taken (suc n) [] [] h = refl
row_taken (suc n) [] (value ∷ row) h = absurd (cc)
row_taken (suc n) (column ∷ columns) [] h = absurd (cc)
row_taken (suc n) (column ∷ columns) (value ∷ row) h =
    both (col_fits column value) (row_fits (take n columns) (take n row)) (first (col_fits column value) (row_fits columns row) h)
    (row_taken n columns row (second (col_fits column value) (row_fits columns row) h))

-- their keys fit the key's columns
pub partial_key_fits : (l : LocalGrouping) (key : Row) (changes : List Change) → AreSummed l key changes → row_fits (take l.keys l.columns) (take l.keys (partial_row l.aggs key changes)) ≡ true
partial_key_fits l key [] summed = absurd (let some = summed.some in omega (arith, some))
partial_key_fits l key (x ∷ xs) summed =
    ap (row_fits (take l.keys l.columns)) (own ∙ same_row-true key (take l.keys x.row) summed.own.0) ∙ row_taken l.keys l.columns x.row summed.whole.0
  where
    own : take l.keys (partial_row l.aggs key (x ∷ xs)) ≡ key
    own = ap (λ n. take n (partial_row l.aggs key (x ∷ xs))) (sym summed.named) ∙ front_of key (amounts l.aggs (rows_come (x ∷ xs)) (rows_gone (x ∷ xs)))

-- where rows only come, they say that some have come
pub partial_row_grows : (l : LocalGrouping) (key : Row) (changes : List Change) → AreSummed l key changes → l.input ≡ append → pos 0 <ℤ number_of (cell l.keys (partial_row l.aggs key changes))
partial_row_grows l key [] summed only = absurd (let some = summed.some in omega (arith, some))
partial_row_grows l key (x ∷ xs) summed only =
    subst (λ v. pos 0 <ℤ number_of v) (sym (ap (λ n. cell n (key ++ values)) (sym summed.named) ∙ cell_after key values))
    (more_come (row_count (rows_come (x ∷ xs))) (row_count (rows_gone (x ∷ xs))) (row_count (bag_of (rows_by added xs))) come gone)
  where
    values : List Value
    values = amounts l.aggs (rows_come (x ∷ xs)) (rows_gone (x ∷ xs))

    all : AllByRecursion (λ change. adds change.kind ≡ true) (x ∷ xs)
    all = all-each (λ change. admits l.input change.kind ≡ true) (λ change. adds change.kind ≡ true) (λ change h. comes_in change.kind (subst (λ mode. admits mode change.kind ≡ true) only h)) (x ∷ xs) summed.kinds

    come : row_count (rows_come (x ∷ xs)) ≡ 1 + row_count (bag_of (rows_by added xs))
    come =
        ap (λ b. row_count (bag_of (map (λ (change : Change). change.row) (cond b (x ∷ filter added xs) (filter added xs))))) all.0
        ∙ counts (bag_of (rows_by added xs)) x.row

    gone : row_count (rows_gone (x ∷ xs)) ≡ 0
    gone = ap (λ rows. row_count (bag_of rows)) (nothing_goes (x ∷ xs) all) ∙ no_rows
