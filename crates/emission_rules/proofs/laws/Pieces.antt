-- What a group tells of a piece, group by group, and along a history.
use Rattle.std.proofs.Common.{◌≡◌, ℕ, ◌≤◌, ◌==◌, Bool, true, false, cond, not, ◌&&◌, ◌||◌, List, [], ◌∷◌, ◌++◌, map, length, take, Option, Some, None, Ok, Err, refl, sym, ap, subst, ◌∙◌, arith, append_assoc, append-nil}
use Rattle.std.specs.Prelude.{option_map, is_some, nat_le}
use Rattle.std.specs.List.{list_any, AllByRecursion, IsDistinct}
use Rattle.std.specs.Cmp.{eq_by_cmp_equiv}
use Rattle.std.proofs.lemmas.Bool.{eqb-true, eq-eqb, leb-true, and_parts, false≢true}
use Rattle.std.proofs.lemmas.List.{length-take-le}
use Rattle.std.proofs.lemmas.Map.Keys.{IsDistinct-head, IsDistinct-tail}
use Rattle.ct_value.specs.Bag.{none}
use Rattle.ct_value.proofs.laws.Bags.{copies-none, total-none}
use Rattle.ct_value.specs.Order.{value_cmp, value_total, value_exact, row_cmp, row_total, row_exact}
use Rattle.ct_value.specs.declared.row.Row.{Row}
use Rattle.ct_value.specs.declared.ty.Ty.{Ty}
use Rattle.ct_value.specs.declared.ty.ColTy.{ColTy}
use Rattle.ct_value.specs.declared.value.Value.{Value}
use Rattle.ct_value.specs.declared.value.Value.TheVariants.{Null}
use Rattle.ct_field.specs.Typed.{is_null}
use Rattle.ct_change.specs.declared.kind.Kind.{Kind}
use Rattle.ct_change.specs.declared.kind.Kind.TheVariants.{I, UB, UA, D}
use Rattle.ct_change.specs.declared.kind.KindSet.{KindSet}
use Rattle.ct_change.specs.declared.change.Change.{Change}
use Rattle.ct_change.specs.Changelog.{Mode, append, retract, upsert, Rows, same_row, admits, adds, has, fold, fold_from, apply, IsValidFrom}
use Rattle.ct_change.specs.Emission.{emission, update}
use Rattle.ct_change.specs.KeyRows.{deleted, row_told}
use Rattle.ct_change.proofs.laws.Folds.{IsValidFrom-front, IsValidFrom-back, append_only}
use Rattle.ct_change.proofs.laws.Meanings.{same_row-true, same_row-itself}
use Rattle.rel_algebra.specs.declared.agg.Agg.{Agg}
use Rattle.rel_algebra.specs.declared.agg.AggCall.{AggCall}
use Rattle.rel_algebra.specs.declared.agg.AggCall.TheVariants.{CountAll, Count, CountDistinct, Sum, Min, Max, Avg}
use Rattle.rel_algebra.specs.Aggregates.{size, known, sum_of, in_type, sum_type, average, values_of, argument, passes, count_value, type_in, ty_or_bigint, agg_value, agg_result, agg_results, agg_types}
use Rattle.rel_algebra.specs.Clauses.{Fits, collect}
use Rattle.rel_algebra.specs.Sums.{Each, distinct, mapped}
use Rattle.rel_algebra.proofs.laws.Bags.{each-copies, copies-each, restrict-none, distinct-none, mapped-none}
use Rattle.rel_algebra.proofs.laws.Fits.{fits-length}
use Rattle.rel_algebra.specs.GroupedCounts.{first_seen, group_size, AreWide}
use Rattle.rel_algebra.proofs.laws.Results.{any-first_seen, distinct-first_seen, all-first_seen}
use Rattle.op_rules.specs.History.{Arrival, at_port, joined}
use Rattle.op_rules.specs.Rules.{Answer, appended, along}
use Rattle.op_rules.proofs.laws.Histories.{at_port-append, rows_after, all-append, all-front, all-back, all-each, ok-same, both-appended}
use Rattle.emission_rules.specs.GroupFits.{has_calls, output_kinds, is_home}
use Rattle.ct_change.specs.Kinds.{has_more_than_inserts}
use Rattle.emission_rules.specs.Grouping.{Grouping, members, row_count, is_shown, results, row_of, group_row, fits_along, is_counted, groups_of, answers, group_emits, emits, opening, TellsGroups, IsSound}
use Rattle.op_rules.specs.Values.{types_fit}
use Rattle.op_rules.proofs.laws.Values.{types-length}
use Rattle.emission_rules.specs.Arriving.{FitsIn}
use Rattle.emission_rules.proofs.laws.Arriving.{come-fit}
use Rattle.emission_rules.proofs.laws.GroupAnswers.{shown_by, AreCounted, row_fits_made, row_of_group}
use Rattle.emission_rules.proofs.laws.Members.{row_count-members, other_members_from, all_from, grows_from}
use Rattle.emission_rules.proofs.laws.Turns.{Shown, nothing_shown, Turns, turns-append, Names, CanShow, IsOf, is_told, shown_at, same_shown, turns_emission}

-- ---- groups of no rows

values_none : (agg : Agg) → values_of agg none ≡ none
values_none agg = ap (mapped (argument agg.arg)) (restrict-none {R = row_cmp} row_total row_exact (passes agg.filter)) ∙ mapped-none {S = value_cmp} value_total value_exact row_cmp (argument agg.arg)

known_none : known none ≡ none
known_none = restrict-none {R = value_cmp} value_total value_exact (λ value. not (is_null value))

size_none : size none ≡ 0
size_none = total-none {R = value_cmp} value_total (λ _. 1)

if_none : (n : ℕ) (o : Option Value) → n ≡ 0 → is_some (cond (n == 0) (Some Null) o) ≡ true
if_none n o e = ap (λ m. is_some (cond (m == 0) (Some Null) o)) e

value_of_none : (call : AggCall) (ty : Ty) → is_some (agg_value call ty none) ≡ true
value_of_none CountAll ty = ap (λ n. is_some (count_value n)) size_none
value_of_none Count ty = ap (λ n. is_some (count_value n)) (ap size known_none ∙ size_none)
value_of_none CountDistinct ty = ap (λ n. is_some (count_value n)) (ap (λ k. size (distinct k)) known_none ∙ ap size (distinct-none {R = value_cmp} value_total value_exact) ∙ size_none)
value_of_none Sum ty = if_none (size (known none)) (in_type (sum_type ty) (sum_of (known none))) (ap size known_none ∙ size_none)
value_of_none Min ty = refl
value_of_none Max ty = refl
value_of_none Avg ty = if_none (size (known none)) (average ty (sum_of (known none)) (size (known none))) (ap size known_none ∙ size_none)

pub counted_none : (columns : List ColTy) (aggs : List Agg) → is_some (agg_results columns aggs none) ≡ true
counted_none columns [] = refl
counted_none columns (agg ∷ aggs) =
    go (agg_result columns none agg) (map (agg_result columns none) aggs)
    (ap (λ v. is_some (agg_value agg.call (ty_or_bigint (type_in columns agg.arg)) v)) (values_none agg) ∙ value_of_none agg.call (ty_or_bigint (type_in columns agg.arg))) (counted_none columns aggs)
  where
    more : (value : Value) (o : Option Row) → is_some o ≡ true → is_some (option_map (λ values. value ∷ values) o) ≡ true
    more value None e = e
    more value (Some values) e = refl

    go : (o : Option Value) (others : List (Option Value)) → is_some o ≡ true → is_some (collect others) ≡ true → is_some (collect (o ∷ others)) ≡ true
    go None others e f = e
    go (Some value) others e f = more value (collect others) f

-- ---- what holds of each change of an emission

all_update : (P : Change → Type 0) (output : Mode) (old fresh : Row) → (admits output UB ≡ true → P (record { kind = UB; row = old })) → (admits output UA ≡ true → P (record { kind = UA; row = fresh })) → AllByRecursion P (update output old fresh)
all_update P append old fresh before after = tt
all_update P retract old fresh before after = (before refl, (after refl, tt))
all_update P (upsert key) old fresh before after = (after refl, tt)

pub all_emission : (P : Change → Type 0) (output : Mode) (old fresh : Option Row)
    → ((row : Row) → fresh ≡ Some row → P (record { kind = I; row = row }))
    → ((row : Row) → old ≡ Some row → fresh ≡ None → P (record { kind = D; row = deleted output row }))
    → ((a b : Row) → old ≡ Some a → fresh ≡ Some b → same_row a b ≡ false → (admits output UB ≡ true → P (record { kind = UB; row = a })) × (admits output UA ≡ true → P (record { kind = UA; row = b })))
    → AllByRecursion P (emission output old fresh)
all_emission P output None None comes goes turns = tt
all_emission P output None (Some fresh) comes goes turns = (comes fresh refl, tt)
all_emission P output (Some old) None comes goes turns = (goes old refl refl, tt)
all_emission P output (Some old) (Some fresh) comes goes turns =
    elim (same_row old fresh) as (λ b. same_row old fresh ≡ b → AllByRecursion P (cond b [] (update output old fresh))) [
      | true ↦ λ e. tt
      | false ↦ λ e. let each = turns old fresh refl refl e in all_update P output old fresh each.0 each.1
    ] refl

pub in_range : (b : Bool) (changes sent : List Change) (key : Row) → (let r : Answer = cond b (Ok changes) (Err key) in r ≡ Ok sent) → (b ≡ true) × (sent ≡ changes)
in_range true changes sent key e = (refl, cc)
in_range false changes sent key e = absurd (cc)

pub all-any : (P : Row → Type 0) (groups : List Row) → AllByRecursion P groups → (key : Row) → list_any (same_row key) groups ≡ true → P key
all-any P [] all key e = absurd (cc)
all-any P (other ∷ groups) all key e =
    elim (same_row key other) as (λ b. same_row key other ≡ b → (b || list_any (same_row key) groups) ≡ true → P key) [
      | true ↦ λ t h. subst P (sym (same_row-true key other t)) all.0
      | false ↦ λ t h. all-any P groups all.1 key h
    ] refl e

pub only_inserts : (kinds : KindSet) (kind : Kind) → has_more_than_inserts kinds ≡ false → has kinds kind ≡ true → adds kind ≡ true
only_inserts kinds I none some = refl
only_inserts kinds UB none some = absurd (elim kinds.ub as (λ b. (b || (kinds.ua || kinds.d)) ≡ false → b ≡ true → ⊥) [ true ↦ λ n s. cc | false ↦ λ n s. cc ] none some)
only_inserts kinds UA none some = refl
only_inserts kinds D none some = absurd (elim kinds.ub as (λ b. (b || (kinds.ua || kinds.d)) ≡ false → kinds.d ≡ true → ⊥) [
  | true ↦ λ n s. cc
  | false ↦ λ n s. elim kinds.ua as (λ b. (b || kinds.d) ≡ false → kinds.d ≡ true → ⊥) [ true ↦ λ m t. cc | false ↦ λ m t. cc ] n s
] none some)

all_append : (rows : Rows) (changes : List Change) → IsValidFrom append rows changes → AllByRecursion (λ change. adds change.kind ≡ true) changes
all_append rows [] valid = tt
all_append rows (change ∷ changes) valid = (append_only change.kind valid.0, all_append (apply append rows change) changes valid.1)

-- groups by soundness, whose keys are of this subtask, and whose input has these kinds
module _ (g : Grouping) (sound : IsSound g) (Here : Row → Type 0) (kinds : KindSet) where
  -- what is known of each change that is told
  pub record IsTold (change : Change) : Type 0 where
    pub named : length (take g.keys change.row) ≡ g.keys
    pub here : Here (take g.keys change.row)
    -- the group's row
    pub whole : Row
    pub fits : Fits sound.made whole
    pub tells : change.row ≡ row_told g.output (adds change.kind) whole
    pub kind : has (output_kinds g kinds) change.kind ≡ true

  told : (kind : Kind) (row whole key : Row) → row ≡ row_told g.output (adds kind) whole → length key ≡ g.keys → Here key → take g.keys row ≡ key → Fits sound.made whole → has (output_kinds g kinds) kind ≡ true
      → IsTold (record { kind = kind; row = row })
  told kind row whole key told_so named here is fits allowed = record {
    named = ap length is ∙ named;
    here = subst Here (sym is) here;
    whole = whole;
    fits = fits;
    tells = told_so;
    kind = allowed;
  }

  -- the key of an upsert changelog names the group
  pub names : (mode : Mode) → TellsGroups g mode → Names g.keys mode
  names append tells = tt
  names retract tells = tt
  names (upsert columns) tells = tells

  -- where old rows are told, they are told as they are
  old_as_it_is : (mode : Mode) (row : Row) → admits mode UB ≡ true → row ≡ deleted mode row
  old_as_it_is append row allowed = absurd (cc)
  old_as_it_is retract row allowed = refl
  old_as_it_is (upsert columns) row allowed = absurd (cc)

  -- ---- one group

  shown_where : (rows : Rows) (key row : Row) → group_row g rows key ≡ Some row → is_shown g (members g key rows) ≡ true
  shown_where rows key row e =
      elim (is_shown g (members g key rows)) as (λ b. cond b (row_of g key (members g key rows)) None ≡ Some row → b ≡ true) [ true ↦ λ q. refl | false ↦ λ q. absurd (cc) ] e

  row_where : (o : Option Row) (key : Row) → is_some o ≡ true → (row : Row) × (option_map (λ values. key ++ values) o ≡ Some row)
  row_where None key e = absurd (cc)
  row_where (Some values) key e = (key ++ values, refl)

  -- a group that has results and is shown has a row
  has_row : (rows : Rows) (key : Row) → is_counted g rows key ≡ true → is_shown g (members g key rows) ≡ true → (row : Row) × (group_row g rows key ≡ Some row)
  has_row rows key counted shown =
      let row = row_where (results g (members g key rows)) key counted in
      (row.0, ap (λ b. cond b (row_of g key (members g key rows)) None) shown ∙ row.1)

  -- without calls the row is the key
  key_alone : g.aggs ≡ [] → (rows : Rows) (key row : Row) → group_row g rows key ≡ Some row → row ≡ key ++ []
  key_alone none_called rows key row e =
      let some : results g (members g key rows) ≡ Some [] = ap (λ aggs. agg_results g.columns aggs (members g key rows)) none_called in
      let is : Some (key ++ []) ≡ Some row =
      sym (ap (option_map (λ values. key ++ values)) some)
      ∙ sym (ap (λ b. cond b (row_of g key (members g key rows)) None) (shown_where rows key row e)) ∙ e in
      cc

  shown-grows : (rows new : Rows) (key : Row) → group_size g.keys rows key ≤ group_size g.keys new key → is_shown g (members g key rows) ≡ true → is_shown g (members g key new) ≡ true
  shown-grows rows new key grows shown =
      elim (g.keys == 0) as (λ b. (b || not (row_count (members g key rows) == 0)) ≡ true → (b || not (row_count (members g key new) == 0)) ≡ true) [
        | true ↦ λ h. refl
        | false ↦ λ h. elim (row_count (members g key new) == 0) as (λ b. (row_count (members g key new) == 0) ≡ b → not b ≡ true) [
          | true ↦ λ z. absurd (
              let gone = eqb-true (row_count (members g key new)) 0 z in
              let a = row_count-members g key rows in
              let b = row_count-members g key new in
              let none_before : (row_count (members g key rows) == 0) ≡ true = eq-eqb (row_count (members g key rows)) 0 (omega arith) in
              false≢true (sym (ap not none_before) ∙ h))
          | false ↦ λ z. refl
        ] refl
      ] shown

  module _ (rows new : Rows) (fits_old : Each (Fits g.columns) rows) (fits_new : Each (Fits g.columns) new)
      (grows : has_more_than_inserts kinds ≡ false → (key : Row) → group_size g.keys rows key ≤ group_size g.keys new key)
      (grows_append : g.input ≡ append → (key : Row) → group_size g.keys rows key ≤ group_size g.keys new key)
      (key : Row) (named : length key ≡ g.keys) (here : Here key) (counted : is_counted g new key ≡ true) where
    told_as : (kind : Kind) (m : Rows) → Each (Fits g.columns) m → (row : Row) → group_row g m key ≡ Some row → row ≡ row_told g.output (adds kind) row → has (output_kinds g kinds) kind ≡ true → IsTold (record { kind = kind; row = row })
    told_as kind m fits row e is allowed =
        told kind row row key is named here (row_of_group g key (members g key m) row named e).0 (row_fits_made g sound.made sound.typed key m named fits row e) allowed

    told_gone : (m : Rows) → Each (Fits g.columns) m → (row : Row) → group_row g m key ≡ Some row → has (output_kinds g kinds) D ≡ true → IsTold (record { kind = D; row = deleted g.output row })
    told_gone m fits row e allowed =
        told D (deleted g.output row) row key refl named here (is_told g.keys g.output (names g.output sound.tells) key row (row_of_group g key (members g key m) row named e)).0
        (row_fits_made g sound.made sound.typed key m named fits row e) allowed

    goes_kind : (row : Row) → group_row g rows key ≡ Some row → group_row g new key ≡ None → (not (g.keys == 0) && has_more_than_inserts kinds) ≡ true
    goes_kind row was gone =
        let not_shown : is_shown g (members g key new) ≡ false =
        elim (is_shown g (members g key new)) as (λ b. is_shown g (members g key new) ≡ b → b ≡ false) [
          | true ↦ λ s. absurd (let there = has_row new key counted s in let both : None ≡ Some there.0 = sym gone ∙ there.1 in cc)
          | false ↦ λ s. refl
        ] refl in
        let keyed : (g.keys == 0) ≡ false = elim (g.keys == 0) as (λ b. (b || not (row_count (members g key new) == 0)) ≡ false → b ≡ false) [ true ↦ λ h. absurd (cc) | false ↦ λ h. refl ] not_shown in
        ap (λ b. not b && has_more_than_inserts kinds) keyed
        ∙ elim (has_more_than_inserts kinds) as (λ b. has_more_than_inserts kinds ≡ b → b ≡ true) [
          | true ↦ λ e. refl
          | false ↦ λ e. absurd (false≢true (sym not_shown ∙ shown-grows rows new key (grows e key) (shown_where rows key row was)))
        ] refl

    -- rows that differ have calls
    calls : (a b : Row) → group_row g rows key ≡ Some a → group_row g new key ≡ Some b → same_row a b ≡ false → (t : Bool) → t ≡ true → (has_calls g.aggs && t) ≡ true
    calls a b was is apart t allowed = go g.aggs refl
      where
        go : (aggs : List Agg) → g.aggs ≡ aggs → (has_calls aggs && t) ≡ true
        go [] e = absurd (false≢true (sym apart ∙ (ap (λ r. same_row r b) (key_alone e rows key a was ∙ sym (key_alone e new key b is)) ∙ same_row-itself b)))
        go (agg ∷ aggs) e = allowed

    told_group : AllByRecursion IsTold (emission g.output (group_row g rows key) (group_row g new key))
    told_group = all_emission IsTold g.output (group_row g rows key) (group_row g new key)
        (λ row is. told_as I new fits_new row is refl refl)
        (λ row was gone. told_gone rows fits_old row was (goes_kind row was gone))
        (λ a b was is apart. (
          λ allowed. told_as UB rows fits_old a was (old_as_it_is g.output a allowed) (calls a b was is apart (admits g.output UB) allowed),
          λ allowed. told_as UA new fits_new b is refl (calls a b was is apart (admits g.output UA) allowed),
        ))

    can_show : (mode : Mode) → TellsGroups g mode → CanShow g.keys mode (group_row g rows key) (group_row g new key)
    can_show append tells = λ row was.
        let shown = shown-grows rows new key (grows_append tells.1 key) (shown_where rows key row was) in
        let fresh = has_row new key counted shown in
        fresh.1 ∙ ap Some (key_alone tells.0 new key fresh.0 fresh.1 ∙ sym (key_alone tells.0 rows key row was))
    can_show retract tells = tt
    can_show (upsert columns) tells = tt

    pub one_group : (shown : Shown) → shown key ≡ group_row g rows key
        → Turns g.keys g.output shown (emission g.output (group_row g rows key) (group_row g new key)) (shown_at g.keys shown key (group_row g new key)) × AllByRecursion IsTold (emission g.output (group_row g rows key) (group_row g new key))
    one_group shown e = (
      turns_emission g.keys g.output (names g.output sound.tells) shown key (group_row g rows key) (group_row g new key)
          (is_of (group_row g rows key) (λ row q. row_of_group g key (members g key rows) row named q)) (is_of (group_row g new key) (λ row q. row_of_group g key (members g key new) row named q))
          (can_show g.output sound.tells) e,
      told_group,
    )
      where
        is_of : (o : Option Row) → ((row : Row) → o ≡ Some row → (take g.keys row ≡ key) × (g.keys ≤ length row)) → IsOf g.keys key o
        is_of None h = tt
        is_of (Some row) h = h row refl

  -- ---- the groups of a piece, in turn

  module _ (rows : Rows) (changes : List Change) where
    abbrev new : Rows
    new = fold_from g.input rows changes

    -- another row shown for each of these groups
    abbrev over : Shown → List Row → Shown
    over shown groups = λ key. cond (list_any (same_row key) groups) (group_row g new key) (shown key)

    -- a group that is still to be told
    abbrev IsNext : Shown → Row → Type 0
    IsNext shown key = (length key ≡ g.keys) × Here key × (shown key ≡ group_row g rows key)

    still_next : (shown : Shown) (key : Row) (groups : List Row) → AllByRecursion (λ other. same_row key other ≡ false) groups → AllByRecursion (IsNext shown) groups → AllByRecursion (IsNext (shown_at g.keys shown key (group_row g new key))) groups
    still_next shown key [] apart next = tt
    still_next shown key (other ∷ groups) apart next = (
      (next.0.0, next.0.1, ap (λ b. cond b (group_row g new key) (shown other)) ((eq_by_cmp_equiv row_total).symm other key ∙ apart.0) ∙ next.0.2),
      still_next shown key groups apart.1 next.1,
    )

    over-first : (shown : Shown) (key : Row) (groups : List Row) → over (shown_at g.keys shown key (group_row g new key)) groups ≡ over shown (key ∷ groups)
    over-first shown key groups = same_shown g.keys _ _ (λ other.
        elim (same_row other key) as (λ b. same_row other key ≡ b → cond (list_any (same_row other) groups) (group_row g new other) (cond b (group_row g new key) (shown other)) ≡ cond (b || list_any (same_row other) groups) (group_row g new other) (shown other)) [
          | true ↦ λ e. elim (list_any (same_row other) groups) as (λ b. cond b (group_row g new other) (group_row g new key) ≡ group_row g new other) [ true ↦ refl | false ↦ ap (group_row g new) (sym (same_row-true other key e)) ]
          | false ↦ λ e. refl
        ] refl)

    module _ (fits_old : Each (Fits g.columns) rows) (fits_new : Each (Fits g.columns) new)
        (grows : has_more_than_inserts kinds ≡ false → (key : Row) → group_size g.keys rows key ≤ group_size g.keys new key)
        (grows_append : g.input ≡ append → (key : Row) → group_size g.keys rows key ≤ group_size g.keys new key) where
      in_turn : (shown : Shown) (groups : List Row) (more : List Change) → IsDistinct same_row groups → AllByRecursion (IsNext shown) groups → answers (group_emits g rows changes) groups ≡ Ok more
          → Turns g.keys g.output shown more (over shown groups) × AllByRecursion IsTold more × AllByRecursion (λ key. is_counted g new key ≡ true) groups
      in_turn shown [] more distinct next ok =
          let nothing : more ≡ [] = (let same : ◌≡◌ {A = Answer} (Ok []) (Ok more) = ok in cc) in
          (subst (λ l. Turns g.keys g.output shown l (over shown [])) (sym nothing) refl, subst (AllByRecursion IsTold) (sym nothing) tt, tt)
      in_turn shown (key ∷ groups) more distinct next ok =
          let both = both-appended (group_emits g rows changes key) (answers (group_emits g rows changes) groups) more ok in
          let ranged = in_range (fits_along g key rows changes && is_counted g new key) (emission g.output (group_row g rows key) (group_row g new key)) both.front key both.is_front in
          let counted = (and_parts (fits_along g key rows changes) (is_counted g new key) ranged.0).1 in
          let one = one_group rows new fits_old fits_new grows grows_append key next.0.0 next.0.1 counted shown next.0.2 in
          let rest = in_turn (shown_at g.keys shown key (group_row g new key)) groups both.back (IsDistinct-tail same_row key groups distinct) (still_next shown key groups (IsDistinct-head same_row key groups distinct) next.1) both.is_back in (
            subst (λ l. Turns g.keys g.output shown l (over shown (key ∷ groups))) (sym both.whole)
                (turns-append g.keys g.output shown (shown_at g.keys shown key (group_row g new key)) (over shown (key ∷ groups)) both.front both.back
                (subst (λ l. Turns g.keys g.output shown l (shown_at g.keys shown key (group_row g new key))) (sym ranged.1) one.0)
                (subst (λ s. Turns g.keys g.output (shown_at g.keys shown key (group_row g new key)) both.back s) (over-first shown key groups) rest.0)),
            subst (AllByRecursion IsTold) (sym both.whole) (all-append IsTold both.front both.back (subst (AllByRecursion IsTold) (sym ranged.1) one.1) rest.1),
            (counted, rest.2),
          )

  -- ---- along a history

  -- a change that is taken: its row fits the columns as far as it is told, its group is here, and its kind is one of the edge's
  pub record IsTaken (change : Change) : Type 0 where
    pub fits : FitsIn g.input g.columns change
    pub here : Here (take g.keys change.row)
    pub kind : has kinds change.kind ≡ true

  -- what is known of the rows that stand and of all that was told
  pub record Stands (rows : Rows) (sent : List Change) : Type 0 where
    pub fits : Each (Fits g.columns) rows
    pub counted : AreCounted g rows
    pub turns : Turns g.keys g.output nothing_shown sent (shown_by g rows)
    pub told : AllByRecursion IsTold sent

  keys_fit : g.keys ≤ length g.columns
  keys_fit = go (nat_le g.keys (length g.columns)) refl sound.typed
    where
      go : (b : Bool) → nat_le g.keys (length g.columns) ≡ b → cond b (option_map (λ results. take g.keys g.columns ++ results) (agg_types g.columns (g.keys == 0) g.aggs)) None ≡ Some sound.made → g.keys ≤ length g.columns
      go true t e = leb-true g.keys (length g.columns) t
      go false t e = absurd (cc)

  pub long_wide : (row : Row) → length row ≡ length g.columns → g.keys ≤ length row
  long_wide row long = let k = keys_fit in omega (arith, long)

  pub fits_wide : (row : Row) → Fits g.columns row → g.keys ≤ length row
  fits_wide row fits = long_wide row (fits-length g.columns row fits)

  pub types_wide : (row : Row) → types_fit g.columns row ≡ true → g.keys ≤ length row
  types_wide row fits = long_wide row (types-length g.columns row fits)

  pub rows_wide : (rows : Rows) → Each (Fits g.columns) rows → AreWide g.keys rows
  rows_wide rows fits row there = fits_wide row (each-copies row_total row_exact (Fits g.columns) rows fits row there)

  all_next : (rows : Rows) (changes : List Change) → AllByRecursion IsTaken changes → AllByRecursion (IsNext rows changes (shown_by g rows)) (map (λ change. take g.keys change.row) changes)
  all_next rows changes taken = go changes taken
    where
      go : (xs : List Change) → AllByRecursion IsTaken xs → AllByRecursion (IsNext rows changes (shown_by g rows)) (map (λ change. take g.keys change.row) xs)
      go [] h = tt
      go (change ∷ xs) h =
          let named = length-take-le g.keys change.row (types_wide change.row h.0.fits.types) in
          ((named, h.0.here, ap (λ b. cond b (group_row g rows (take g.keys change.row)) None) (eq-eqb (length (take g.keys change.row)) g.keys named)), go xs h.1)

  -- after one more piece
  piece_stands : (rows : Rows) (changes : List Change) (sent more : List Change) → AllByRecursion IsTaken changes → IsValidFrom g.input rows changes → answers (group_emits g rows changes) (groups_of g.keys changes) ≡ Ok more
      → Stands rows sent → Stands (fold_from g.input rows changes) (sent ++ more)
  piece_stands rows changes sent more taken valid ok stands =
      let fresh = fold_from g.input rows changes in
      let groups = map (λ change. take g.keys change.row) changes in
      let wide = rows_wide rows stands.fits in
      let wide_changes = all-each IsTaken (λ change. g.keys ≤ length change.row) (λ change t. types_wide change.row t.fits.types) changes taken in
      let fits_fresh : Each (Fits g.columns) fresh =
      copies-each row_total row_exact (Fits g.columns) fresh (all_from g.input g.keys sound.keeps (Fits g.columns) rows changes (each-copies row_total row_exact (Fits g.columns) rows stands.fits)
      (all-each IsTaken (λ change. adds change.kind ≡ true → Fits g.columns change.row) (λ change t. come-fit g.input g.columns change t.fits) changes taken) wide wide_changes valid) in
      let adding : AllByRecursion (λ change. adds change.kind ≡ true) changes → (key : Row) → group_size g.keys rows key ≤ group_size g.keys fresh key = λ all key. grows_from g.input g.keys sound.keeps key rows changes wide wide_changes valid all in
      let next : AllByRecursion (IsNext rows changes (shown_by g rows)) (first_seen groups) = all-first_seen (IsNext rows changes (shown_by g rows)) groups (all_next rows changes taken) in
      let turn = in_turn rows changes stands.fits fits_fresh
      (λ e. adding (all-each IsTaken (λ change. adds change.kind ≡ true) (λ change t. only_inserts kinds change.kind e t.kind) changes taken))
      (λ e. adding (all_append rows changes (subst (λ m. IsValidFrom m rows changes) e valid)))
      (shown_by g rows) (first_seen groups) more (distinct-first_seen groups) next ok in
      let others : (key : Row) → list_any (same_row key) (first_seen groups) ≡ false → members g key fresh ≡ members g key rows =
      λ key apart. other_members_from g sound.keeps key rows changes wide wide_changes valid (sym (any-first_seen key groups) ∙ apart) in
      record {
        fits = fits_fresh;
        counted = λ key.
            elim (list_any (same_row key) (first_seen groups)) as (λ b. list_any (same_row key) (first_seen groups) ≡ b → is_counted g fresh key ≡ true) [
              | true ↦ λ e. all-any (λ k. is_counted g fresh k ≡ true) (first_seen groups) turn.2 key e
              | false ↦ λ e. ap (λ m. is_some (results g m)) (others key e) ∙ stands.counted key
            ] refl;
        turns = turns-append g.keys g.output nothing_shown (shown_by g rows) (shown_by g fresh) sent more stands.turns
            (subst (λ s. Turns g.keys g.output (shown_by g rows) more s) (same_shown g.keys _ _ (λ key.
            elim (list_any (same_row key) (first_seen groups)) as (λ b. list_any (same_row key) (first_seen groups) ≡ b → cond b (group_row g fresh key) (shown_by g rows key) ≡ shown_by g fresh key) [
              | true ↦ λ e.
                  sym (ap (λ b. cond b (group_row g fresh key) None) (eq-eqb (length key) g.keys (all-any (IsNext rows changes (shown_by g rows)) (first_seen groups) next key e).0))
              | false ↦ λ e. ap (λ m. cond (length key == g.keys) (cond (is_shown g m) (row_of g key m) None) None) (sym (others key e))
            ] refl)) turn.0);
        told = all-append IsTold sent more stands.told turn.1;
      }

  -- after all pieces
  stands_along : (before : List Arrival) (pieces : List (List Arrival)) (sent more : List Change) → AllByRecursion IsTaken (at_port 0 (joined pieces)) → IsValidFrom g.input (fold g.input (at_port 0 before)) (at_port 0 (joined pieces))
      → along (emits g) before pieces ≡ Ok more → Stands (fold g.input (at_port 0 before)) sent → Stands (fold g.input (at_port 0 (before ++ joined pieces))) (sent ++ more)
  stands_along before [] sent more taken valid ok stands =
      let nothing : more ≡ [] = (let same : ◌≡◌ {A = Answer} (Ok []) (Ok more) = ok in cc) in
      subst (λ h. Stands (fold g.input (at_port 0 h)) (sent ++ more)) (sym (append-nil before))
      (subst (Stands (fold g.input (at_port 0 before))) (sym (append-nil sent) ∙ ap (λ xs. sent ++ xs) (sym nothing)) stands)
  stands_along before (piece ∷ pieces) sent more taken valid ok stands =
      let both = both-appended (emits g before piece) (along (emits g) (before ++ piece) pieces) more ok in
      let rows = fold g.input (at_port 0 before) in
      let here = at_port 0 piece in
      let later = at_port 0 (joined pieces) in
      let split : at_port 0 (joined (piece ∷ pieces)) ≡ here ++ later = at_port-append 0 piece (joined pieces) in
      let taken_split = subst (AllByRecursion IsTaken) split taken in
      let valid_split = subst (IsValidFrom g.input rows) split valid in
      let after = rows_after g.input before piece in
      let one = piece_stands rows here sent both.front (all-front IsTaken here later taken_split) (IsValidFrom-front g.input rows here later valid_split) both.is_front stands in
      let rest = stands_along (before ++ piece) pieces (sent ++ both.front) both.back (all-back IsTaken here later taken_split) (subst (λ r. IsValidFrom g.input r later) (sym after) (IsValidFrom-back g.input rows here later valid_split)) both.is_back
      (subst (λ r. Stands r (sent ++ both.front)) (sym after) one) in
      subst (λ h. Stands (fold g.input (at_port 0 h)) (sent ++ more)) (append_assoc before piece (joined pieces))
      (subst (Stands (fold g.input (at_port 0 ((before ++ piece) ++ joined pieces)))) (append_assoc sent both.front both.back ∙ ap (λ xs. sent ++ xs) (sym both.whole)) rest)

  -- ---- when the job opens

  members_none : (key : Row) → members g key none ≡ none
  members_none key = restrict-none {R = row_cmp} row_total row_exact (λ row. same_row key (take g.keys row))

  fits_none : Each {R = row_cmp} (Fits g.columns) none
  fits_none = copies-each row_total row_exact (Fits g.columns) none (λ row there. absurd (let e = copies-none row_total row in omega arith))

  none_counted : AreCounted g none
  none_counted key = ap (λ m. is_some (results g m)) (members_none key) ∙ counted_none g.columns g.aggs

  empty_key : (key : Row) → length key ≡ 0 → key ≡ []
  empty_key [] e = refl
  empty_key (x ∷ key) e = absurd (omega arith)

  -- the group of all rows shows its row
  open_all : (j : ℕ) → g.keys ≡ 0 → (j == 0) ≡ true → Here [] → Stands none (opening g j)
  open_all j k at here =
      let is : opening g j ≡ emission g.output None (group_row g none []) =
      ap (λ b. cond b (cond (j == 0) (emission g.output None (group_row g none [])) []) []) (ap (λ m. m == 0) k) ∙ ap (λ b. cond b (emission g.output None (group_row g none [])) []) at in
      let named : length {A = Value} [] ≡ g.keys = sym k in
      subst (Stands none) (sym is) record {
        fits = fits_none;
        counted = none_counted;
        turns = subst (λ s. Turns g.keys g.output nothing_shown (emission g.output None (group_row g none [])) s) (same_shown g.keys _ _ shows)
            (turns_emission g.keys g.output (names g.output sound.tells) nothing_shown [] None (group_row g none []) tt (is_of (group_row g none []) (λ row e. row_of_group g [] (members g [] none) row named e)) (can g.output) refl);
        told = all_emission IsTold g.output None (group_row g none [])
            (λ row e. told I row row [] refl named here (row_of_group g [] (members g [] none) row named e).0 (row_fits_made g sound.made sound.typed [] none named fits_none row e) refl)
            (λ row e. absurd (cc)) (λ a b e. absurd (cc));
      }
    where
      is_of : (o : Option Row) → ((row : Row) → o ≡ Some row → (take g.keys row ≡ []) × (g.keys ≤ length row)) → IsOf g.keys [] o
      is_of None h = tt
      is_of (Some row) h = h row refl

      can : (mode : Mode) → CanShow g.keys mode None (group_row g none [])
      can append = λ row e. absurd (cc)
      can retract = tt
      can (upsert columns) = tt

      shows : (key : Row) → shown_at g.keys nothing_shown [] (group_row g none []) key ≡ shown_by g none key
      shows key =
          elim (length key == g.keys) as (λ b. (length key == g.keys) ≡ b → shown_at g.keys nothing_shown [] (group_row g none []) key ≡ cond b (group_row g none key) None) [
            | true ↦ λ e.
                let no : key ≡ [] = empty_key key (eqb-true (length key) g.keys e ∙ k) in
                ap (λ b. cond b (group_row g none []) None) (ap (λ r. same_row r []) no ∙ same_row-itself []) ∙ ap (group_row g none) (sym no)
            | false ↦ λ e.
                elim (same_row key []) as (λ b. same_row key [] ≡ b → cond b (group_row g none []) None ≡ None) [
                  | true ↦ λ s. absurd (false≢true (sym e ∙ eq-eqb (length key) g.keys (ap length (same_row-true key [] s) ∙ sym k)))
                  | false ↦ λ s. refl
                ] refl
          ] refl

  -- groups with key columns show nothing yet
  open_none : (j : ℕ) → (g.keys == 0) ≡ false → Stands none (opening g j)
  open_none j k =
      let is : opening g j ≡ [] = ap (λ b. cond b (cond (j == 0) (emission g.output None (group_row g none [])) []) []) k in
      subst (Stands none) (sym is) record {
        fits = fits_none;
        counted = none_counted;
        turns = same_shown g.keys _ _ (λ key. sym (
            ap (λ b. cond (length key == g.keys) (cond b (row_of g key (members g key none)) None) None) (ap (λ b. b || not (row_count (members g key none) == 0)) k ∙ ap (λ n. not (n == 0)) (ap row_count (members_none key) ∙ total-none {R = row_cmp} row_total (λ _. 1)))
            ∙ elim (length key == g.keys) as (λ b. ◌≡◌ {A = Option Row} (cond b None None) None) [ true ↦ refl | false ↦ refl ]));
        told = tt;
      }

  -- all that a subtask tells that has groups
  pub stands_whole : (j : ℕ) (pieces : List (List Arrival)) (sent : List Change) → is_home g j ≡ true → (g.keys ≡ 0 → Here []) → AllByRecursion IsTaken (at_port 0 (joined pieces)) → IsValidFrom g.input none (at_port 0 (joined pieces))
      → appended (Ok (opening g j)) (along (emits g) [] pieces) ≡ Ok sent → Stands (fold g.input (at_port 0 (joined pieces))) sent
  stands_whole j pieces sent home here taken valid ok =
      let both = both-appended (Ok (opening g j)) (along (emits g) [] pieces) sent ok in
      let opened : Stands none (opening g j) =
      elim (g.keys == 0) as (λ b. (g.keys == 0) ≡ b → (not b || (j == 0)) ≡ true → Stands none (opening g j)) [
        | true ↦ λ k h. let e = eqb-true g.keys 0 k in open_all j e h (here e)
        | false ↦ λ k h. open_none j k
      ] refl home in
      let first : both.front ≡ opening g j = ok-same (opening g j) both.front both.is_front in
      subst (Stands (fold g.input (at_port 0 (joined pieces)))) (sym both.whole)
      (stands_along [] pieces both.front both.back taken valid both.is_back (subst (Stands none) (sym first) opened))

  -- ---- a subtask without groups

  front-nothing : (xs ys : List Change) → xs ++ ys ≡ [] → xs ≡ []
  front-nothing [] ys e = refl
  front-nothing (x ∷ xs) ys e = absurd (cc)

  nothing_along : (before : List Arrival) (pieces : List (List Arrival)) → at_port 0 (joined pieces) ≡ [] → along (emits g) before pieces ≡ Ok []
  nothing_along before [] e = refl
  nothing_along before (piece ∷ pieces) e =
      let whole : at_port 0 piece ++ at_port 0 (joined pieces) ≡ [] = sym (at_port-append 0 piece (joined pieces)) ∙ e in
      let first : at_port 0 piece ≡ [] = front-nothing (at_port 0 piece) (at_port 0 (joined pieces)) whole in
      let rest : at_port 0 (joined pieces) ≡ [] = ap (λ xs. xs ++ at_port 0 (joined pieces)) (sym first) ∙ whole in
      let here : emits g before piece ≡ Ok [] = ap (λ changes. answers (group_emits g (fold g.input (at_port 0 before)) changes) (groups_of g.keys changes)) first in
      ap (λ a. appended a (along (emits g) (before ++ piece) pieces)) here ∙ ap (appended (Ok [])) (nothing_along (before ++ piece) pieces rest)

  pub nothing_whole : (j : ℕ) (pieces : List (List Arrival)) (sent : List Change) → is_home g j ≡ false → at_port 0 (joined pieces) ≡ []
      → appended (Ok (opening g j)) (along (emits g) [] pieces) ≡ Ok sent → sent ≡ []
  nothing_whole j pieces sent away empty ok =
      let keyless : (g.keys == 0) ≡ true = elim (g.keys == 0) as (λ b. (not b || (j == 0)) ≡ false → b ≡ true) [ true ↦ λ h. refl | false ↦ λ h. absurd (cc) ] away in
      let elsewhere : (j == 0) ≡ false = ap (λ b. not b || (j == 0)) (sym keyless) ∙ away in
      let is : opening g j ≡ [] = ap (λ b. cond b (cond (j == 0) (emission g.output None (group_row g none [])) []) []) keyless ∙ ap (λ b. cond b (emission g.output None (group_row g none [])) []) elsewhere in
      let all : appended (Ok (opening g j)) (along (emits g) [] pieces) ≡ Ok [] = ap (λ xs. appended (Ok xs) (along (emits g) [] pieces)) is ∙ ap (appended (Ok [])) (nothing_along [] pieces empty) in
      ok-same [] sent (sym all ∙ ok)
