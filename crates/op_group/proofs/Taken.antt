-- What a change makes of groups, as their rule says it.
use Rattle.std.proofs.Common.{◌≡◌, ◌≢◌, ℕ, ◌<◌, ◌≤◌, ◌+◌, ◌^◌, ◌==◌, ◌&&◌, ◌||◌, ◌++◌, not, Bool, true, false, cond, List, [], ◌∷◌, length, take, Option, Some, None, Ok, Err, refl, sym, ap, subst, ◌∙◌, arith, length-append, append-nil}
use Rattle.std.specs.Prelude.{IsSome, is_some, option_map}
use Rattle.std.specs.BTreeMap.{BTreeMap}
use Rattle.std.specs.Cmp.{eq_by_cmp_equiv}
use Rattle.std.proofs.lemmas.Bool.{eqb-true, eq-eqb, false≢true}
use Rattle.std.proofs.lemmas.List.{length-take-le}
use Rattle.ct_value.specs.Bag.{copies}
use Rattle.ct_value.proofs.laws.Bags.{total-le}
use Rattle.ct_value.specs.Order.{row_total}
use Rattle.ct_value.specs.declared.row.Row.{Row}
use Rattle.ct_change.specs.declared.kind.Kind.TheVariants.{D}
use Rattle.ct_change.specs.declared.change.Change.{Change}
use Rattle.ct_change.specs.Changelog.{Mode, append, retract, upsert, Rows, same_row, adds, admits, kinds_of, apply, fold, MayCome}
use Rattle.ct_change.specs.Emission.{difference, as_it_is, emission, row_of, replaced, CanTell}
use Rattle.ct_change.proofs.laws.Folds.{fold-push, append_only, total-apply, weight-come}
use Rattle.ct_change.proofs.laws.Meanings.{same_row-itself, same_row-true}
use Rattle.rel_algebra.specs.Aggregates.{agg_results}
use Rattle.rel_algebra.specs.GroupedCounts.{in_group, in_it}
use Rattle.op_rules.specs.History.{Arrival, arrival, at_port}
use Rattle.op_rules.specs.Rules.{Answer, appended, MayArrive}
use Rattle.op_rules.proofs.laws.Values.{types-length}
use Rattle.op_rules.specs.declared.operator.OpFault.{OpFault}
use Rattle.op_rules.specs.declared.operator.OpFault.TheVariants.{Range, Memory}
use Rattle.op_rules.specs.Faults.{IfRange}
use Rattle.op_rules.proofs.laws.Histories.{at_port-push, at_port-one}
use Rattle.emission_rules.specs.Grouping.{Grouping, members, row_count, is_shown, results as calls_over, row_of as row_with, group_row, sums_fit, is_counted, groups_of, answers, group_emits, emits, group_rule, TellsGroups, IsSound}
use Rattle.emission_rules.proofs.laws.GroupAnswers.{row_of_group}
use Rattle.emission_rules.proofs.laws.Members.{copies-members, row_count-members, other_members, wide_after, grows}
use Rattle.emission_rules.proofs.laws.Pieces.{long_wide}
use Rattle.op_group.specs.declared.kept.Kept.{Kept}
use Rattle.op_group.specs.declared.groups.GroupBy.{GroupBy}
use Rattle.op_group.specs.declared.groups.Results.{Results}
use Rattle.op_group.specs.Kept.{HasRow}
use Rattle.op_group.specs.Groups.{AreKept, IsTurned, IsTold, in_range, grouping, IsGrouped, IsSet, MayTake}
use Rattle.op_group.proofs.Members.{gone-group, gone_there, own_members}

-- ---- what goes

-- a row goes only where rows can be removed
pub goes_retracting : (mode : Mode) (rows : Rows) (change : Change) → MayCome mode rows change → is_some (row_of (difference mode rows change).gone) ≡ true → admits mode D ≡ true
goes_retracting append rows change may some = absurd (
    let e : (adds change.kind) ≡ true = append_only change.kind may in
    let none : is_some (row_of (as_it_is (adds change.kind) change).gone) ≡ false = ap (λ b. is_some (row_of (as_it_is b change).gone)) e in
    cc)
goes_retracting retract rows change may some = refl
goes_retracting (upsert key) rows change may some = refl

-- a row of the group that stands is one of its members
pub member : (g : Grouping) (key : Row) (rows : Rows) (o : Option Change) → HasRow rows (row_of o) → ((change : Change) → o ≡ Some change → take g.keys change.row ≡ key) → HasRow (members g key rows) (row_of o)
member g key rows None has of = tt
member g key rows (Some change) has of =
    let here : in_group g.keys key change.row ≡ true = ap (same_row key) (of change refl) ∙ same_row-itself key in
    let same : copies (members g key rows) change.row ≡ copies rows change.row = copies-members g key rows change.row ∙ ap (λ b. cond b (copies rows change.row) 0) here in
    subst (λ n. 0 < n) (sym same) has

pub bit-le : (b : Bool) → cond b 1 0 ≤ 1
bit-le true = omega arith
bit-le false = omega arith

-- ---- what is told

pub still_some : (a b : ℕ) (global : Bool) → a ≤ b → (global || not (a == 0)) ≡ true → (global || not (b == 0)) ≡ true
still_some a b true le e = refl
still_some a b false le e =
    elim (b == 0) as (λ t. (b == 0) ≡ t → not t ≡ true) [
      | true ↦ λ z. absurd (let none = eqb-true b 0 z in let before : (a == 0) ≡ true = eq-eqb a 0 (omega arith) in false≢true (sym (ap not before) ∙ e))
      | false ↦ λ z. refl
    ] refl

both_parts : (a b : Bool) → (a && b) ≡ true → (a ≡ true) × (b ≡ true)
both_parts true true e = (refl, refl)
both_parts true false e = absurd (cc)
both_parts false b e = absurd (cc)

pub row_alone : (g : Grouping) (key : Row) (m : Rows) → g.aggs ≡ [] → row_with g key m ≡ Some (key ++ [])
row_alone g key m e = ap (λ aggs. option_map (λ values. key ++ values) (agg_results g.columns aggs m)) e

module _ (by : GroupBy) (input output : Mode) (rows : Rows) (groups : BTreeMap Row Kept) (held : ℕ) (change : Change) (m : MayTake by (grouping by input output) rows groups held change) where
  abbrev g : Grouping
  g = grouping by input output

  abbrev key : Row
  key = take by.keys change.row

  abbrev after : Rows
  after = apply input rows change

  abbrev gone : Option Row
  gone = row_of (difference input rows change).gone

  abbrev come : Option Row
  come = row_of (difference input rows change).come

  sound : IsSound (grouping by input output)
  sound = m.set.0

  wide_row : by.keys ≤ length change.row
  wide_row = long_wide (grouping by input output) sound (λ _. Unit {0}) (kinds_of input) change.row (types-length by.tys change.row m.fits)

  named : length (take by.keys change.row) ≡ by.keys
  named = length-take-le by.keys change.row wide_row

  pub has : HasRow (members (grouping by input output) (take by.keys change.row) rows) (row_of (difference input rows change).gone)
  has = member g key rows (difference input rows change).gone (gone_there g sound.keeps rows change m.grouped.wide wide_row m.may)
      (λ c e. gone-group input by.keys rows change c sound.keeps m.grouped.wide wide_row e)

  pub room : row_count (members (grouping by input output) (take by.keys change.row) rows) + 1 < 2 ^ 63
  room =
      let size = row_count-members g key rows in
      let le = total-le (in_it by.keys key) (λ row. bit-le (in_group by.keys key row)) rows in
      omega (arith, m.grouped.few, m.few)

  pub turned : IsTurned (take by.keys change.row) (λ k. members (grouping by input output) k rows) (λ k. members (grouping by input output) k (apply input rows change)) (row_of (difference input rows change).gone) (row_of (difference input rows change).come)
  turned = record {
    own = own_members g sound.keeps rows change m.grouped.wide wide_row m.may;
    others = λ other e. other_members g sound.keeps other rows change m.grouped.wide wide_row m.may ((eq_by_cmp_equiv row_total).symm other key ∙ e);
  }

  pub goes : IsSome (row_of (difference input rows change).gone) → by.retracting ≡ true
  goes some = m.set.1 ∙ goes_retracting input rows change m.may some

  one : (s c : Bool) (t : Bool) → t ≡ true → (((not t || s) && true) && c) ≡ (s && c)
  one true c true e = refl
  one false c true e = refl
  one s c false e = absurd (cc)

  -- the rule's test is that of the group after the change
  tested : (r : Rows) → members g key after ≡ r → (((not (in_group by.keys key change.row) || sums_fit g (members g key after)) && true) && is_counted g after key) ≡ in_range by r
  tested r e = one (sums_fit g (members g key after)) (is_counted g after key) (in_group by.keys key change.row) (same_row-itself key) ∙ ap (in_range by) e

  pub emits_row : (b : Bool) → in_range by (replaced (members g key rows) gone come) ≡ b → group_emits g rows (change ∷ []) key ≡ cond b (Ok (emission output (group_row g rows key) (group_row g after key))) (Err key)
  emits_row b e = ap (λ t. let r : Answer = cond t (Ok (emission output (group_row g rows key) (group_row g after key))) (Err key) in r) (tested (replaced (members g key rows) gone come) turned.own ∙ e)

  module _ (results : Results) (told : IsTold by (take by.keys change.row) (members (grouping by input output) (take by.keys change.row) rows) (replaced (members (grouping by input output) (take by.keys change.row) rows) (row_of (difference input rows change).gone) (row_of (difference input rows change).come)) results) where
    old_is : results.old ≡ group_row g rows key
    old_is = told.old

    fresh_is : results.fresh ≡ group_row g after key
    fresh_is = told.fresh ∙ ap (λ r. cond (is_shown g r) (row_with g key r) None) (sym turned.own)

    fine : in_range by (replaced (members g key rows) gone come) ≡ true
    fine = told.fine (m.grouped.fit key)

    pub emits_told : (earlier sent : List Change) → sent ≡ earlier ++ emission output results.old results.fresh → appended (Ok earlier) (group_emits (grouping by input output) rows (change ∷ []) (take by.keys change.row)) ≡ Ok sent
    emits_told earlier sent e = ap (appended (Ok earlier)) (emits_row true fine) ∙ ap (λ xs. let r : Answer = Ok xs in r) (sym (e ∙ (λ i. earlier ++ emission output (old_is i) (fresh_is i))))

    pub grouped_after : (new : BTreeMap Row Kept) → AreKept by new (λ k. members (grouping by input output) k (apply input rows change)) → IsGrouped by (grouping by input output) (apply input rows change) new (held + 1)
    grouped_after new kept =
        let parts = both_parts (sums_fit g (replaced (members g key rows) gone come)) (is_some (calls_over g (replaced (members g key rows) gone come))) fine in
        record {
          kept = kept;
          fit = λ k. others (λ r. sums_fit g r ≡ true) k parts.0 (m.grouped.fit k);
          counted = λ k. others (λ r. is_some (calls_over g r) ≡ true) k parts.1 (m.grouped.counted k);
          wide = wide_after input by.keys rows change sound.keeps m.grouped.wide wide_row m.may;
          few = let e = total-apply (λ _. 1) input rows change m.may in let b = weight-come (λ _. 1) input rows change in let c = bit-le (is_some (difference input rows change).come) in omega (arith, m.grouped.few);
        }
      where
        -- what holds of the group after the change and of the others before it holds of each after it
        others : (P : Rows → Type 0) (k : Row) → P (replaced (members g key rows) gone come) → P (members g k rows) → P (members g k after)
        others P k here there =
            elim (same_row key k) as (λ b. same_row key k ≡ b → P (members g k after)) [
              | true ↦ λ e. subst (λ q. P (members g q after)) (same_row-true key k e) (subst P (sym turned.own) here)
              | false ↦ λ e. subst P (sym (turned.others k e)) there
            ] refl

    can_tell : (mode : Mode) → TellsGroups g mode → results.old ≢ results.fresh → CanTell mode results.old results.fresh
    can_tell append tells apart = stays (is_shown g (members g key rows)) refl
      where
        shown_too : is_shown g (members g key rows) ≡ true → is_shown g (members g key after) ≡ true
        shown_too shown =
            let size = row_count-members g key rows in
            let size_after = row_count-members g key after in
            let adding : adds change.kind ≡ true = append_only change.kind (subst (λ mode. MayCome mode rows change) tells.1 m.may) in
            let more = grows input by.keys rows change sound.keeps m.grouped.wide wide_row m.may adding key in
            still_some (row_count (members g key rows)) (row_count (members g key after)) (by.keys == 0) (omega arith) shown

        stays : (b : Bool) → is_shown g (members g key rows) ≡ b → results.old ≡ None
        stays true e = absurd (apart (
            old_is ∙ ap (λ b. cond b (row_with g key (members g key rows)) None) e ∙ row_alone g key (members g key rows) tells.0
            ∙ sym (fresh_is ∙ ap (λ b. cond b (row_with g key (members g key after)) None) (shown_too e) ∙ row_alone g key (members g key after) tells.0)))
        stays false e = old_is ∙ ap (λ b. cond b (row_with g key (members g key rows)) None) e
    can_tell retract tells apart = tt
    can_tell (upsert columns) tells apart = go results.old results.fresh old_is fresh_is
      where
        go : (old fresh : Option Row) → old ≡ group_row g rows key → fresh ≡ group_row g after key → CanTell (upsert columns) old fresh
        go None fresh p q = tt
        go (Some old) None p q = tt
        go (Some old) (Some fresh) p q =
            let a = row_of_group g key (members g key rows) old named (sym p) in
            let b = row_of_group g key (members g key after) fresh named (sym q) in
            (tells old fresh a.1 b.1).1 (a.0 ∙ sym b.0)

    pub can : results.old ≢ results.fresh → CanTell output results.old results.fresh
    can apart = can_tell output sound.tells apart

  -- ---- the same of a key, a row that goes and one that comes which are the change's

  module _ (k : Row) (o p : Option Row) (is_key : k ≡ take by.keys change.row) (is_gone : o ≡ row_of (difference input rows change).gone) (is_come : p ≡ row_of (difference input rows change).come) where
    pub has_at : HasRow (members (grouping by input output) k rows) o
    has_at = subst (λ q. HasRow (members g q rows) o) (sym is_key) (subst (HasRow (members g key rows)) (sym is_gone) has)

    pub room_at : row_count (members (grouping by input output) k rows) + 1 < 2 ^ 63
    room_at = subst (λ q. row_count (members g q rows) + 1 < 2 ^ 63) (sym is_key) room

    pub goes_at : IsSome o → by.retracting ≡ true
    goes_at some = goes (subst IsSome is_gone some)

    pub turned_at : IsTurned k (λ q. members (grouping by input output) q rows) (λ q. members (grouping by input output) q (apply input rows change)) o p
    turned_at =
        subst (λ q. IsTurned q (λ n. members g n rows) (λ n. members g n after) o p) (sym is_key)
        (subst (λ q. IsTurned key (λ n. members g n rows) (λ n. members g n after) q p) (sym is_gone) (subst (λ q. IsTurned key (λ n. members g n rows) (λ n. members g n after) gone q) (sym is_come) turned))

    pub told_at : (results : Results) → IsTold by k (members (grouping by input output) k rows) (replaced (members (grouping by input output) k rows) o p) results
        → IsTold by (take by.keys change.row) (members (grouping by input output) (take by.keys change.row) rows) (replaced (members (grouping by input output) (take by.keys change.row) rows) (row_of (difference input rows change).gone) (row_of (difference input rows change).come)) results
    told_at results told =
        subst (λ q. IsTold by key (members g key rows) (replaced (members g key rows) gone q) results) is_come
        (subst (λ q. IsTold by key (members g key rows) (replaced (members g key rows) q p) results) is_gone (subst (λ q. IsTold by q (members g q rows) (replaced (members g q rows) o p) results) is_key told))

    pub out_at : (row : Row) → row ≡ k → in_range by (replaced (members (grouping by input output) k rows) o p) ≡ false → group_emits (grouping by input output) rows (change ∷ []) (take by.keys change.row) ≡ Err row
    out_at row e out =
        emits_row false (
        subst (λ q. in_range by (replaced (members g key rows) gone q) ≡ false) is_come
        (subst (λ q. in_range by (replaced (members g key rows) q p) ≡ false) is_gone (subst (λ q. in_range by (replaced (members g q rows) o p) ≡ false) is_key out)))
        ∙ ap (λ q. let r : Answer = Err q in r) (sym (e ∙ is_key))

-- ---- as a history's

port-first : (port : ℕ) → port < 1 → port ≡ 0
port-first port less = omega arith

module _ (by : GroupBy) (input output : Mode) (before : List Arrival) (port from : ℕ) (change : Change) (may : MayArrive (group_rule (grouping by input output)) before (arrival port from change)) where
  first : port ≡ 0
  first = port-first port may.port

  pub may_take : (groups : BTreeMap Row Kept) → IsSet by (grouping by input output) → IsGrouped by (grouping by input output) (fold input (at_port 0 before)) groups (length before) → length before + 1 < 2 ^ 32
      → MayTake by (grouping by input output) (fold input (at_port 0 before)) groups (length before) change
  may_take groups set grouped few = record {
    set = set;
    grouped = grouped;
    may = subst (λ p. MayCome input (fold input (at_port p before)) change) first may.change;
    fits = may.fits;
    key = may.key;
    few = few;
  }

  pub fold_arrives : fold input (at_port 0 (before ++ arrival port from change ∷ [])) ≡ apply input (fold input (at_port 0 before)) change
  fold_arrives = ap (fold input) (at_port-push 0 before (arrival port from change) first) ∙ fold-push input (at_port 0 before) change

  answers-one : (answer : Answer) → appended answer (Ok []) ≡ answer
  answers-one (Ok changes) = ap (λ xs. let r : Answer = Ok xs in r) (append-nil changes)
  answers-one (Err row) = refl

  pub emits_arrives : (answer : Answer) → group_emits (grouping by input output) (fold input (at_port 0 before)) (change ∷ []) (take by.keys change.row) ≡ answer → emits (grouping by input output) before (arrival port from change ∷ []) ≡ answer
  emits_arrives answer e =
      ap (λ changes. answers (group_emits (grouping by input output) (fold input (at_port 0 before)) changes) (groups_of by.keys changes)) (at_port-one 0 (arrival port from change) first)
      ∙ answers-one (group_emits (grouping by input output) (fold input (at_port 0 before)) (change ∷ []) (take by.keys change.row)) ∙ e

  pub grouped_arrives : (groups : BTreeMap Row Kept) → IsGrouped by (grouping by input output) (apply input (fold input (at_port 0 before)) change) groups (length before + 1)
      → IsGrouped by (grouping by input output) (fold input (at_port 0 (before ++ arrival port from change ∷ []))) groups (length (before ++ arrival port from change ∷ []))
  grouped_arrives groups grouped = rw (fold_arrives, length-append) grouped

-- ---- faults

-- what follows of the row that is out of range
pub if_range : (T U : Type 0) (fault : OpFault) {P Q : Row → Type 0} → ((row : Row) → P row → Q row) → IfRange {T = T} (Err fault) P → IfRange {T = U} (Err fault) Q
if_range T U (Range row) h p = h row p
if_range T U Memory h p = tt
