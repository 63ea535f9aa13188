-- Changes of one group that are taken in turn: what is kept of the group after each, and whether a sum left its limit.
use Rattle.std.proofs.Common.{◌≡◌, ℕ, ◌<◌, ◌≤◌, ◌+◌, ◌^◌, ◌&&◌, ◌||◌, ◌==◌, not, Bool, true, false, cond, List, [], ◌∷◌, ◌++◌, length, map, take, Option, None, refl, sym, ap, subst, ◌∙◌, arith, length-append}
use Rattle.std.specs.Prelude.{IsSome, is_some, get_or}
use Rattle.std.specs.List.{AllByRecursion, list_any}
use Rattle.std.specs.BTreeMap.{BTreeMap, IsOrdered, get}
use Rattle.std.specs.Cmp.{eq_by_cmp_equiv}
use Rattle.ct_value.proofs.laws.Bags.{total-le}
use Rattle.ct_value.specs.Order.{row_cmp, row_total}
use Rattle.ct_value.specs.declared.row.Row.{Row}
use Rattle.ct_change.specs.declared.change.Change.{Change}
use Rattle.ct_change.specs.Changelog.{Mode, Rows, same_row, apply, fold_from, HasKey, IsValidFrom, MayCome}
use Rattle.ct_change.specs.Emission.{difference, row_of, replaced}
use Rattle.ct_change.proofs.laws.Folds.{fold_from-append, IsValidFrom-back, IsValidFrom-front, total-apply, weight-come}
use Rattle.ct_change.proofs.laws.Meanings.{same_row-itself, same_row-true}
use Rattle.rel_algebra.specs.GroupedCounts.{in_group, in_it, AreWide}
use Rattle.emission_rules.specs.Grouping.{Grouping, KeepsGroups, members, row_count, results as calls_over, sums_fit, fits_along, is_counted, IsSound}
use Rattle.emission_rules.proofs.laws.Members.{row_count-members, wide_from, other_members_from}
use Rattle.op_group.specs.declared.kept.Kept.{Kept}
use Rattle.op_group.specs.declared.groups.GroupBy.{GroupBy}
use Rattle.op_group.specs.Kept.{HasRow, AllRetract, IsKept, all_fit}
use Rattle.op_group.specs.Groups.{unless_empty, grouping, IsGrouped}
use Rattle.op_group.specs.Folding.{AreOf, HasShiftedAlong, MayFold, MayShiftAlong}
use Rattle.op_group.proofs.Members.{gone-group, gone_there, own_members}
use Rattle.op_group.proofs.Turns.{kept_anew, put_anew}
use Rattle.op_group.proofs.Taken.{goes_retracting, member, bit-le}

-- ---- lists

module _ {A : Type 0} (P : A → Type 0) where
  pub all_front : (xs ys : List A) → AllByRecursion P (xs ++ ys) → AllByRecursion P xs
  all_front [] ys all = tt
  all_front (x ∷ xs) ys all = (all.0, all_front xs ys all.1)

  pub all_back : (xs ys : List A) → AllByRecursion P (xs ++ ys) → AllByRecursion P ys
  all_back [] ys all = all
  all_back (x ∷ xs) ys all = all_back xs ys all.1

-- an item at the place behind so many first ones
pub split_at : {A : Type 0} (all xs : List A) (x : A) → map (λ (y : A). y) xs ≡ take (length xs) all → length xs < length all → x ≡ get_or all (length xs) x → (rest : List A) × (all ≡ xs ++ x ∷ rest)
split_at [] [] x e l g = absurd (omega arith)
split_at [] (y ∷ ys) x e l g = absurd (omega arith)
split_at (a ∷ all) [] x e l g = (all, ap (λ y. y ∷ all) (sym g))
split_at (a ∷ all) (y ∷ ys) x e l g =
    let first : y ≡ a = cc in
    let others : map (λ z. z) ys ≡ take (length ys) all = cc in
    let r = split_at all ys x others (omega arith) g in
    (r.0, λ i. sym first i ∷ r.1 i)

-- ---- tests

both : (a b : Bool) → a ≡ true → b ≡ true → (a && b) ≡ true
both true b e f = f
both false b e f = e

-- the rule's test of a change of the group is that of the group after it
tested : (here fits rest : Bool) → here ≡ true → ((not here || fits) && rest) ≡ (fits && rest)
tested true fits rest e = refl
tested false fits rest e = absurd (cc)

and_true : (b : Bool) → (b && true) ≡ b
and_true true = refl
and_true false = refl

first_true : (a b : Bool) → (a && b) ≡ true → a ≡ true
first_true true b e = refl
first_true false b e = absurd (cc)

second_true : (a b : Bool) → (a && b) ≡ true → b ≡ true
second_true true b e = e
second_true false b e = absurd (cc)

and_assoc : (a b c : Bool) → (a && (b && c)) ≡ ((a && b) && c)
and_assoc true b c = refl
and_assoc false b c = refl

module _ (g : Grouping) (key : Row) where
  pub is_in : (change : Change) → take g.keys change.row ≡ key → in_group g.keys key change.row ≡ true
  is_in change of = ap (same_row key) of ∙ same_row-itself key

  -- of a change of the group
  pub along_one : (rows : Rows) (change : Change) (changes : List Change) → take g.keys change.row ≡ key
      → fits_along g key rows (change ∷ changes) ≡ (sums_fit g (members g key (apply g.input rows change)) && fits_along g key (apply g.input rows change) changes)
  along_one rows change changes of = tested (in_group g.keys key change.row) (sums_fit g (members g key (apply g.input rows change))) (fits_along g key (apply g.input rows change) changes) (is_in change of)

  -- of changes behind others
  pub along_more : (rows : Rows) (xs ys : List Change) → fits_along g key rows (xs ++ ys) ≡ (fits_along g key rows xs && fits_along g key (fold_from g.input rows xs) ys)
  along_more rows [] ys = refl
  along_more rows (x ∷ xs) ys =
      let own = not (in_group g.keys key x.row) || sums_fit g (members g key (apply g.input rows x)) in
      ap (λ b. own && b) (along_more (apply g.input rows x) xs ys) ∙ and_assoc own (fits_along g key (apply g.input rows x) xs) (fits_along g key (fold_from g.input (apply g.input rows x) xs) ys)

  -- so it is after the last
  pub fits_after : (rows : Rows) (xs : List Change) → sums_fit g (members g key rows) ≡ true → AreOf g key xs → fits_along g key rows xs ≡ true → sums_fit g (members g key (fold_from g.input rows xs)) ≡ true
  fits_after rows [] fits of along = fits
  fits_after rows (x ∷ xs) fits of along =
      let parts = sym (along_one rows x xs of.0.1) ∙ along in
      fits_after (apply g.input rows x) xs (first_true (sums_fit g (members g key (apply g.input rows x))) (fits_along g key (apply g.input rows x) xs) parts) of.1
      (second_true (sums_fit g (members g key (apply g.input rows x))) (fits_along g key (apply g.input rows x) xs) parts)

  pub along_true : (rows : Rows) (xs ys : List Change) → fits_along g key rows xs ≡ true → fits_along g key (fold_from g.input rows xs) ys ≡ true → fits_along g key rows (xs ++ ys) ≡ true
  along_true rows xs ys e f = along_more rows xs ys ∙ both (fits_along g key rows xs) (fits_along g key (fold_from g.input rows xs) ys) e f

  pub along_false : (rows : Rows) (xs ys : List Change) → fits_along g key rows xs ≡ true → fits_along g key (fold_from g.input rows xs) ys ≡ false → fits_along g key rows (xs ++ ys) ≡ false
  along_false rows xs ys e f = along_more rows xs ys ∙ ap (λ b. b && fits_along g key (fold_from g.input rows xs) ys) e ∙ f

-- ---- rows

pub longs : (g : Grouping) (key : Row) (changes : List Change) → AreOf g key changes → AllByRecursion (λ change. g.keys ≤ length change.row) changes
longs g key [] of = tt
longs g key (change ∷ changes) of = (of.0.0, longs g key changes of.1)

-- each change brings one row at most
pub few_after : (mode : Mode) (rows : Rows) (changes : List Change) → IsValidFrom mode rows changes → row_count (fold_from mode rows changes) ≤ row_count rows + length changes
few_after mode rows [] valid = omega arith
few_after mode rows (change ∷ changes) valid =
    let one = total-apply (λ _. 1) mode rows change valid.0 in
    let weight = weight-come (λ _. 1) mode rows change in
    let bit = bit-le (is_some (difference mode rows change).come) in
    let rest = few_after mode (apply mode rows change) changes valid.1 in
    omega (arith, one, weight, bit, rest)

pub wide_along : (g : Grouping) (key : Row) (rows : Rows) (changes : List Change) → KeepsGroups g.keys g.input → AreWide g.keys rows → AreOf g key changes → IsValidFrom g.input rows changes → AreWide g.keys (fold_from g.input rows changes)
wide_along g key rows changes keeps wide of valid = wide_from g.input g.keys keeps rows changes wide (longs g key changes of) valid

-- ---- one change behind others

module _ (g : Grouping) (rows : Rows) (key : Row) (xs : List Change) (x : Change) (ys : List Change) (old kept : Kept) (may : MayShiftAlong g rows old key (xs ++ x ∷ ys)) (shifted : HasShiftedAlong g rows kept key xs) where
  valid_front : IsValidFrom g.input rows xs
  valid_front = IsValidFrom-front g.input rows xs (x ∷ ys) may.valid

  of_front : AreOf g key xs
  of_front = all_front (λ change. (g.keys ≤ length change.row) × (take g.keys change.row ≡ key)) xs (x ∷ ys) may.of

  pub may_next : MayShiftAlong g (fold_from g.input rows xs) kept key (x ∷ [])
  may_next = record {
    keeps = may.keeps;
    is = shifted.is;
    fits = fits_after g key rows xs may.fits of_front shifted.fits;
    retracts = shifted.retracts;
    wide = wide_along g key rows xs may.keeps may.wide of_front valid_front;
    valid = ((IsValidFrom-back g.input rows xs (x ∷ ys) may.valid).0, tt);
    of = ((all_back (λ change. (g.keys ≤ length change.row) × (take g.keys change.row ≡ key)) xs (x ∷ ys) may.of).0, tt);
    keyed = ((all_back (λ change. HasKey g.input change.row) xs (x ∷ ys) may.keyed).0, tt);
    few = let few = few_after g.input rows xs valid_front in let size = length-append xs (x ∷ ys) in omega (arith, few, size, may.few);
  }

  pub has_next : (new : Kept) → HasShiftedAlong g (fold_from g.input rows xs) new key (x ∷ []) → HasShiftedAlong g rows new key (xs ++ x ∷ [])
  has_next new next = record {
    is = subst (λ (r : Rows). IsKept g.columns g.aggs new (members g key r)) (sym (fold_from-append g.input rows xs (x ∷ []))) next.is;
    fits = along_true g key rows xs (x ∷ []) shifted.fits next.fits;
    retracts = next.retracts;
  }

  pub out_next : fits_along g key (fold_from g.input rows xs) (x ∷ []) ≡ false → fits_along g key rows (xs ++ x ∷ ys) ≡ false
  out_next e =
      let own = sums_fit g (members g key (apply g.input (fold_from g.input rows xs) x)) in
      let of : take g.keys x.row ≡ key = (all_back (λ change. (g.keys ≤ length change.row) × (take g.keys change.row ≡ key)) xs (x ∷ ys) may.of).0.1 in
      let unfit : own ≡ false = sym (along_one g key (fold_from g.input rows xs) x [] of ∙ and_true own) ∙ e in
      along_false g key rows xs (x ∷ ys) shifted.fits (along_one g key (fold_from g.input rows xs) x ys of ∙ ap (λ b. b && fits_along g key (apply g.input (fold_from g.input rows xs) x) ys) unfit)

-- ---- one change

module _ (by : GroupBy) (input output : Mode) (rows : Rows) (kept : Kept) (key : Row) (change : Change) (may : MayShiftAlong (grouping by input output) rows kept key (change ∷ [])) where
  abbrev g : Grouping
  g = grouping by input output

  abbrev gone : Option Row
  gone = row_of (difference input rows change).gone

  abbrev come : Option Row
  come = row_of (difference input rows change).come

  long : by.keys ≤ length change.row
  long = may.of.0.0

  of : take by.keys change.row ≡ key
  of = may.of.0.1

  pub one_comes : MayCome input rows change
  one_comes = may.valid.0

  pub one_has : HasRow (members (grouping by input output) key rows) (row_of (difference input rows change).gone)
  one_has = member g key rows (difference input rows change).gone (gone_there g may.keeps rows change may.wide long one_comes) (λ c e. gone-group input by.keys rows change c may.keeps may.wide long e ∙ of)

  pub one_room : row_count (members (grouping by input output) key rows) + 1 < 2 ^ 63
  one_room =
      let size = row_count-members g key rows in
      let le = total-le (in_it by.keys key) (λ row. bit-le (in_group by.keys key row)) rows in
      omega (arith, size, le, may.few)

  pub one_goes : IsSome (row_of (difference input rows change).gone) → AllRetract kept.counters.items
  one_goes some = may.retracts (goes_retracting input rows change one_comes some)

  own : members g key (apply input rows change) ≡ replaced (members g key rows) gone come
  own = subst (λ k. members g k (apply input rows change) ≡ replaced (members g k rows) gone come) of (own_members g may.keeps rows change may.wide long one_comes)

  fits_now : (b : Bool) → all_fit by.tys by.aggs (replaced (members g key rows) gone come) ≡ b → fits_along g key rows (change ∷ []) ≡ b
  fits_now b e = along_one g key rows change [] of ∙ and_true (sums_fit g (members g key (apply input rows change))) ∙ ap (sums_fit g) own ∙ e

  pub one_out : all_fit by.tys by.aggs (replaced (members (grouping by input output) key rows) (row_of (difference input rows change).gone) (row_of (difference input rows change).come)) ≡ false
      → fits_along (grouping by input output) key rows (change ∷ []) ≡ false
  one_out e = fits_now false e

  pub one_shifted : (new : Kept) → IsKept by.tys by.aggs new (replaced (members (grouping by input output) key rows) (row_of (difference input rows change).gone) (row_of (difference input rows change).come))
      → all_fit by.tys by.aggs (replaced (members (grouping by input output) key rows) (row_of (difference input rows change).gone) (row_of (difference input rows change).come)) ≡ true
      → (AllRetract kept.counters.items → AllRetract new.counters.items) → HasShiftedAlong (grouping by input output) rows new key (change ∷ [])
  one_shifted new is fits retracts = record {
    is = subst (IsKept by.tys by.aggs new) (sym own) is;
    fits = fits_now true fits;
    retracts = λ e. retracts (may.retracts e);
  }

-- ---- all groups

none_named : (g : Grouping) (key other : Row) (changes : List Change) → same_row key other ≡ false → AreOf g key changes → list_any (same_row other) (map (λ change. take g.keys change.row) changes) ≡ false
none_named g key other [] e of = refl
none_named g key other (change ∷ changes) e of =
    let apart : same_row other (take g.keys change.row) ≡ false = ap (same_row other) of.0.1 ∙ (eq_by_cmp_equiv row_total).symm other key ∙ e in
    ap (λ b. b || list_any (same_row other) (map (λ (c : Change). take g.keys c.row) changes)) apart ∙ none_named g key other changes e of.1

module _ (by : GroupBy) (input output : Mode) (rows : Rows) (groups : BTreeMap Row Kept) (held : ℕ) (key : Row) (changes : List Change) (may : MayFold by (grouping by input output) rows groups held key changes) where
  abbrev h : Grouping
  h = grouping by input output

  abbrev after : Rows
  after = fold_from input rows changes

  sound : IsSound (grouping by input output)
  sound = may.set.0

  pub may_shift : (kept : Kept) → IsKept by.tys by.aggs kept (members (grouping by input output) key rows) → (by.retracting ≡ true → AllRetract kept.counters.items) → MayShiftAlong (grouping by input output) rows kept key changes
  may_shift kept is retracts = record {
    keeps = sound.keeps;
    is = is;
    fits = may.grouped.fit key;
    retracts = λ e. retracts (may.set.1 ∙ e);
    wide = may.grouped.wide;
    valid = may.valid;
    of = may.of;
    keyed = may.keyed;
    few = omega (arith, may.grouped.few, may.few);
  }

  others_stay : (other : Row) → same_row key other ≡ false → members h other after ≡ members h other rows
  others_stay other e = other_members_from h sound.keeps other rows changes may.grouped.wide (longs h key changes may.of) may.valid (none_named h key other changes e may.of)

  -- what holds of the group after the changes and of the others before them holds of each after them
  each_after : (P : Rows → Type 0) (k : Row) → P (members h key after) → P (members h k rows) → P (members h k after)
  each_after P k here there =
      elim (same_row key k) as (λ b. same_row key k ≡ b → P (members h k after)) [
        | true ↦ λ e. subst (λ q. P (members h q after)) (same_row-true key k e) here
        | false ↦ λ e. subst P (sym (others_stay k e)) there
      ] refl

  -- what is kept of the group is written anew
  pub grouped_anew : (new : BTreeMap Row Kept) (kept : Kept) → HasShiftedAlong (grouping by input output) rows kept key changes → is_counted (grouping by input output) (fold_from input rows changes) key ≡ true
      → ((other : Row) → get row_cmp new other ≡ cond (same_row key other) (unless_empty (kept.rows == 0) kept) (get row_cmp groups other))
      → IsOrdered row_cmp new → IsGrouped by (grouping by input output) (fold_from input rows changes) new (held + length changes)
  grouped_anew new kept shifted counted put ordered = record {
    kept = kept_anew by key (λ k. members h k rows) (λ k. members h k after) others_stay groups new kept may.grouped.kept shifted.is (λ e. shifted.retracts (sym may.set.1 ∙ e)) put ordered;
    fit = λ k. each_after (λ r. sums_fit h r ≡ true) k (fits_after h key rows changes (may.grouped.fit key) may.of shifted.fits) (may.grouped.fit k);
    counted = λ k. each_after (λ r. is_some (calls_over h r) ≡ true) k counted (may.grouped.counted k);
    wide = wide_along h key rows changes sound.keeps may.grouped.wide may.of may.valid;
    few = let few = few_after input rows changes may.valid in omega (arith, few, may.grouped.few);
  }

  -- or taken out, and put back
  pub grouped_after : (mid new : BTreeMap Row Kept) (kept : Kept) → HasShiftedAlong (grouping by input output) rows kept key changes → is_counted (grouping by input output) (fold_from input rows changes) key ≡ true
      → ((other : Row) → get row_cmp mid other ≡ cond (same_row key other) None (get row_cmp groups other))
      → ((other : Row) → get row_cmp new other ≡ cond (same_row key other) (unless_empty (kept.rows == 0) kept) (get row_cmp mid other))
      → IsOrdered row_cmp new → IsGrouped by (grouping by input output) (fold_from input rows changes) new (held + length changes)
  grouped_after mid new kept shifted counted out put ordered = grouped_anew new kept shifted counted (put_anew key groups mid new kept out put) ordered
