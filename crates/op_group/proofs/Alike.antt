-- Changes of one group make the same of it whatever rows the other groups have.
use Rattle.std.proofs.Common.{◌≡◌, ◌+◌, ◌<◌, ◌≤◌, ◌&&◌, ◌||◌, not, Bool, true, false, cond, List, [], ◌∷◌, length, map, take, Option, Some, None, Ok, Err, refl, sym, ap, subst, ◌∙◌, arith}
use Rattle.std.specs.Prelude.{is_some, T}
use Rattle.std.specs.List.{find, list_any, AllByRecursion, IsDistinct}
use Rattle.std.specs.Ordering.{is_gt, ordering_reverse}
use Rattle.std.specs.declared.cmp.Ordering.TheVariants.{Less, Equal, Greater}
use Rattle.std.specs.Cmp.{tied_itself, eq_by_cmp_equiv}
use Rattle.std.proofs.lemmas.Bool.{false≢true}
use Rattle.std.proofs.lemmas.Map.Keys.{IsDistinct-head, IsDistinct-tail}
use Rattle.ct_value.specs.Bag.{items, items_in_order, copies, total, occurs, at_most_all, in_order}
use Rattle.ct_value.proofs.laws.Bags.{copies-occurs, one_at_itself, same_bag}
use Rattle.ct_value.specs.Order.{row_cmp, row_total, row_exact}
use Rattle.ct_value.specs.Rows.{project}
use Rattle.ct_value.specs.declared.row.Row.{Row}
use Rattle.ct_change.specs.declared.change.Change.{Change}
use Rattle.ct_change.specs.Changelog.{Mode, append, retract, upsert, Rows, same_row, apply, fold_from, HasKey, MayCome, IsValidFrom}
use Rattle.ct_change.specs.Emission.{difference, replaced_by, weight_of, emission}
use Rattle.ct_change.proofs.laws.Folds.{find-passes, total-apply}
use Rattle.ct_change.proofs.laws.Meanings.{same_row-true, same_row-itself}
use Rattle.rel_algebra.specs.GroupedCounts.{in_group, AreWide}
use Rattle.rel_algebra.proofs.laws.Results.{any-first_seen, distinct-first_seen}
use Rattle.op_rules.specs.Rules.{Answer, appended}
use Rattle.emission_rules.specs.Grouping.{Grouping, KeepsGroups, members, results, is_shown, row_of, sums_fit, fits_along, groups_of, answers, group_emits}
use Rattle.emission_rules.proofs.laws.Members.{at, copies-members, counted-members, other_members, other_members_from, wide_after, wide_from}
use Rattle.mini_batch.specs.Groups.{of_group, by_group}
use Rattle.op_group.specs.Bundles.{folded, told_along, MayFollow}
use Rattle.op_group.specs.Folding.{AreOf, HaveKeys}

-- ---- the first row that passes a test

first_holds : (a b : Bool) → T (a && b) → T a
first_holds true b p = tt
first_holds false b p = p

second_holds : (a b : Bool) → T (a && b) → T b
second_holds true b p = p
second_holds false b p = absurd p

was_not : (b : Bool) → T (not b) → b ≡ false
was_not true p = absurd p
was_not false p = refl

at_most_each : (x y : Row) (ys : List Row) → T (at_most_all row_cmp x ys) → 0 < occurs row_cmp y ys → is_gt (row_cmp x y) ≡ false
at_most_each x y [] h q = absurd (omega arith)
at_most_each x y (z ∷ zs) h q =
    elim (same_row y z) as (λ b. same_row y z ≡ b → 0 < cond b 1 0 + occurs row_cmp y zs → is_gt (row_cmp x y) ≡ false) [
      | true ↦ λ e r. ap (λ w. is_gt (row_cmp x w)) (same_row-true y z e) ∙ was_not (is_gt (row_cmp x z)) (first_holds (not (is_gt (row_cmp x z))) (at_most_all row_cmp x zs) h)
      | false ↦ λ e r. at_most_each x y zs (second_holds (not (is_gt (row_cmp x z))) (at_most_all row_cmp x zs) h) (omega arith)
    ] refl q

neither_above : (x y : Row) → is_gt (row_cmp x y) ≡ false → is_gt (row_cmp y x) ≡ false → x ≡ y
neither_above x y p q = row_exact x y (
    elim (row_cmp x y) as (λ r. row_cmp y x ≡ ordering_reverse r → is_gt r ≡ false → r ≡ Equal) [
      | Less ↦ λ e g. absurd (let h : is_gt (row_cmp y x) ≡ true = ap is_gt e in cc)
      | Equal ↦ λ e g. refl
      | Greater ↦ λ e g. absurd (cc)
    ] (row_total.antisymm y x) p)

module _ (p : Row → Bool) where
  found_stands : (xs : List Row) (x : Row) → find p xs ≡ Some x → 0 < occurs row_cmp x xs
  found_stands [] x e = absurd (cc)
  found_stands (z ∷ zs) x e =
      elim (p z) as (λ b. cond b (Some z) (find p zs) ≡ Some x → 0 < occurs row_cmp x (z ∷ zs)) [
        | true ↦ λ q. let same : z ≡ x = cc in subst (λ w. 0 < occurs row_cmp w (z ∷ zs)) same (let one = one_at_itself row_cmp row_total z in omega (arith, one))
        | false ↦ λ q. let rest = found_stands zs x q in omega (arith, rest)
      ] e

  none_stands : (xs : List Row) (y : Row) → find p xs ≡ None → p y ≡ true → 0 < occurs row_cmp y xs → ⊥
  none_stands [] y e t q = omega arith
  none_stands (x ∷ xs) y e t q =
      elim (p x) as (λ b. p x ≡ b → cond b (Some x) (find p xs) ≡ None → ⊥) [
        | true ↦ λ h r. cc
        | false ↦ λ h r.
            elim (same_row y x) as (λ b. same_row y x ≡ b → 0 < cond b 1 0 + occurs row_cmp y xs → ⊥) [
              | true ↦ λ s z. false≢true (sym h ∙ ap p (sym (same_row-true y x s)) ∙ t)
              | false ↦ λ s z. none_stands xs y r t (omega arith)
            ] refl q
      ] refl e

  first_at_most : (xs : List Row) (x y : Row) → T (in_order row_cmp xs) → find p xs ≡ Some x → p y ≡ true → 0 < occurs row_cmp y xs → is_gt (row_cmp x y) ≡ false
  first_at_most [] x y h e t q = absurd (cc)
  first_at_most (z ∷ zs) x y h e t q =
      elim (p z) as (λ b. p z ≡ b → cond b (Some z) (find p zs) ≡ Some x → is_gt (row_cmp x y) ≡ false) [
        | true ↦ λ s r. let same : z ≡ x = cc in subst (λ w. is_gt (row_cmp w y) ≡ false) same here
        | false ↦ λ s r.
            elim (same_row y z) as (λ b. same_row y z ≡ b → 0 < cond b 1 0 + occurs row_cmp y zs → is_gt (row_cmp x y) ≡ false) [
              | true ↦ λ u v. absurd (false≢true (sym s ∙ ap p (sym (same_row-true y z u)) ∙ t))
              | false ↦ λ u v. first_at_most zs x y (second_holds (at_most_all row_cmp z zs) (in_order row_cmp zs) h) r t (omega arith)
            ] refl q
      ] refl e
    where
      here : is_gt (row_cmp z y) ≡ false
      here =
          elim (same_row y z) as (λ b. same_row y z ≡ b → 0 < cond b 1 0 + occurs row_cmp y zs → is_gt (row_cmp z y) ≡ false) [
            | true ↦ λ u v. ap (λ w. is_gt (row_cmp z w)) (same_row-true y z u) ∙ ap is_gt (tied_itself row_total z)
            | false ↦ λ u v. at_most_each z y zs (first_holds (at_most_all row_cmp z zs) (in_order row_cmp zs) h) (omega arith)
          ] refl q

  -- where the same rows that pass stand, the same is found
  found_alike : (a b : Rows) → ((y : Row) → p y ≡ true → 0 < copies a y → 0 < copies b y) → ((y : Row) → p y ≡ true → 0 < copies b y → 0 < copies a y) → find p (items a) ≡ find p (items b)
  found_alike a b there back =
      elim (find p (items a)) as (λ o. find p (items a) ≡ o → o ≡ find p (items b)) [
        | None ↦ λ e. by_none e (find p (items b)) refl
        | Some x ↦ λ e. by_some x e (find p (items b)) refl
      ] refl
    where
      stands : (r : Rows) (y : Row) → find p (items r) ≡ Some y → 0 < copies r y
      stands r y e = subst (λ n. 0 < n) (sym (copies-occurs r y)) (found_stands (items r) y e)

      occur : (r : Rows) (y : Row) → 0 < copies r y → 0 < occurs row_cmp y (items r)
      occur r y q = subst (λ n. 0 < n) (copies-occurs r y) q

      by_none : find p (items a) ≡ None → (o : Option Row) → find p (items b) ≡ o → None ≡ o
      by_none e None f = refl
      by_none e (Some y) f =
          let passes = find-passes p (items b) y f in
          absurd (none_stands (items a) y e passes (occur a y (back y passes (stands b y f))))

      by_some : (x : Row) → find p (items a) ≡ Some x → (o : Option Row) → find p (items b) ≡ o → Some x ≡ o
      by_some x e None f =
          let passes = find-passes p (items a) x e in
          absurd (none_stands (items b) x f passes (occur b x (there x passes (stands a x e))))
      by_some x e (Some y) f =
          let x_passes = find-passes p (items a) x e in
          let y_passes = find-passes p (items b) y f in
          ap Some (neither_above x y
          (first_at_most (items a) x y (items_in_order a) e y_passes (occur a y (back y y_passes (stands b y f))))
          (first_at_most (items b) y x (items_in_order b) f x_passes (occur b x (there x x_passes (stands a x e)))))

-- ---- one change of a group

module _ (g : Grouping) (key : Row) (a b : Rows) (alike : members g key a ≡ members g key b) where
  same_copies : (row : Row) → in_group g.keys key row ≡ true → copies a row ≡ copies b row
  same_copies row e =
      sym (copies-members g key a row ∙ ap (λ t. cond t (copies a row) 0) e) ∙ ap (λ m. copies m row) alike ∙ copies-members g key b row ∙ ap (λ t. cond t (copies b row) 0) e

  module _ (wide_a : AreWide g.keys a) (wide_b : AreWide g.keys b) (change : Change) (long : g.keys ≤ length change.row) (of : take g.keys change.row ≡ key) where
    own_row : in_group g.keys key change.row ≡ true
    own_row = ap (same_row key) of ∙ same_row-itself key

    same_difference : (mode : Mode) → KeepsGroups g.keys mode → difference mode a change ≡ difference mode b change
    same_difference append keeps = refl
    same_difference retract keeps = refl
    same_difference (upsert columns) keeps = ap (λ o. replaced_by o change) (found_alike (λ other. same_row (project columns change.row) (project columns other)) a b
        (λ y t q. subst (λ n. 0 < n) (same_copies y (its_group y t (wide_a y q))) q)
        (λ y t q. subst (λ n. 0 < n) (sym (same_copies y (its_group y t (wide_b y q)))) q))
      where
        its_group : (y : Row) → same_row (project columns change.row) (project columns y) ≡ true → g.keys ≤ length y → in_group g.keys key y ≡ true
        its_group y t l = ap (same_row key) (sym (keeps change.row y long l (same_row-true (project columns change.row) (project columns y) t)) ∙ of) ∙ same_row-itself key

    may_too : (mode : Mode) → MayCome mode a change → MayCome mode b change
    may_too append may = may
    may_too retract may = λ e. subst (λ n. 0 < n) (same_copies change.row own_row) (may e)
    may_too (upsert columns) may = may

    alike_after : (mode : Mode) → KeepsGroups g.keys mode → MayCome mode a change → members g key (apply mode a change) ≡ members g key (apply mode b change)
    alike_after mode keeps may = same_bag row_total row_exact _ _ (λ row.
        let f = at g.keys key row in
        let d = same_difference mode keeps in
        let p = total-apply f mode a change may in
        let q = total-apply f mode b change (may_too mode may) in
        let gone : weight_of f (difference mode a change).gone ≡ weight_of f (difference mode b change).gone = ap (λ x. weight_of f x.gone) d in
        let come : weight_of f (difference mode a change).come ≡ weight_of f (difference mode b change).come = ap (λ x. weight_of f x.come) d in
        let before : total f a ≡ total f b = sym (counted-members g key a row) ∙ ap (λ m. copies m row) alike ∙ counted-members g key b row in
        let after : total f (apply mode a change) ≡ total f (apply mode b change) = omega (arith, p, q, gone, come, before) in
        counted-members g key (apply mode a change) row ∙ after ∙ sym (counted-members g key (apply mode b change) row))

-- ---- changes of many groups, and those of one

abbrev pub Long : Grouping → List Change → Type 0
Long g changes = AllByRecursion (λ change. g.keys ≤ length change.row) changes

-- from rows that have the same of a group, the group's own of these changes make the same of it as all of them
pub record Along (g : Grouping) (key : Row) (a b : Rows) (all mine : List Change) : Type 0 where
  pub valid : IsValidFrom g.input b mine
  pub fits : fits_along g key a all ≡ fits_along g key b mine
  pub same : members g key (fold_from g.input a all) ≡ members g key (fold_from g.input b mine)

module _ (g : Grouping) (keeps : KeepsGroups g.keys g.input) where
  pub along : (key : Row) (a b : Rows) (changes : List Change) → AreWide g.keys a → AreWide g.keys b → Long g changes → IsValidFrom g.input a changes → members g key a ≡ members g key b → Along g key a b changes (of_group g.keys key changes)
  along key a b [] wide_a wide_b long valid alike = record { valid = tt; fits = refl; same = alike }
  along key a b (c ∷ cs) wide_a wide_b long valid alike =
      elim (in_group g.keys key c.row) as (λ t. in_group g.keys key c.row ≡ t → Along g key a b (c ∷ cs) (cond t (c ∷ of_group g.keys key cs) (of_group g.keys key cs))) [
        | true ↦ λ e.
            let of = sym (same_row-true key (take g.keys c.row) e) in
            let may = may_too g key a b alike wide_a wide_b c long.0 of g.input valid.0 in
            let now = alike_after g key a b alike wide_a wide_b c long.0 of g.input keeps valid.0 in
            let rest = along key (apply g.input a c) (apply g.input b c) cs (wide_after g.input g.keys a c keeps wide_a long.0 valid.0) (wide_after g.input g.keys b c keeps wide_b long.0 may) long.1 valid.1 now in
            record {
              valid = (may, rest.valid);
              fits = λ i. (not (in_group g.keys key c.row) || sums_fit g (now i)) && rest.fits i;
              same = rest.same;
            }
        | false ↦ λ e.
            let rest = along key (apply g.input a c) b cs (wide_after g.input g.keys a c keeps wide_a long.0 valid.0) wide_b long.1 valid.1 (other_members g keeps key a c wide_a long.0 valid.0 e ∙ alike) in
            record {
              valid = rest.valid;
              fits = ap (λ t. (not t || sums_fit g (members g key (apply g.input a c))) && fits_along g key (apply g.input a c) cs) e ∙ rest.fits;
              same = rest.same;
            }
      ] refl

  abbrev shown : Row → Rows → Option Row
  shown key m = cond (is_shown g m) (row_of g key m) None

  abbrev said : Row → Bool → Rows → Rows → Answer
  said key fits before after = cond (fits && is_some (results g after)) (Ok (emission g.output (shown key before) (shown key after))) (Err key)

  pub same_emits : (key : Row) (a b : Rows) (changes mine : List Change) → members g key a ≡ members g key b → Along g key a b changes mine → group_emits g a changes key ≡ group_emits g b mine key
  same_emits key a b changes mine alike all = λ i. said key (all.fits i) (alike i) (all.same i)

  -- ---- the changes of a group

  own_all : (P : Change → Type 0) (key : Row) (changes : List Change) → AllByRecursion P changes → AllByRecursion P (of_group g.keys key changes)
  own_all P key [] all = tt
  own_all P key (c ∷ cs) all =
      elim (in_group g.keys key c.row) as (λ t. AllByRecursion P (cond t (c ∷ of_group g.keys key cs) (of_group g.keys key cs))) [
        | true ↦ (all.0, own_all P key cs all.1)
        | false ↦ own_all P key cs all.1
      ]

  own_of : (key : Row) (changes : List Change) → Long g changes → AreOf g key (of_group g.keys key changes)
  own_of key [] long = tt
  own_of key (c ∷ cs) long =
      elim (in_group g.keys key c.row) as (λ t. in_group g.keys key c.row ≡ t → AreOf g key (cond t (c ∷ of_group g.keys key cs) (of_group g.keys key cs))) [
        | true ↦ λ e. ((long.0, sym (same_row-true key (take g.keys c.row) e)), own_of key cs long.1)
        | false ↦ λ e. own_of key cs long.1
      ] refl

  named_not : (key other : Row) (changes : List Change) → same_row other key ≡ false → AreOf g key changes → list_any (same_row other) (map (λ change. take g.keys change.row) changes) ≡ false
  named_not key other [] e of = refl
  named_not key other (c ∷ cs) e of = (λ i. same_row other (of.0.1 i) || named_not key other cs e of.1 i) ∙ ap (λ b. b || false) e

  -- ---- one group after the other

  module _ (rows : Rows) (changes : List Change) (wide : AreWide g.keys rows) (long : Long g changes) (valid : IsValidFrom g.input rows changes) (keyed : HaveKeys g changes) where
    abbrev entry : Row → Row × List Change
    entry key = (key, of_group g.keys key changes)

    abbrev mine : Row → List Change
    mine key = of_group g.keys key changes

    abbrev next : Row → Rows → Rows
    next key now = fold_from g.input now (of_group g.keys key changes)

    -- groups that have the rows that they had, and whose changes are taken in turn
    record Regrouped (now : Rows) (ks : List Row) : Type 0 where
      pub told : told_along g now (map (λ key. (key, of_group g.keys key changes)) ks) ≡ answers (group_emits g rows changes) ks
      pub may : MayFollow g now (map (λ key. (key, of_group g.keys key changes)) ks)
      pub each : (k : Row) → members g k (folded g.input now (map (λ key. (key, of_group g.keys key changes)) ks)) ≡ cond (list_any (same_row k) ks) (members g k (fold_from g.input rows changes)) (members g k now)

    not_again : (k : Row) (others : List Row) → AllByRecursion (λ other. same_row k other ≡ false) others → list_any (same_row k) others ≡ false
    not_again k [] apart = refl
    not_again k (other ∷ others) apart = (λ i. apart.0 i || not_again k others apart.1 i)

    -- the next group takes its changes
    module _ (now : Rows) (key : Row) (wide_now : AreWide g.keys now) (same : members g key now ≡ members g key rows) where
      own : Along g key rows now changes (of_group g.keys key changes)
      own = along key rows now changes wide wide_now long valid (sym same)

      long_mine : Long g (of_group g.keys key changes)
      long_mine = own_all (λ change. g.keys ≤ length change.row) key changes long

      wide_next : AreWide g.keys (fold_from g.input now (of_group g.keys key changes))
      wide_next = wide_from g.input g.keys keeps now (mine key) wide_now long_mine own.valid

      stays : (k : Row) → same_row k key ≡ false → members g k (fold_from g.input now (of_group g.keys key changes)) ≡ members g k now
      stays k e = other_members_from g keeps k now (mine key) wide_now long_mine own.valid (named_not key k (mine key) e (own_of key changes long))

      same_still : (others : List Row) → AllByRecursion (λ other. same_row key other ≡ false) others → AllByRecursion (λ k. members g k now ≡ members g k rows) others
          → AllByRecursion (λ k. members g k (fold_from g.input now (of_group g.keys key changes)) ≡ members g k rows) others
      same_still [] apart were = tt
      same_still (other ∷ others) apart were = (stays other ((eq_by_cmp_equiv row_total).symm other key ∙ apart.0) ∙ were.0, same_still others apart.1 were.1)

      one_more : (ks : List Row) → IsDistinct same_row (key ∷ ks) → Regrouped (fold_from g.input now (of_group g.keys key changes)) ks → Regrouped now (key ∷ ks)
      one_more ks distinct rest = record {
        told = λ i. appended (sym (same_emits key rows now changes (mine key) (sym same) own) i) (rest.told i);
        may = ((own.valid, own_of key changes long, own_all (λ change. HasKey g.input change.row) key changes keyed), rest.may);
        each = λ k.
            elim (same_row k key) as (λ t. same_row k key ≡ t → members g k (folded g.input (next key now) (map entry ks)) ≡ cond (t || list_any (same_row k) ks) (members g k (fold_from g.input rows changes)) (members g k now)) [
              | true ↦ λ e.
                  let is = same_row-true k key e in
                  subst (λ q. members g q (folded g.input (next key now) (map entry ks)) ≡ members g q (fold_from g.input rows changes)) (sym is)
                  (rest.each key ∙ ap (λ b. cond b (members g key (fold_from g.input rows changes)) (members g key (next key now))) (not_again key ks (IsDistinct-head same_row key ks distinct)) ∙ sym own.same)
              | false ↦ λ e. rest.each k ∙ ap (λ m. cond (list_any (same_row k) ks) (members g k (fold_from g.input rows changes)) m) (stays k e)
            ] refl;
      }

    regrouped : (now : Rows) (ks : List Row) → AreWide g.keys now → IsDistinct same_row ks → AllByRecursion (λ k. members g k now ≡ members g k rows) ks → Regrouped now ks
    regrouped now [] wide_now distinct same = record { told = refl; may = tt; each = λ k. refl }
    regrouped now (key ∷ ks) wide_now distinct same =
        one_more now key wide_now same.0 ks distinct
        (regrouped (fold_from g.input now (of_group g.keys key changes)) ks (wide_next now key wide_now same.0) (IsDistinct-tail same_row key ks distinct) (same_still now key wide_now same.0 ks (IsDistinct-head same_row key ks distinct) same.1))

    all_same : (ks : List Row) → AllByRecursion (λ k. members g k rows ≡ members g k rows) ks
    all_same [] = tt
    all_same (k ∷ ks) = (refl, all_same ks)

    whole : Regrouped rows (groups_of g.keys changes)
    whole = regrouped rows (groups_of g.keys changes) wide (distinct-first_seen (map (λ (change : Change). take g.keys change.row) changes)) (all_same (groups_of g.keys changes))

    -- what is emitted for all groups is what is emitted for each after those before it
    pub told_by_group : told_along g rows (by_group g.keys changes) ≡ answers (group_emits g rows changes) (groups_of g.keys changes)
    told_by_group = whole.told

    pub may_by_group : MayFollow g rows (by_group g.keys changes)
    may_by_group = whole.may

    all_same_rows : (k : Row) (b : Bool) → list_any (same_row k) (groups_of g.keys changes) ≡ b → cond b (members g k (fold_from g.input rows changes)) (members g k rows) ≡ members g k (fold_from g.input rows changes)
    all_same_rows k true e = refl
    all_same_rows k false e = sym (other_members_from g keeps k rows changes wide long valid (sym (any-first_seen k (map (λ (change : Change). take g.keys change.row) changes)) ∙ e))

    each_same : (k : Row) → members g k (folded g.input rows (by_group g.keys changes)) ≡ members g k (fold_from g.input rows changes)
    each_same k = whole.each k ∙ all_same_rows k (list_any (same_row k) (groups_of g.keys changes)) refl

    -- and the same rows stand then
    pub folded_by_group : folded g.input rows (by_group g.keys changes) ≡ fold_from g.input rows changes
    folded_by_group = same_bag row_total row_exact _ _ (λ row. same_copies g (take g.keys row) (folded g.input rows (by_group g.keys changes)) (fold_from g.input rows changes) (each_same (take g.keys row)) row (same_row-itself (take g.keys row)))
