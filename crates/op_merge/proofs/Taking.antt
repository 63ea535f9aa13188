-- Partial rows that are taken group by group, as a piece.
use Rattle.std.proofs.Common.{◌≡◌, ◌≤◌, ◌||◌, ◌++◌, ℕ, true, false, cond, List, [], ◌∷◌, length, map, take, drop, refl, sym, ap, subst, ◌∙◌, append-nil}
use Rattle.std.specs.List.{list_any, AllByRecursion, IsDistinct}
use Rattle.std.specs.Cmp.{eq_by_cmp_equiv}
use Rattle.std.proofs.lemmas.List.{length-take-le}
use Rattle.std.proofs.lemmas.Map.Keys.{IsDistinct-head, IsDistinct-tail}
use Rattle.ct_value.specs.Order.{row_total}
use Rattle.ct_value.specs.declared.row.Row.{Row}
use Rattle.ct_value.specs.declared.value.Value.{Value}
use Rattle.ct_change.specs.declared.change.Change.{Change}
use Rattle.ct_change.specs.Changelog.{same_row}
use Rattle.ct_change.proofs.laws.Meanings.{same_row-true, same_row-itself}
use Rattle.rel_algebra.proofs.laws.Results.{any-first_seen, all-first_seen, distinct-first_seen}
use Rattle.op_rules.specs.Rules.{appended}
use Rattle.mini_batch.specs.Groups.{of_group, by_group}
use Rattle.emission_rules.specs.Grouping.{groups_of, answers}
use Rattle.phase_rules.specs.LocalGrouping.{members_of}
use Rattle.phase_rules.specs.Merging.{Merging, amounts_in, merge_answer}
use Rattle.op_merge.specs.Groups.{Amounts, with_more}
use Rattle.op_merge.specs.Bundles.{AreNamed, grown, told_along}

still : (of now : Amounts) (key : Row) (rows : List (List Value)) (ks : List Row) → AllByRecursion (λ other. same_row key other ≡ false) ks → AllByRecursion (λ k. now k ≡ of k) ks → AllByRecursion (λ k. with_more now key rows k ≡ of k) ks
still of now key rows [] apart same = tt
still of now key rows (k ∷ ks) apart same = (ap (λ b. cond b (now k ++ rows) (now k)) apart.0 ∙ same.0, still of now key rows ks apart.1 same.1)

not_again : (k : Row) (others : List Row) → AllByRecursion (λ other. same_row k other ≡ false) others → list_any (same_row k) others ≡ false
not_again k [] apart = refl
not_again k (other ∷ others) apart = (λ i. apart.0 i || not_again k others apart.1 i)

all_same : (of : Amounts) (ks : List Row) → AllByRecursion (λ k. of k ≡ of k) ks
all_same of [] = tt
all_same of (k ∷ ks) = (refl, all_same of ks)

module _ (keys : ℕ) (changes : List Change) where
  -- of a group that isn't among theirs nothing came
  none_of : (k : Row) (all : List Change) → list_any (same_row k) (map (λ change. take keys change.row) all) ≡ false → members_of keys k all ≡ []
  none_of k [] e = refl
  none_of k (c ∷ cs) e =
      elim (same_row k (take keys c.row)) as (λ b. (b || list_any (same_row k) (map (λ change. take keys change.row) cs)) ≡ false → cond b (c ∷ members_of keys k cs) (members_of keys k cs) ≡ []) [
        | true ↦ λ q. absurd (cc)
        | false ↦ λ q. none_of k cs q
      ] e

  grown_keys : (now : Amounts) (ks : List Row) → IsDistinct same_row ks → (k : Row)
      → grown keys now (map (λ key. (key, of_group keys key changes)) ks) k ≡ cond (list_any (same_row k) ks) (now k ++ amounts_in keys k changes) (now k)
  grown_keys now [] distinct k = refl
  grown_keys now (key ∷ ks) distinct k =
      let mine = amounts_in keys key changes in
      let next = with_more now key mine in
      grown_keys next ks (IsDistinct-tail same_row key ks distinct) k
      ∙ elim (same_row k key) as (λ t. same_row k key ≡ t → cond (list_any (same_row k) ks) (next k ++ amounts_in keys k changes) (next k) ≡ cond (t || list_any (same_row k) ks) (now k ++ amounts_in keys k changes) (now k)) [
        | true ↦ λ e.
            let is : key ≡ k = sym (same_row-true k key e) in
            subst (λ q. cond (list_any (same_row q) ks) (next q ++ amounts_in keys q changes) (next q) ≡ now q ++ amounts_in keys q changes) is
            (ap (λ b. cond b (next key ++ mine) (next key)) (not_again key ks (IsDistinct-head same_row key ks distinct)) ∙ ap (λ b. cond b (now key ++ mine) (now key)) (same_row-itself key))
        | false ↦ λ e.
            let stays : next k ≡ now k = ap (λ b. cond b (now k ++ mine) (now k)) ((eq_by_cmp_equiv row_total).symm key k ∙ e) in
            ap (λ rows. cond (list_any (same_row k) ks) (rows ++ amounts_in keys k changes) rows) stays
      ] refl

  pub grown_all : (of : Amounts) (k : Row) → grown keys of (by_group keys changes) k ≡ of k ++ amounts_in keys k changes
  grown_all of k =
      grown_keys of (groups_of keys changes) (distinct-first_seen (map (λ (change : Change). take keys change.row) changes)) k
      ∙ elim (list_any (same_row k) (groups_of keys changes)) as (λ b. list_any (same_row k) (groups_of keys changes) ≡ b → cond b (of k ++ amounts_in keys k changes) (of k) ≡ of k ++ amounts_in keys k changes) [
        | true ↦ λ e. refl
        | false ↦ λ e.
            let none : members_of keys k changes ≡ [] = none_of k changes (sym (any-first_seen k (map (λ (change : Change). take keys change.row) changes)) ∙ e) in
            sym (ap (λ (l : List Change). of k ++ map (λ change. drop keys change.row) l) none ∙ append-nil (of k))
      ] refl

  lengths : (all : List Change) → AllByRecursion (λ change. keys ≤ length change.row) all → AllByRecursion (λ row. length row ≡ keys) (map (λ change. take keys change.row) all)
  lengths [] long = tt
  lengths (c ∷ cs) long = (length-take-le keys c.row long.0, lengths cs long.1)

  entries_named : (ks : List Row) → AllByRecursion (λ row. length row ≡ keys) ks → AreNamed keys (map (λ key. (key, of_group keys key changes)) ks)
  entries_named [] named = tt
  entries_named (k ∷ ks) named = (named.0, entries_named ks named.1)

  pub named_all : AllByRecursion (λ change. keys ≤ length change.row) changes → AreNamed keys (by_group keys changes)
  named_all long = entries_named (groups_of keys changes) (all-first_seen (λ row. length row ≡ keys) (map (λ (change : Change). take keys change.row) changes) (lengths changes long))

module _ (m : Merging) (changes : List Change) (of : Amounts) where
  told_keys : (now : Amounts) (ks : List Row) → IsDistinct same_row ks → AllByRecursion (λ k. now k ≡ of k) ks
      → told_along m now (map (λ key. (key, of_group m.local.keys key changes)) ks) ≡ answers (λ key. merge_answer m key (of key) (amounts_in m.local.keys key changes)) ks
  told_keys now [] distinct same = refl
  told_keys now (k ∷ ks) distinct same =
      let mine = amounts_in m.local.keys k changes in
      let rest = told_keys (with_more now k mine) ks (IsDistinct-tail same_row k ks distinct) (still of now k mine ks (IsDistinct-head same_row k ks distinct) same.1) in
      λ i. appended (merge_answer m k (same.0 i) (amounts_in m.local.keys k changes)) (rest i)

  -- what is emitted for each group after those before it is what is emitted for all
  pub told_all : told_along m of (by_group m.local.keys changes) ≡ answers (λ key. merge_answer m key (of key) (amounts_in m.local.keys key changes)) (groups_of m.local.keys changes)
  told_all = told_keys of (groups_of m.local.keys changes) (distinct-first_seen (map (λ (change : Change). take m.local.keys change.row) changes)) (all_same of (groups_of m.local.keys changes))
