-- Changes put one by one into a bundle: it holds each group's changes, in first-seen order.
use Rattle.std.proofs.Common.{◌≡◌, ℕ, ◌+◌, ◌||◌, not, Bool, true, false, cond, List, [], ◌∷◌, ◌++◌, map, take, refl, sym, ap, ◌∙◌, arith, length-append, append-nil}
use Rattle.std.specs.Prelude.{filter}
use Rattle.std.specs.List.{list_any, AllByRecursion, IsDistinct}
use Rattle.std.specs.Cmp.{eq_by_cmp_equiv}
use Rattle.std.proofs.lemmas.List.{map-append}
use Rattle.std.proofs.lemmas.List.Elements.{filter-append}
use Rattle.std.proofs.lemmas.Map.Keys.{IsDistinct-head, IsDistinct-tail}
use Rattle.ct_value.specs.Order.{row_total}
use Rattle.ct_value.specs.declared.row.Row.{Row}
use Rattle.ct_change.specs.declared.change.Change.{Change}
use Rattle.ct_change.specs.Changelog.{same_row}
use Rattle.ct_change.proofs.laws.Meanings.{same_row-itself, same_row-true}
use Rattle.mini_batch.specs.Held.{Entries, held_in, with_change}
use Rattle.rel_algebra.specs.GroupedCounts.{first_seen, in_group}
use Rattle.rel_algebra.proofs.laws.Results.{any-first_seen, distinct-first_seen}
use Rattle.mini_batch.specs.Groups.{of_group, by_group}

same_turned : (a b : Row) (t : Bool) → same_row a b ≡ t → same_row b a ≡ t
same_turned a b t e = (eq_by_cmp_equiv row_total).symm b a ∙ e

-- one change more is held
pub held_more : (entries : Entries) (key : Row) (change : Change) → held_in (with_change entries key change) ≡ held_in entries + 1
held_more [] key change = refl
held_more (entry ∷ entries) key change = by (same_row key entry.0) (held_more entries key change)
  where
    by : (b : Bool) → held_in (with_change entries key change) ≡ held_in entries + 1
        → held_in (cond b ((entry.0, entry.1 ++ change ∷ []) ∷ entries) (entry ∷ with_change entries key change)) ≡ held_in (entry ∷ entries) + 1
    by true h = omega (arith, length-append entry.1 (change ∷ []))
    by false h = omega (arith, h)

-- a row more is seen where it wasn't yet
seen-push : (rows : List Row) (row : Row) → first_seen (rows ++ row ∷ []) ≡ first_seen rows ++ cond (list_any (same_row row) rows) [] (row ∷ [])
seen-push [] row = refl
seen-push (d ∷ rows) row =
    ap (λ (l : List Row). d ∷ filter (λ other. not (same_row d other)) l) (seen-push rows row)
    ∙ ap (λ (l : List Row). d ∷ l) (filter-append (λ other. not (same_row d other)) (first_seen rows) (cond (list_any (same_row row) rows) [] (row ∷ [])))
    ∙ ap (λ (l : List Row). d ∷ (filter (λ other. not (same_row d other)) (first_seen rows) ++ l)) (last (list_any (same_row row) rows) (same_row row d) refl)
  where
    last : (a b : Bool) → same_row row d ≡ b → filter (λ other. not (same_row d other)) (cond a [] (row ∷ [])) ≡ cond (b || a) [] (row ∷ [])
    last true true e = refl
    last true false e = refl
    last false true e = ap (λ t. cond (not t) (row ∷ []) []) (same_turned row d true e)
    last false false e = ap (λ t. cond (not t) (row ∷ []) []) (same_turned row d false e)

-- one change more of a group
of_group-push : (keys : ℕ) (key : Row) (xs : List Change) (x : Change) → of_group keys key (xs ++ x ∷ []) ≡ of_group keys key xs ++ cond (in_group keys key x.row) (x ∷ []) []
of_group-push keys key xs x = filter-append (λ (change : Change). in_group keys key change.row) xs (x ∷ [])

-- a group of which nothing came has no changes
of_group-none : (keys : ℕ) (key : Row) (xs : List Change) → list_any (same_row key) (map (λ change. take keys change.row) xs) ≡ false → of_group keys key xs ≡ []
of_group-none keys key [] e = refl
of_group-none keys key (x ∷ xs) e =
    elim (in_group keys key x.row) as (λ b. (b || list_any (same_row key) (map (λ (change : Change). take keys change.row) xs)) ≡ false → cond b (x ∷ of_group keys key xs) (of_group keys key xs) ≡ []) [
      | true ↦ λ h. absurd (cc)
      | false ↦ λ h. of_group-none keys key xs h
    ] e

module _ (f : Row → List Change) (key : Row) (x : Change) where
  abbrev entry : Row → Row × List Change
  entry k = (k, f k)

  abbrev more : Row → Row × List Change
  more k = (k, f k ++ cond (same_row k key) (x ∷ []) [])

  as_they_were : (d : Row) (ks : List Row) → same_row key d ≡ true → AllByRecursion (λ k. same_row d k ≡ false) ks → map entry ks ≡ map more ks
  as_they_were d [] e apart = refl
  as_they_were d (k ∷ ks) e apart =
      let other : same_row k key ≡ false = same_turned key k false (ap (λ r. same_row r k) (same_row-true key d e) ∙ apart.0) in
      λ i. (k, sym (ap (λ b. f k ++ cond b (x ∷ []) []) other ∙ append-nil (f k)) i) ∷ as_they_were d ks e apart.1 i

  with_change-map : (ks : List Row) → IsDistinct same_row ks → with_change (map (λ k. (k, f k)) ks) key x ≡ map (λ k. (k, f k ++ cond (same_row k key) (x ∷ []) [])) ks ++ cond (list_any (same_row key) ks) [] ((key, x ∷ []) ∷ [])
  with_change-map [] distinct = refl
  with_change-map (d ∷ ks) distinct =
      elim (same_row key d) as (λ b. same_row key d ≡ b → cond b ((d, f d ++ x ∷ []) ∷ map entry ks) ((d, f d) ∷ with_change (map entry ks) key x)
      ≡ (more d ∷ map more ks) ++ cond (b || list_any (same_row key) ks) [] ((key, x ∷ []) ∷ [])) [
        | true ↦ λ e.
            let own : f d ++ x ∷ [] ≡ f d ++ cond (same_row d key) (x ∷ []) [] = ap (λ b. f d ++ cond b (x ∷ []) []) (sym (same_turned key d true e)) in
            (λ i. (d, own i) ∷ as_they_were d ks e (IsDistinct-head same_row d ks distinct) i) ∙ sym (append-nil (more d ∷ map more ks))
        | false ↦ λ e.
            let own : f d ≡ f d ++ cond (same_row d key) (x ∷ []) [] = sym (ap (λ b. f d ++ cond b (x ∷ []) []) (same_turned key d false e) ∙ append-nil (f d)) in
            λ i. (d, own i) ∷ with_change-map ks (IsDistinct-tail same_row d ks distinct) i
      ] refl

module _ (keys : ℕ) (xs : List Change) (x : Change) where
  abbrev key : Row
  key = take keys x.row

  abbrev rows : List Row
  rows = map (λ (change : Change). take keys change.row) xs

  abbrev seen : List Row
  seen = first_seen rows

  abbrev now : Row → Row × List Change
  now k = (k, of_group keys k (xs ++ x ∷ []))

  alone : list_any (same_row key) rows ≡ false → x ∷ [] ≡ of_group keys key (xs ++ x ∷ [])
  alone e = sym (of_group-push keys key xs x ∙ (λ i. of_group-none keys key xs e i ++ cond (same_row-itself key i) (x ∷ []) []))

  by_seen : (b : Bool) → list_any (same_row key) rows ≡ b → cond b [] ((key, x ∷ []) ∷ []) ≡ map now (cond b [] (key ∷ []))
  by_seen true e = refl
  by_seen false e = λ i. (key, alone e i) ∷ []

  behind : cond (list_any (same_row key) seen) [] ((key, x ∷ []) ∷ []) ≡ map now (cond (list_any (same_row key) rows) [] (key ∷ []))
  behind = ap (λ b. cond b [] ((key, x ∷ []) ∷ [])) (any-first_seen key rows) ∙ by_seen (list_any (same_row key) rows) refl

  -- the next change of a list
  pub by_group-push : with_change (by_group keys xs) (take keys x.row) x ≡ by_group keys (xs ++ x ∷ [])
  by_group-push =
      with_change-map (λ k. of_group keys k xs) key x seen (distinct-first_seen rows)
      ∙ (λ i. map (λ k. (k, sym (of_group-push keys k xs x) i)) seen ++ behind i)
      ∙ sym (map-append now seen (cond (list_any (same_row key) rows) [] (key ∷ [])))
      ∙ sym (ap (map now) (ap first_seen (map-append (λ (change : Change). take keys change.row) xs (x ∷ [])) ∙ seen-push rows key))
