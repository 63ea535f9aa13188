-- What is made key by key, over the entries of an index.
use Rattle.std.proofs.Common.{◌≡◌, ℕ, zero, suc, ◌+◌, ◌*◌, ◌<◌, ◌==◌, Bool, true, false, cond, List, [], ◌∷◌, ◌++◌, take, Option, Some, None, refl, sym, ap, ◌∙◌, subst, arith}
use Rattle.std.specs.Prelude.{option_map}
use Rattle.std.specs.List.{AllByRecursion, slice_get}
use Rattle.std.specs.Ordering.{eq_by_cmp, is_eq}
use Rattle.std.specs.Option.{unwrap_or}
use Rattle.std.specs.BTreeMap.{get, is_at}
use Rattle.std.specs.Map.{lookup, keys_of}
use Rattle.std.specs.Cmp.{Equal-is, tied_itself}
use Rattle.std.proofs.lemmas.Map.Keys.{IsDistinct-from_sorted}
use Rattle.std.proofs.lemmas.Map.Entries.{btree_map_get_place}
use Rattle.ct_value.specs.Bag.{none, bag_of_counts, copies, one_at}
use Rattle.ct_value.proofs.laws.Bags.{copies-none, copies-bag_of_counts, same_bag, one_at_itself}
use Rattle.ct_value.specs.Order.{row_cmp, row_total, row_exact}
use Rattle.ct_value.specs.declared.row.Row.{Row}
use Rattle.ct_change.specs.Changelog.{Rows, same_row}
use Rattle.rel_algebra.specs.Sums.{one, mapped, sum_over}
use Rattle.rel_algebra.specs.Groups.{group_rows}
use Rattle.rel_algebra.specs.Keys.{rows_of_key, keys_in}
use Rattle.rel_algebra.proofs.laws.Bags.{copies-restrict, copies-distinct}
use Rattle.rel_algebra.proofs.laws.Keys.{key_there, there_key, rows_of_key-all}
use Rattle.batch_answer.specs.Tallies.{OfRows}
use Rattle.batch_answer.specs.Indexes.{Index, found_at, IsFilled, IsIndex}
use Rattle.batch_answer.proofs.Sums.{copies-many}
use Rattle.batch_answer.proofs.Indexes.{each-lookup}

-- each key once
abbrev pub units : List (Row × List (Row × ℕ)) → List (Row × ℕ)
units [] = []
units (entry ∷ entries) = (entry.0, 1) ∷ units entries

keys_of-units : (entries : List (Row × List (Row × ℕ))) → keys_of (units entries) ≡ keys_of entries
keys_of-units [] = refl
keys_of-units (entry ∷ entries) = ap (λ ks. entry.0 ∷ ks) (keys_of-units entries)

-- an entry has its key's rows
abbrev pub IsMember : (Row → Row) → Rows → Row × List (Row × ℕ) → Type 0
IsMember key_of rows entry = (bag_of_counts entry.1 ≡ rows_of_key key_of entry.0 rows) × IsFilled entry.1

-- 1 where something is there
abbrev pub is_there : {A : Type 0} → Option A → ℕ
is_there None = 0
is_there (Some x) = 1

lookup-units : (test : Row → Bool) (entries : List (Row × List (Row × ℕ))) → unwrap_or (lookup test (units entries)) 0 ≡ is_there (lookup test entries)
lookup-units test [] = refl
lookup-units test (entry ∷ entries) = elim (test entry.0) as (λ b. unwrap_or (cond b (Some 1) (lookup test (units entries))) 0 ≡ is_there (cond b (Some entry.1) (lookup test entries))) [ true ↦ refl | false ↦ lookup-units test entries ]

module _ (key_of : Row → Row) (rows : Rows) (index : Index) (is : IsIndex key_of rows index) where
  in_key : (key row : Row) → 0 < copies (rows_of_key key_of key rows) row → (0 < copies rows row) × (key ≡ key_of row)
  in_key key row h = go (same_row key (key_of row)) refl _ (copies-restrict row_total row_exact (λ row. same_row key (key_of row)) rows row) h
    where
      go : (t : Bool) → same_row key (key_of row) ≡ t → (n : ℕ) → n ≡ cond t (copies rows row) 0 → 0 < n → (0 < copies rows row) × (key ≡ key_of row)
      go true g n e p = (omega arith, row_exact key (key_of row) ((Equal-is (row_cmp key (key_of row))).0 g))
      go false g n e p = absurd (omega arith)

  key_in : (row : Row) → 0 < copies rows row → 0 < copies (rows_of_key key_of (key_of row) rows) row
  key_in row h =
      let e = copies-restrict row_total row_exact (λ other. same_row (key_of row) (key_of other)) rows row in
      let t : same_row (key_of row) (key_of row) ≡ true = ap is_eq (tied_itself row_total (key_of row)) in
      let f : copies (rows_of_key key_of (key_of row) rows) row ≡ copies rows row = e ∙ ap (λ b. cond b (copies rows row) 0) t in omega arith

  -- an entry's first row
  first_there : (entries : List (Row × ℕ)) → IsFilled entries → (row : Row) × (0 < copies (bag_of_counts {R = row_cmp} entries) row)
  first_there [] h = absurd (let p = h.0 in omega arith)
  first_there (entry ∷ entries) h = (
    entry.0,
    let e = copies-many (bag_of_counts entries) entry.0 entry.0 entry.1 in
        let i : one_at row_cmp entry.0 entry.0 ≡ 1 = one_at_itself row_cmp row_total entry.0 in
        let j : entry.1 * one_at row_cmp entry.0 entry.0 ≡ entry.1 = ap (λ k. entry.1 * k) i ∙ omega arith in
        let some : 0 < entry.1 = h.1.0.0 in omega arith,
  )

  once_there : (key : Row) (n : ℕ) → 0 < cond {A = ℕ} (n == 0) 0 1 → ◌≡◌ {A = ℕ} (cond (n == 0) 0 1) 1
  once_there key n h = elim (n == 0) as (λ b. 0 < cond {A = ℕ} b 0 1 → ◌≡◌ {A = ℕ} (cond b 0 1) 1) [ true ↦ λ p. absurd (omega arith) | false ↦ λ p. refl ] h

  keys-copies : (key : Row) (found : Option (List (Row × ℕ))) → get row_cmp index key ≡ found → copies (keys_in key_of rows) key ≡ is_there found
  keys-copies key None e = nothing _ refl
    where
      nothing : (n : ℕ) → copies (keys_in key_of rows) key ≡ n → copies (keys_in key_of rows) key ≡ 0
      nothing zero i = i
      nothing (suc n) i = absurd (
          let p = key_there key_of rows key (omega arith) in
          let q : 0 < copies (rows_of_key key_of (key_of p.0) rows) p.0 = key_in p.0 p.1 in
          let same : rows_of_key key_of (key_of p.0) rows ≡ none = ap (λ k. rows_of_key key_of k rows) (sym p.2) ∙ sym (is.found key) ∙ ap (λ (o : Option (List (Row × ℕ))). bag_of_counts (unwrap_or o [])) e in
          let z : copies (rows_of_key key_of (key_of p.0) rows) p.0 ≡ copies none p.0 = ap (λ (r : Rows). copies r p.0) same in
          omega (arith, copies-none {R = row_cmp} row_total p.0))
  keys-copies key (Some entries) e =
      let filled : IsFilled entries = each-lookup IsFilled (is_at (row_cmp key)) index.entries entries is.filled e in
      let first = first_there entries filled in
      let same : bag_of_counts entries ≡ rows_of_key key_of key rows = sym (ap (λ (o : Option (List (Row × ℕ))). bag_of_counts (unwrap_or o [])) e) ∙ is.found key in
      let there = in_key key first.0 (subst (λ (r : Rows). 0 < copies r first.0) same first.1) in
      let some : 0 < copies (keys_in key_of rows) key = subst (λ k. 0 < copies (keys_in key_of rows) k) (sym there.1) (there_key key_of rows first.0 there.0) in
      let d : copies (keys_in key_of rows) key ≡ cond (copies {R = row_cmp} (mapped key_of rows) key == 0) 0 1 = copies-distinct row_total row_exact (mapped key_of rows) key in
      d ∙ once_there key (copies {R = row_cmp} (mapped key_of rows) key) (subst (λ n. 0 < n) d some)

  -- the keys of the rows are those of the entries
  pub keys-units : keys_in key_of rows ≡ bag_of_counts (units index.entries)
  keys-units = same_bag row_total row_exact _ _ (λ key.
      keys-copies key (get row_cmp index key) refl
      ∙ sym (copies-bag_of_counts row_total (units index.entries) key (subst (λ ks. Rattle.std.specs.List.IsDistinct (eq_by_cmp row_cmp) ks) (sym (keys_of-units index.entries)) (IsDistinct-from_sorted row_cmp (keys_of index.entries) is.ordered))
      ∙ lookup-units (is_at (row_cmp key)) index.entries))

  each_place : (P : Row × List (Row × ℕ) → Type 0) (entries : List (Row × List (Row × ℕ))) → ((i : ℕ) (entry : Row × List (Row × ℕ)) → slice_get entries i ≡ Some entry → P entry) → AllByRecursion P entries
  each_place P [] h = tt
  each_place P (entry ∷ entries) h = (h zero entry refl, each_place P entries (λ i e p. h (suc i) e p))

  pub entries-are : AllByRecursion (IsMember key_of rows) index.entries
  entries-are = each_place (IsMember key_of rows) index.entries (λ i entry p.
      let e : get row_cmp index entry.0 ≡ Some entry.1 = btree_map_get_place row_total index i entry.0 entry.1 is.ordered p in
      (sym (ap (λ (o : Option (List (Row × ℕ))). bag_of_counts (unwrap_or o [])) e) ∙ is.found entry.0, each-lookup IsFilled (is_at (row_cmp entry.0)) index.entries entry.1 is.filled e))

-- what a group's key and rows make
abbrev pub group_made : (Row → Row) → (Rows → Option Row) → Rows → OfRows
group_made key_of results rows key = option_map (λ values. one (key ++ values)) (results (rows_of_key key_of key rows))

-- grouping by one column or more goes key by key
pub groups-by_key : (keys : ℕ) (results : Rows → Option Row) (rows : Rows) → 0 < keys → group_rows keys results rows ≡ sum_over (group_made (take keys) results rows) (keys_in (take keys) rows)
groups-by_key zero results rows h = absurd (omega arith)
groups-by_key (suc keys) results rows h = refl

-- all rows have the key of no columns
pub all-found : (rows : Rows) (index : Index) → IsIndex (take 0) rows index → bag_of_counts (found_at index []) ≡ rows
all-found rows index is = is.found [] ∙ rows_of_key-all (take 0) [] rows (λ row h. refl)
