-- The runs of a bag's items are its counts.
use Rattle.std.proofs.Common.{◌≡◌, ◌≢◌, ℕ, zero, suc, ◌<◌, ◌==◌, Bool, true, false, cond, T, not, ◌&&◌, List, [], ◌∷◌, Some, None, refl, sym, ap, subst, ◌∙◌, arith, length, IsTrue}
use Rattle.std.specs.List.{AllByRecursion}
use Rattle.std.specs.List.Sorted.{IsStrictlySortedBy}
use Rattle.std.specs.Map.{keys_of, lookup}
use Rattle.std.specs.Ordering.{is_eq, is_gt}
use Rattle.std.specs.declared.cmp.Ordering.TheVariants.{Less}
use Rattle.std.specs.Cmp.{Equal-is, tied_itself, eq_by_cmp_equiv}
use Rattle.std.specs.BTreeMap.{BTreeMap, is_at}
use Rattle.std.proofs.lemmas.Map.Keys.{sorted_head, sorted_tail, IsDistinct-from_sorted}
use Rattle.std.proofs.lemmas.Map.Entries.{none_past_head}
use Rattle.std.proofs.lemmas.Map.{lookup-none}
use Rattle.ct_value.specs.Bag.{Bag, items, put, at_most_all, add_many, bag_of_counts}
use Rattle.ct_value.proofs.laws.Bags.{items-none, items-add}
use Rattle.ct_value.specs.Order.{row_cmp, row_total, row_exact}
use Rattle.ct_value.specs.declared.row.Row.{Row}
use Rattle.std.proofs.lemmas.Bool.{eq-eqb, ne_eqb}
use Rattle.ct_change.specs.Changelog.{same_row, is_empty}
use Rattle.ct_change.specs.Counts.{AreCounts, one_more, runs, repeated, each_copy}

-- runs tell their rows
pub each_copy-runs : (rows : List Row) → each_copy (runs rows) ≡ rows
each_copy-runs [] = refl
each_copy-runs (row ∷ rows) = each_copy-one_more (runs rows) ∙ ap (λ xs. row ∷ xs) (each_copy-runs rows)
  where
    each_copy-one_more : (entries : List (Row × ℕ)) → each_copy (one_more row entries) ≡ row ∷ each_copy entries
    each_copy-one_more [] = refl
    each_copy-one_more (entry ∷ entries) =
        elim (same_row row entry.0) as (λ b. same_row row entry.0 ≡ b → each_copy (cond b ((row, suc entry.1) ∷ entries) ((row, 1) ∷ entry ∷ entries)) ≡ row ∷ each_copy (entry ∷ entries)) [
          | true ↦ λ e. ap (λ r. row ∷ repeated r entry.1 (each_copy entries)) (row_exact row entry.0 ((Equal-is (row_cmp row entry.0)).0 e))
          | false ↦ λ e. refl
        ] refl

both : (a b : Bool) → T a → T b → T (a && b)
both true b p q = q
both false b p q = p

first : (a b : Bool) → T (a && b) → T a
first true b p = tt
first false b p = p

not_above : (b : Bool) → T (not b) → b ≡ false
not_above true p = absurd p
not_above false p = refl

itself : (row : Row) → T (not (is_gt (row_cmp row row)))
itself row = subst (λ o. T (not (is_gt o))) (sym (tied_itself row_total row)) tt

-- a row that is at most all others is put first
put-first : (row : Row) (rows : List Row) → T (at_most_all row_cmp row rows) → put row_cmp row rows ≡ row ∷ rows
put-first row [] h = refl
put-first row (other ∷ rows) h = ap (λ b. cond b (other ∷ put row_cmp row rows) (row ∷ other ∷ rows)) (not_above _ (first _ _ h))

at_most_all-repeated : (row : Row) (count : ℕ) (rows : List Row) → T (at_most_all row_cmp row rows) → T (at_most_all row_cmp row (repeated row count rows))
at_most_all-repeated row zero rows h = h
at_most_all-repeated row (suc count) rows h = both _ _ (itself row) (at_most_all-repeated row count rows h)

below_repeated : (low row : Row) (count : ℕ) (rows : List Row) → row_cmp low row ≡ Less → T (at_most_all row_cmp low rows) → T (at_most_all row_cmp low (repeated row count rows))
below_repeated low row zero rows l h = h
below_repeated low row (suc count) rows l h = both _ _ (subst (λ o. T (not (is_gt o))) (sym l) tt) (below_repeated low row count rows l h)

below_each : (low : Row) (entries : List (Row × ℕ)) → AllByRecursion (λ row. row_cmp low row ≡ Less) (keys_of entries) → T (at_most_all row_cmp low (each_copy entries))
below_each low [] h = tt
below_each low (entry ∷ entries) h = below_repeated low entry.0 entry.1 (each_copy entries) h.0 (below_each low entries h.1)

items-add_many : (rows : Bag row_cmp) (others : List Row) (row : Row) (count : ℕ) → items rows ≡ others → T (at_most_all row_cmp row others) → items (add_many rows row count) ≡ repeated row count others
items-add_many rows others row zero e h = e
items-add_many rows others row (suc count) e h =
    items-add row_total (add_many rows row count) row
    ∙ ap (put row_cmp row) (items-add_many rows others row count e h)
    ∙ put-first row (repeated row count others) (at_most_all-repeated row count others h)

items-bag_of_counts : (entries : List (Row × ℕ)) → IsStrictlySortedBy row_cmp (keys_of entries) → items (bag_of_counts {R = row_cmp} entries) ≡ each_copy entries
items-bag_of_counts [] s = items-none row_cmp
items-bag_of_counts (entry ∷ entries) s =
    items-add_many (bag_of_counts entries) (each_copy entries) entry.0 entry.1
    (items-bag_of_counts entries (sorted_tail row_cmp entry.0 (keys_of entries) s))
    (below_each entry.0 entries (sorted_head row_cmp entry.0 (keys_of entries) s))

runs-repeated : (row : Row) (count : ℕ) (rows : List Row) (entries : List (Row × ℕ)) → runs rows ≡ entries → AllByRecursion (λ other. row_cmp row other ≡ Less) (keys_of entries) → runs (repeated row (suc count) rows) ≡ (row, suc count) ∷ entries
runs-repeated row zero rows [] e h = ap (one_more row) e
runs-repeated row zero rows (entry ∷ entries) e h = ap (one_more row) e ∙ ap (λ o. cond (is_eq o) ((row, suc entry.1) ∷ entries) ((row, 1) ∷ entry ∷ entries)) h.0
runs-repeated row (suc count) rows entries e h =
    ap (one_more row) (runs-repeated row count rows entries e h)
    ∙ ap (λ o. cond (is_eq o) ((row, suc (suc count)) ∷ entries) ((row, 1) ∷ (row, suc count) ∷ entries)) (tied_itself row_total row)

-- a count that is not 0
runs-entry : (row : Row) (count : ℕ) (rows : List Row) (entries : List (Row × ℕ)) → count ≢ 0 → runs rows ≡ entries → AllByRecursion (λ other. row_cmp row other ≡ Less) (keys_of entries) → runs (repeated row count rows) ≡ (row, count) ∷ entries
runs-entry row zero rows entries some e h = absurd (some refl)
runs-entry row (suc count) rows entries some e h = runs-repeated row count rows entries e h

runs-each_copy : (entries : List (Row × ℕ)) → IsStrictlySortedBy row_cmp (keys_of entries) → ((row : Row) → lookup (is_at (row_cmp row)) entries ≢ Some 0) → runs (each_copy entries) ≡ entries
runs-each_copy [] s positive = refl
runs-each_copy (entry ∷ entries) s positive =
    let there : lookup (is_at (row_cmp entry.0)) (entry ∷ entries) ≡ Some entry.1 = ap (λ o. cond (is_eq o) (Some entry.1) (lookup (is_at (row_cmp entry.0)) entries)) (tied_itself row_total entry.0) in
    runs-entry entry.0 entry.1 (each_copy entries) entries (λ e. positive entry.0 (there ∙ ap Some e))
    (runs-each_copy entries (sorted_tail row_cmp entry.0 (keys_of entries) s) (λ row e.
    elim (is_at (row_cmp row) entry.0) as (λ b. is_at (row_cmp row) entry.0 ≡ b → ⊥) [
      | true ↦ λ t. let apart = none_past_head (eq_by_cmp_equiv row_total) row entry entries (IsDistinct-from_sorted row_cmp (keys_of (entry ∷ entries)) s) t in
          let gone : lookup (is_at (row_cmp row)) entries ≡ None = lookup-none (is_at (row_cmp row)) entries apart in cc
      | false ↦ λ f. positive row (ap (λ b. cond b (Some entry.1) (lookup (is_at (row_cmp row)) entries)) f ∙ e)
    ] refl))
    (sorted_head row_cmp entry.0 (keys_of entries) s)

pub runs-counts : (counts : BTreeMap Row ℕ) → AreCounts counts → runs (items (bag_of_counts {R = row_cmp} counts.entries)) ≡ counts.entries
runs-counts counts are = ap runs (items-bag_of_counts counts.entries are.ordered) ∙ runs-each_copy counts.entries are.ordered are.positive

length-one_more : (row : Row) (entries : List (Row × ℕ)) → 0 < length (one_more row entries)
length-one_more row [] = omega arith
length-one_more row (entry ∷ entries) = elim (same_row row entry.0) as (λ b. 0 < length (cond b ((row, suc entry.1) ∷ entries) ((row, 1) ∷ entry ∷ entries))) [ true ↦ omega arith | false ↦ omega arith ]

-- there are no runs exactly where there are no rows
empty-runs : (rows : List Row) → (length (runs rows) == 0) ≡ (length rows == 0)
empty-runs [] = refl
empty-runs (row ∷ rows) =
    let some = length-one_more row (runs rows) in
    ne_eqb (length (one_more row (runs rows))) 0 (λ e. omega arith) ∙ sym (ne_eqb (length (row ∷ rows)) 0 (λ e. omega arith))

pub empty-counts : (counts : BTreeMap Row ℕ) → AreCounts counts → (length counts.entries == 0) ≡ is_empty (bag_of_counts {R = row_cmp} counts.entries)
empty-counts counts are = ap (λ entries. length entries == 0) (sym (runs-counts counts are)) ∙ empty-runs (items (bag_of_counts {R = row_cmp} counts.entries))

is_zero : (b : Bool) (n : ℕ) → (IsTrue b → n ≡ 0) → (n ≡ 0 → IsTrue b) → b ≡ (n == 0)
is_zero true n h k = sym (eq-eqb n 0 (h refl))
is_zero false n h k = sym (ne_eqb n 0 (λ e. let yes_ = k e in cc))

pub is_empty-counts : (counts : BTreeMap Row ℕ) (b : Bool) → AreCounts counts → (IsTrue b → length counts.entries ≡ 0) → (length counts.entries ≡ 0 → IsTrue b) → b ≡ is_empty (bag_of_counts {R = row_cmp} counts.entries)
is_empty-counts counts b are h k = is_zero b (length counts.entries) h k ∙ empty-counts counts are
