-- The rows of a map by key, as a bag.
use Rattle.std.proofs.Common.{◌≡◌, ℕ, ◌+◌, ◌≤◌, true, false, cond, List, [], ◌∷◌, length, Some, None, refl, sym, ap, ◌∙◌, arith}
use Rattle.std.proofs.lemmas.Map.{lookup-none}
use Rattle.std.proofs.lemmas.Map.Entries.{none_past_head}
use Rattle.std.proofs.lemmas.Map.Keys.{IsDistinct-from_sorted, IsDistinct-tail}
use Rattle.std.specs.BTreeMap.{BTreeMap, IsOrdered, is_at, keys, values}
use Rattle.std.specs.Cmp.{eq_by_cmp_equiv}
use Rattle.std.specs.List.{IsDistinct}
use Rattle.std.specs.Map.{keys_of, lookup, values_of}
use Rattle.std.specs.Ordering.{eq_by_cmp}
use Rattle.ct_value.specs.Bag.{copies, items, occurs, one_at, weigh}
use Rattle.ct_value.proofs.laws.Bags.{same_bag}
use Rattle.ct_value.specs.Maps.{map_in}
use Rattle.ct_value.proofs.laws.Maps.{get-map_in}
use Rattle.ct_value.specs.Order.{row_cmp, row_total, row_exact}
use Rattle.ct_value.specs.Rows.{project}
use Rattle.ct_value.specs.declared.row.Row.{Row}
use Rattle.ct_change.specs.Changelog.{Rows, same_row}
use Rattle.ct_change.specs.LastRows.{AreLast, has_key}
use Rattle.ct_change.proofs.laws.Folds.{find-passes}
use Rattle.ct_change.proofs.laws.Meanings.{same_row-itself, same_row-true}
use Rattle.source_lines.proofs.Keyed.{copies-kept, copies_at}

-- each entry stands under the key of its row
abbrev AreByKey : List ℕ → List (Row × Row) → Type 0
AreByKey columns entries = (k v : Row) → lookup (is_at (row_cmp k)) entries ≡ Some v → k ≡ project columns v

module _ (columns : List ℕ) (e : Row × Row) (es : List (Row × Row)) (distinct : IsDistinct (eq_by_cmp row_cmp) (keys_of (e ∷ es))) where
  none_behind : (k : Row) → same_row k e.0 ≡ true → lookup (is_at (row_cmp k)) es ≡ None
  none_behind k t = lookup-none (is_at (row_cmp k)) es (none_past_head (eq_by_cmp_equiv row_total) k e es distinct t)

  tail-by_key : AreByKey columns (e ∷ es) → AreByKey columns es
  tail-by_key by_key k v found =
      elim (same_row k e.0) as (λ b. same_row k e.0 ≡ b → (cond b (Some e.1) (lookup (is_at (row_cmp k)) es) ≡ Some v → k ≡ project columns v) → k ≡ project columns v) [
        | true ↦ λ t own. cc (sym (none_behind k t) ∙ found)
        | false ↦ λ f own. own found
      ] refl (by_key k v)

  head-by_key : AreByKey columns (e ∷ es) → e.0 ≡ project columns e.1
  head-by_key by_key = by_key e.0 e.1 (ap (λ b. cond b (Some e.1) (lookup (is_at (row_cmp e.0)) es)) (same_row-itself e.0))

values-weigh : (columns : List ℕ) (x : Row) (es : List (Row × Row)) → IsDistinct (eq_by_cmp row_cmp) (keys_of es) → AreByKey columns es
    → weigh (one_at row_cmp x) (values_of es) ≡ copies_at (lookup (is_at (row_cmp (project columns x))) es) x
values-weigh columns x [] distinct by_key = refl
values-weigh columns x (e ∷ es) distinct by_key =
    let own = head-by_key columns e es distinct by_key in
    let others = values-weigh columns x es (IsDistinct-tail (eq_by_cmp row_cmp) e.0 (keys_of es) distinct) (tail-by_key columns e es distinct by_key) in
    elim (same_row (project columns x) e.0) as (λ b. same_row (project columns x) e.0 ≡ b
    → one_at row_cmp x e.1 + weigh (one_at row_cmp x) (values_of es) ≡ copies_at (cond b (Some e.1) (lookup (is_at (row_cmp (project columns x))) es)) x) [
      | true ↦ λ t.
          let none_left : weigh (one_at row_cmp x) (values_of es) ≡ 0 = others ∙ ap (λ o. copies_at o x) (none_behind columns e es distinct (project columns x) t) in
          omega (arith, none_left)
      | false ↦ λ f.
          elim (same_row x e.1) as (λ b. same_row x e.1 ≡ b → cond b 1 0 + weigh (one_at row_cmp x) (values_of es) ≡ copies_at (lookup (is_at (row_cmp (project columns x))) es) x) [
            | true ↦ λ s.
                let same_key : project columns x ≡ e.0 = ap (project columns) (same_row-true x e.1 s) ∙ sym own in
                let tied : same_row (project columns x) e.0 ≡ true = ap (same_row (project columns x)) (sym same_key) ∙ same_row-itself (project columns x) in
                cc (sym f ∙ tied)
            | false ↦ λ s. omega (arith, others)
          ] refl
    ] refl

-- a bag of a map's rows is the bag of the rows that it stands for
pub values_stand : (m : BTreeMap Row Row) (columns : List ℕ) (rows bag : Rows) → IsOrdered row_cmp m → AreLast columns (map_in m) rows
    → ((row : Row) → copies bag row ≡ occurs row_cmp row (values m)) → bag ≡ rows
values_stand m columns rows bag ordered last counted = same_bag row_total row_exact bag rows (λ row.
    counted row
    ∙ values-weigh columns row m.entries (IsDistinct-from_sorted row_cmp (keys m) ordered)
    (λ k v found. same_row-true k (project columns v) (find-passes (has_key columns k) (items rows) v (last.found k ∙ get-map_in m k ∙ found)))
    ∙ ap (λ o. copies_at o row) (sym (get-map_in m (project columns row)))
    ∙ sym (copies-kept columns (map_in m) rows last row))

-- no row occurs more often than there are rows
pub occurs-le : (row : Row) (rows : List Row) → occurs row_cmp row rows ≤ length rows
occurs-le row [] = omega arith
occurs-le row (x ∷ xs) = elim (same_row row x) as (λ b. cond b 1 0 + occurs row_cmp row xs ≤ length (x ∷ xs)) [ true ↦ omega (arith, occurs-le row xs) | false ↦ omega (arith, occurs-le row xs) ]

-- a row that is handed out occurred among those that were left
pub one_yielded : (row x k : Row) (before after : List (Row × Row)) → before ≡ (k, x) ∷ after
    → occurs row_cmp row (values_of before) ≡ one_at row_cmp row x + occurs row_cmp row (values_of after)
one_yielded row x k before after e = ap (λ es. occurs row_cmp row (values_of es)) e
