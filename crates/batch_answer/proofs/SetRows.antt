-- The copies that a set operation leaves, entry by entry.
use Rattle.std.proofs.Common.{◌≡◌, ℕ, Bool, true, false, cond, List, [], ◌∷◌, map, Some, refl, sym, ap, subst, ◌∙◌}
use Rattle.std.specs.Cmp.{Equal-is}
use Rattle.std.specs.Map.{lookup}
use Rattle.std.specs.Option.{unwrap_or}
use Rattle.std.specs.BTreeMap.{BTreeMap, IsOrdered, is_at, keys}
use Rattle.std.specs.List.{IsDistinct}
use Rattle.std.specs.Ordering.{eq_by_cmp}
use Rattle.std.proofs.lemmas.Map.Keys.{IsDistinct-from_sorted}
use Rattle.ct_value.specs.Bag.{none, bag_of_counts, copies}
use Rattle.ct_value.proofs.laws.Bags.{copies-bag_of_counts, same_bag}
use Rattle.ct_value.specs.Order.{row_cmp, row_total, row_exact}
use Rattle.ct_value.specs.declared.row.Row.{Row}
use Rattle.ct_change.specs.Changelog.{Rows}
use Rattle.rel_algebra.specs.Sets.{set_copies, set_form, set_rows}
use Rattle.rel_algebra.specs.Sums.{together}
use Rattle.rel_algebra.proofs.laws.Bags.{together-none}
use Rattle.rel_algebra.proofs.laws.Sets.{copies-set_form, none_left}

module _ (except all : Bool) (right : Rows) where
  abbrev pub kept_of : Row → ℕ → ℕ
  kept_of row n = set_copies (set_form except all) n (copies right row)

  abbrev pub kept_counts : List (Row × ℕ) → List (Row × ℕ)
  kept_counts entries = map (λ entry. (entry.0, kept_of entry.0 entry.1)) entries

  same_keys : (entries : List (Row × ℕ)) → map (λ entry. entry.0) (kept_counts entries) ≡ map (λ entry. entry.0) entries
  same_keys [] = refl
  same_keys (entry ∷ entries) = ap (λ (rows : List Row). entry.0 ∷ rows) (same_keys entries)

  kept_at : (entries : List (Row × ℕ)) (row : Row) → unwrap_or (lookup (is_at (row_cmp row)) (kept_counts entries)) 0 ≡ kept_of row (unwrap_or (lookup (is_at (row_cmp row)) entries) 0)
  kept_at [] row = sym (none_left except all (copies right row))
  kept_at (entry ∷ entries) row =
      elim (is_at (row_cmp row) entry.0) as (λ b. is_at (row_cmp row) entry.0 ≡ b
      → unwrap_or (cond b (Some (kept_of entry.0 entry.1)) (lookup (is_at (row_cmp row)) (kept_counts entries))) 0 ≡ kept_of row (unwrap_or (cond b (Some entry.1) (lookup (is_at (row_cmp row)) entries)) 0)) [
        | true ↦ λ e. let same : row ≡ entry.0 = row_exact row entry.0 ((Equal-is (row_cmp row entry.0)).0 e) in ap (λ (r : Row). kept_of r entry.1) (sym same)
        | false ↦ λ e. kept_at entries row
      ] refl

  kept_bag : (counts : BTreeMap Row ℕ) → IsOrdered row_cmp counts → bag_of_counts {R = row_cmp} (kept_counts counts.entries) ≡ set_rows (set_form except all) (bag_of_counts counts.entries) right
  kept_bag counts ordered = same_bag row_total row_exact _ _ (λ row.
      let distinct = IsDistinct-from_sorted row_cmp (keys counts) ordered in
      copies-bag_of_counts row_total (kept_counts counts.entries) row (subst (λ (ks : List Row). IsDistinct (eq_by_cmp row_cmp) ks) (sym (same_keys counts.entries)) distinct)
      ∙ kept_at counts.entries row
      ∙ ap (kept_of row) (sym (copies-bag_of_counts row_total counts.entries row distinct))
      ∙ sym (copies-set_form except all (bag_of_counts counts.entries) right row))

  pub kept-start : (left sum : Rows) (counts : BTreeMap Row ℕ) (entries : List (Row × ℕ)) → sum ≡ none → IsOrdered row_cmp counts → entries ≡ counts.entries → bag_of_counts counts.entries ≡ left
      → together sum (bag_of_counts (kept_counts entries)) ≡ set_rows (set_form except all) left right
  kept-start left sum counts entries nothing ordered same whole =
      (λ i. together (nothing i) (bag_of_counts (kept_counts (same i)))) ∙ together-none row_total row_exact (bag_of_counts (kept_counts counts.entries)) ∙ kept_bag counts ordered
      ∙ ap (λ (r : Rows). set_rows (set_form except all) r right) whole
