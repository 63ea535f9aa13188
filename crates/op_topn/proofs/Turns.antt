-- What is kept of all partitions after a change of one of them.
use Rattle.std.proofs.Common.{◌≡◌, ℕ, true, false, cond, List, [], ◌∷◌, length, Option, Some, None, refl, sym, ap, subst, ◌∙◌, arith}
use Rattle.std.specs.BTreeMap.{BTreeMap, IsOrdered, get, is_at}
use Rattle.std.specs.Map.{lookup}
use Rattle.std.specs.Option.{unwrap_or}
use Rattle.std.proofs.lemmas.Bool.{eqb-true}
use Rattle.ct_value.specs.Bag.{none}
use Rattle.ct_value.proofs.laws.Bags.{copies-none, same_bag}
use Rattle.ct_value.specs.Order.{row_cmp, row_total, row_exact}
use Rattle.ct_value.specs.declared.row.Row.{Row}
use Rattle.ct_change.specs.Changelog.{Rows, same_row}
use Rattle.ct_change.specs.Emission.{replaced}
use Rattle.ct_change.proofs.laws.Meanings.{same_row-true}
use Rattle.rel_algebra.specs.declared.sort.SortCol.{SortCol}
use Rattle.op_topn.specs.Keys.{Key, key_cmp, rank_key}
use Rattle.op_topn.specs.RankedRows.{IsRanked, is_empty}
use Rattle.op_topn.specs.declared.rows.RankedRows.{RankedRows}
use Rattle.op_topn.specs.Kept.{KeptAt, unless_empty, AreKept, IsTurned}

module _ (order : List SortCol) (partitions : BTreeMap Row RankedRows) (of : Row → Rows) (all : AreKept order partitions of) (key : Row) where
  pub kept_there : (kept : RankedRows) → get row_cmp partitions key ≡ Some kept → IsRanked order kept.counts (of key)
  kept_there kept e = (subst (KeptAt order (of key)) e (all.each key)).0

  pub empty_there : get row_cmp partitions key ≡ None → of key ≡ none
  empty_there e = subst (KeptAt order (of key)) e (all.each key)

-- a map without entries keeps no rows
pub kept_nothing : (order : List SortCol) (kept : RankedRows) (rows : Rows) → is_empty kept ≡ true → IsRanked order kept.counts rows → rows ≡ none
kept_nothing order kept rows e keeps = same_bag row_total row_exact _ _ (λ row.
    sym (keeps.counted row) ∙ ap (λ es. unwrap_or (lookup (is_at (key_cmp (rank_key order row))) es) 0) (no_entries kept.counts.entries (eqb-true (length kept.counts.entries) 0 e)) ∙ sym (copies-none row_total row))
  where
    no_entries : (entries : List (Key × ℕ)) → length entries ≡ 0 → entries ≡ []
    no_entries [] q = refl
    no_entries (entry ∷ entries) q = absurd (omega arith)

-- an absent key that isn't put in stays absent
pub nothing_put : (partitions : BTreeMap Row RankedRows) (key : Row) → get row_cmp partitions key ≡ None → (other : Row) → get row_cmp partitions other ≡ cond (same_row key other) None (get row_cmp partitions other)
nothing_put partitions key e other =
    elim (same_row key other) as (λ b. same_row key other ≡ b → get row_cmp partitions other ≡ cond b None (get row_cmp partitions other)) [
      | true ↦ λ s. ap (get row_cmp partitions) (sym (same_row-true key other s)) ∙ e
      | false ↦ λ s. refl
    ] refl

-- what is written at a key is there, unless it is empty
pub written : (key : Row) (old new : BTreeMap Row RankedRows) (kept : RankedRows) → is_empty kept ≡ false
    → ((other : Row) → get row_cmp new other ≡ cond (same_row key other) (Some kept) (get row_cmp old other))
    → (other : Row) → get row_cmp new other ≡ cond (same_row key other) (unless_empty (is_empty kept) kept) (get row_cmp old other)
written key old new kept some writes other = writes other ∙ ap (λ b. cond (same_row key other) (unless_empty b kept) (get row_cmp old other)) (sym some)

-- what is written at a key, empty, and then let go isn't there
pub written_then_gone : (key : Row) (old mid new : BTreeMap Row RankedRows) (kept : RankedRows) → is_empty kept ≡ true
    → ((other : Row) → get row_cmp mid other ≡ cond (same_row key other) (Some kept) (get row_cmp old other))
    → ((other : Row) → get row_cmp new other ≡ cond (same_row key other) None (get row_cmp mid other))
    → (other : Row) → get row_cmp new other ≡ cond (same_row key other) (unless_empty (is_empty kept) kept) (get row_cmp old other)
written_then_gone key old mid new kept none writes gone other =
    gone other
    ∙ ap (cond (same_row key other) None) (writes other)
    ∙ elim (same_row key other) as (λ b. cond b None (cond b (Some kept) (get row_cmp old other)) ≡ cond b None (get row_cmp old other)) [ true ↦ refl | false ↦ refl ]
    ∙ ap (λ b. cond (same_row key other) (unless_empty b kept) (get row_cmp old other)) (sym none)

module _ (order : List SortCol) (key : Row) (of after : Row → Rows) (gone come : Option Row) (turned : IsTurned key of after gone come) (old new : BTreeMap Row RankedRows) (kept : RankedRows) where
  own : IsRanked order kept.counts (replaced (of key) gone come) → KeptAt order (after key) (unless_empty (is_empty kept) kept)
  own is =
      elim (is_empty kept) as (λ b. is_empty kept ≡ b → KeptAt order (after key) (unless_empty b kept)) [
        | true ↦ λ z. turned.own ∙ kept_nothing order kept (replaced (of key) gone come) z is
        | false ↦ λ z. (subst (IsRanked order kept.counts) (sym turned.own) is, z)
      ] refl

  pub kept_after : AreKept order old of → IsRanked order kept.counts (replaced (of key) gone come)
      → ((other : Row) → get row_cmp new other ≡ cond (same_row key other) (unless_empty (is_empty kept) kept) (get row_cmp old other))
      → IsOrdered row_cmp new → AreKept order new after
  kept_after all is put ordered = record {
    ordered = ordered;
    each = λ other.
        elim (same_row key other) as (λ b. same_row key other ≡ b → get row_cmp new other ≡ cond b (unless_empty (is_empty kept) kept) (get row_cmp old other) → KeptAt order (after other) (get row_cmp new other)) [
          | true ↦ λ e p.
              subst (KeptAt order (after other)) (sym p)
              (subst (λ k. KeptAt order (after k) (unless_empty (is_empty kept) kept)) (same_row-true key other e) (own is))
          | false ↦ λ e p.
              subst (KeptAt order (after other)) (sym p)
              (subst (λ r. KeptAt order r (get row_cmp old other)) (sym (turned.others other e)) (all.each other))
        ] refl (put other);
  }
