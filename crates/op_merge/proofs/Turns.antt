-- What is kept of all groups after partial rows of one of them.
use Rattle.std.proofs.Common.{◌≡◌, ◌++◌, ◌&&◌, Bool, true, false, cond, List, [], Some, None, map, drop, refl, sym, ap, subst, ◌∙◌}
use Rattle.std.specs.BTreeMap.{BTreeMap, IsOrdered, get}
use Rattle.std.proofs.lemmas.Bool.{and_parts}
use Rattle.ct_value.specs.Order.{row_cmp}
use Rattle.ct_value.specs.declared.row.Row.{Row}
use Rattle.ct_value.specs.declared.ty.Ty.TheVariants.{BigInt}
use Rattle.ct_value.specs.declared.value.Value.{Value}
use Rattle.ct_value.specs.declared.value.Value.TheVariants.{Num}
use Rattle.ct_change.specs.Changelog.{same_row}
use Rattle.ct_change.proofs.laws.Meanings.{same_row-true}
use Rattle.rel_algebra.specs.declared.agg.AggCall.TheVariants.{CountAll}
use Rattle.rel_algebra.specs.Aggregates.{sum_of}
use Rattle.agg_fns.specs.Partial.{column_of}
use Rattle.agg_fns.specs.Reading.{summed, is_blank, all_blank}
use Rattle.agg_fns.proofs.laws.Blanks.{blank_stands}
use Rattle.phase_rules.specs.LocalGrouping.{LocalGrouping, parts_of_calls}
use Rattle.phase_rules.specs.Merging.{sums_of_calls}
use Rattle.op_merge.specs.declared.kept.Kept.{Kept}
use Rattle.op_merge.specs.declared.groups.MergeBy.{MergeBy}
use Rattle.op_merge.specs.Kept.{IsKept, KeptAt, is_nothing}
use Rattle.op_merge.specs.Groups.{Amounts, AreMerged, local_of, unless_blank, with_more}
use Rattle.op_merge.proofs.Mergers.{stand_blank}

-- what is kept of no partial rows stands for any that amount to nothing
pub from_nothing : (l : LocalGrouping) (kept : Kept) (rows : List (List Value)) → IsKept l kept [] → is_nothing l rows ≡ true → IsKept l kept rows
from_nothing l kept rows is e =
    let parts = and_parts (is_blank summed (Num (sum_of (column_of 0 rows)))) (all_blank (parts_of_calls l.aggs) (sums_of_calls l.aggs (map (λ row. drop 1 row) rows))) e in
    record {
      count = blank_stands CountAll BigInt kept.rows rows is.count (ap (λ b. b && true) parts.0);
      calls_are = is.calls_are;
      stand = stand_blank l.columns kept.mergers.items (map (λ row. drop 1 row) rows) is.stand (subst (λ aggs. all_blank (parts_of_calls aggs) (sums_of_calls aggs (map (λ row. drop 1 row) rows)) ≡ true) (sym is.calls_are) parts.1);
    }

module _ (by : MergeBy) (groups : BTreeMap Row Kept) (of : Amounts) (are : AreMerged by groups of) (key : Row) where
  pub kept_there : (kept : Kept) → get row_cmp groups key ≡ Some kept → IsKept (local_of by) kept (of key)
  kept_there kept e = subst (KeptAt (local_of by) (of key)) e (are.each key)

  pub kept_anew : (kept : Kept) → get row_cmp groups key ≡ None → IsKept (local_of by) kept [] → IsKept (local_of by) kept (of key)
  kept_anew kept e is = from_nothing (local_of by) kept (of key) is (subst (KeptAt (local_of by) (of key)) e (are.each key))

-- an absent key that isn't put in stays absent
pub nothing_put : (groups : BTreeMap Row Kept) (key : Row) (kept : Kept) (b : Bool) → b ≡ true → get row_cmp groups key ≡ None → (other : Row) → get row_cmp groups other ≡ cond (same_row key other) (unless_blank b kept) (get row_cmp groups other)
nothing_put groups key kept b is e other =
    elim (same_row key other) as (λ c. same_row key other ≡ c → get row_cmp groups other ≡ cond c None (get row_cmp groups other)) [
      | true ↦ λ s. ap (get row_cmp groups) (sym (same_row-true key other s)) ∙ e
      | false ↦ λ s. refl
    ] refl
    ∙ ap (λ c. cond (same_row key other) (unless_blank c kept) (get row_cmp groups other)) (sym is)

-- what is written at a key is there, unless it is blank
pub written : (key : Row) (old new : BTreeMap Row Kept) (kept : Kept) (b : Bool) → b ≡ false
    → ((other : Row) → get row_cmp new other ≡ cond (same_row key other) (Some kept) (get row_cmp old other))
    → (other : Row) → get row_cmp new other ≡ cond (same_row key other) (unless_blank b kept) (get row_cmp old other)
written key old new kept b is writes other = writes other ∙ ap (λ c. cond (same_row key other) (unless_blank c kept) (get row_cmp old other)) (sym is)

-- what is written at a key, blank, and then let go isn't there
pub written_then_gone : (key : Row) (old mid new : BTreeMap Row Kept) (kept : Kept) (b : Bool) → b ≡ true
    → ((other : Row) → get row_cmp mid other ≡ cond (same_row key other) (Some kept) (get row_cmp old other))
    → ((other : Row) → get row_cmp new other ≡ cond (same_row key other) None (get row_cmp mid other))
    → (other : Row) → get row_cmp new other ≡ cond (same_row key other) (unless_blank b kept) (get row_cmp old other)
written_then_gone key old mid new kept b is writes gone other =
    gone other
    ∙ ap (cond (same_row key other) None) (writes other)
    ∙ elim (same_row key other) as (λ c. cond c None (cond c (Some kept) (get row_cmp old other)) ≡ cond c None (get row_cmp old other)) [ true ↦ refl | false ↦ refl ]
    ∙ ap (λ c. cond (same_row key other) (unless_blank c kept) (get row_cmp old other)) (sym is)

-- a group is written anew, the others are as they were
module _ (by : MergeBy) (of : Amounts) (key : Row) (rows : List (List Value)) (old new : BTreeMap Row Kept) (kept : Kept) where
  own : IsKept (local_of by) kept (of key ++ rows) → KeptAt (local_of by) (of key ++ rows) (unless_blank (is_nothing (local_of by) (of key ++ rows)) kept)
  own is = elim (is_nothing (local_of by) (of key ++ rows)) as (λ b. is_nothing (local_of by) (of key ++ rows) ≡ b → KeptAt (local_of by) (of key ++ rows) (unless_blank b kept)) [ true ↦ λ e. e | false ↦ λ e. is ] refl

  pub merged_after : AreMerged by old of → IsKept (local_of by) kept (of key ++ rows)
      → ((other : Row) → get row_cmp new other ≡ cond (same_row key other) (unless_blank (is_nothing (local_of by) (of key ++ rows)) kept) (get row_cmp old other))
      → IsOrdered row_cmp new → AreMerged by new (with_more of key rows)
  merged_after are is put ordered = record {
    ordered = ordered;
    each = λ other.
        elim (same_row key other) as (λ b. same_row key other ≡ b → get row_cmp new other ≡ cond b (unless_blank (is_nothing (local_of by) (of key ++ rows)) kept) (get row_cmp old other) → KeptAt (local_of by) (cond b (of other ++ rows) (of other)) (get row_cmp new other)) [
          | true ↦ λ e p.
              subst (KeptAt (local_of by) (of other ++ rows)) (sym p)
              (subst (λ k. KeptAt (local_of by) (of k ++ rows) (unless_blank (is_nothing (local_of by) (of key ++ rows)) kept)) (same_row-true key other e) (own is))
          | false ↦ λ e p. subst (KeptAt (local_of by) (of other)) (sym p) (are.each other)
        ] refl (put other);
  }

-- the same came of each group
pub merged_same : (by : MergeBy) (groups : BTreeMap Row Kept) (of after : Amounts) → ((key : Row) → of key ≡ after key) → AreMerged by groups of → AreMerged by groups after
merged_same by groups of after e are = record { ordered = are.ordered; each = λ key. subst (λ rows. KeptAt (local_of by) rows (get row_cmp groups key)) (e key) (are.each key) }
