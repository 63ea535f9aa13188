-- What is kept of all groups after a change of one of them.
use Rattle.std.proofs.Common.{◌≡◌, ◌==◌, true, false, cond, Option, Some, None, refl, sym, ap, subst, ◌∙◌}
use Rattle.std.specs.BTreeMap.{BTreeMap, IsOrdered, get}
use Rattle.std.proofs.lemmas.Bool.{eqb-true}
use Rattle.ct_value.specs.Bag.{none}
use Rattle.ct_value.specs.Order.{row_cmp}
use Rattle.ct_value.specs.declared.row.Row.{Row}
use Rattle.ct_change.specs.Changelog.{Rows, same_row}
use Rattle.ct_change.specs.Emission.{replaced}
use Rattle.ct_change.proofs.laws.Meanings.{same_row-true, same_row-itself}
use Rattle.op_group.specs.declared.kept.Kept.{Kept}
use Rattle.op_group.specs.declared.groups.GroupBy.{GroupBy}
use Rattle.op_group.specs.Kept.{AllRetract, KeptAt, IsKept}
use Rattle.op_group.specs.Groups.{unless_empty, AreKept, IsTurned}
use Rattle.op_group.proofs.Shifts.{no_rows}

module _ (by : GroupBy) (groups : BTreeMap Row Kept) (of : Row → Rows) (all : AreKept by groups of) (key : Row) where
  pub kept_there : (kept : Kept) → get row_cmp groups key ≡ Some kept → IsKept by.tys by.aggs kept (of key) × (by.retracting ≡ true → AllRetract kept.counters.items)
  kept_there kept e = subst (KeptAt by.tys by.aggs by.retracting (of key)) e (all.each key)

  pub empty_there : get row_cmp groups key ≡ None → of key ≡ none
  empty_there e = no_rows (of key) (subst (KeptAt by.tys by.aggs by.retracting (of key)) e (all.each key))

-- nothing is at a key that was taken out
pub absent : (old mid : BTreeMap Row Kept) (key : Row) → ((other : Row) → get row_cmp mid other ≡ cond (same_row key other) None (get row_cmp old other)) → get row_cmp mid key ≡ None
absent old mid key out = out key ∙ ap (λ b. cond b None (get row_cmp old key)) (same_row-itself key)

-- an absent key that isn't put in stays absent
pub nothing_put : (groups : BTreeMap Row Kept) (key : Row) → get row_cmp groups key ≡ None → (other : Row) → get row_cmp groups other ≡ cond (same_row key other) None (get row_cmp groups other)
nothing_put groups key e other =
    elim (same_row key other) as (λ b. same_row key other ≡ b → get row_cmp groups other ≡ cond b None (get row_cmp groups other)) [
      | true ↦ λ s. ap (get row_cmp groups) (sym (same_row-true key other s)) ∙ e
      | false ↦ λ s. refl
    ] refl

-- what is written at a key is there, unless it has no rows
pub written : (key : Row) (old new : BTreeMap Row Kept) (kept : Kept) → (kept.rows == 0) ≡ false
    → ((other : Row) → get row_cmp new other ≡ cond (same_row key other) (Some kept) (get row_cmp old other))
    → (other : Row) → get row_cmp new other ≡ cond (same_row key other) (unless_empty (kept.rows == 0) kept) (get row_cmp old other)
written key old new kept some writes other = writes other ∙ ap (λ b. cond (same_row key other) (unless_empty b kept) (get row_cmp old other)) (sym some)

-- what is written at a key, without rows, and then let go isn't there
pub written_then_gone : (key : Row) (old mid new : BTreeMap Row Kept) (kept : Kept) → (kept.rows == 0) ≡ true
    → ((other : Row) → get row_cmp mid other ≡ cond (same_row key other) (Some kept) (get row_cmp old other))
    → ((other : Row) → get row_cmp new other ≡ cond (same_row key other) None (get row_cmp mid other))
    → (other : Row) → get row_cmp new other ≡ cond (same_row key other) (unless_empty (kept.rows == 0) kept) (get row_cmp old other)
written_then_gone key old mid new kept none writes gone other =
    gone other
    ∙ ap (cond (same_row key other) None) (writes other)
    ∙ elim (same_row key other) as (λ b. cond b None (cond b (Some kept) (get row_cmp old other)) ≡ cond b None (get row_cmp old other)) [ true ↦ refl | false ↦ refl ]
    ∙ ap (λ b. cond (same_row key other) (unless_empty b kept) (get row_cmp old other)) (sym none)

-- what is taken out at a key and put back
pub put_anew : (key : Row) (old mid new : BTreeMap Row Kept) (kept : Kept)
    → ((other : Row) → get row_cmp mid other ≡ cond (same_row key other) None (get row_cmp old other))
    → ((other : Row) → get row_cmp new other ≡ cond (same_row key other) (unless_empty (kept.rows == 0) kept) (get row_cmp mid other))
    → (other : Row) → get row_cmp new other ≡ cond (same_row key other) (unless_empty (kept.rows == 0) kept) (get row_cmp old other)
put_anew key old mid new kept out put other =
    put other
    ∙ ap (cond (same_row key other) (unless_empty (kept.rows == 0) kept)) (out other)
    ∙ elim (same_row key other) as (λ b. cond b (unless_empty (kept.rows == 0) kept) (cond b None (get row_cmp old other)) ≡ cond b (unless_empty (kept.rows == 0) kept) (get row_cmp old other)) [ true ↦ refl | false ↦ refl ]

-- a group is written anew, the others have the rows that they had
module _ (by : GroupBy) (key : Row) (of after : Row → Rows) (others : (other : Row) → same_row key other ≡ false → after other ≡ of other) (old new : BTreeMap Row Kept) (kept : Kept) where
  own : IsKept by.tys by.aggs kept (after key) → (by.retracting ≡ true → AllRetract kept.counters.items) → KeptAt by.tys by.aggs by.retracting (after key) (unless_empty (kept.rows == 0) kept)
  own is retract =
      elim (kept.rows == 0) as (λ b. (kept.rows == 0) ≡ b → KeptAt by.tys by.aggs by.retracting (after key) (unless_empty b kept)) [
        | true ↦ λ z. sym is.count ∙ eqb-true kept.rows 0 z
        | false ↦ λ z. (is, retract)
      ] refl

  pub kept_anew : AreKept by old of → IsKept by.tys by.aggs kept (after key) → (by.retracting ≡ true → AllRetract kept.counters.items)
      → ((other : Row) → get row_cmp new other ≡ cond (same_row key other) (unless_empty (kept.rows == 0) kept) (get row_cmp old other))
      → IsOrdered row_cmp new → AreKept by new after
  kept_anew all is retract put ordered = record {
    ordered = ordered;
    each = λ other.
        elim (same_row key other) as (λ b. same_row key other ≡ b → get row_cmp new other ≡ cond b (unless_empty (kept.rows == 0) kept) (get row_cmp old other) → KeptAt by.tys by.aggs by.retracting (after other) (get row_cmp new other)) [
          | true ↦ λ e p.
              subst (KeptAt by.tys by.aggs by.retracting (after other)) (sym p)
              (subst (λ k. KeptAt by.tys by.aggs by.retracting (after k) (unless_empty (kept.rows == 0) kept)) (same_row-true key other e) (own is retract))
          | false ↦ λ e p.
              subst (KeptAt by.tys by.aggs by.retracting (after other)) (sym p)
              (subst (λ r. KeptAt by.tys by.aggs by.retracting r (get row_cmp old other)) (sym (others other e)) (all.each other))
        ] refl (put other);
  }

pub kept_after : (by : GroupBy) (key : Row) (of after : Row → Rows) (goes comes : Option Row) → IsTurned key of after goes comes → (old new : BTreeMap Row Kept) (kept : Kept)
    → AreKept by old of → IsKept by.tys by.aggs kept (replaced (of key) goes comes) → (by.retracting ≡ true → AllRetract kept.counters.items)
    → ((other : Row) → get row_cmp new other ≡ cond (same_row key other) (unless_empty (kept.rows == 0) kept) (get row_cmp old other))
    → IsOrdered row_cmp new → AreKept by new after
kept_after by key of after goes comes turned old new kept all is retract put ordered =
    kept_anew by key of after turned.others old new kept all (subst (IsKept by.tys by.aggs kept) (sym turned.own) is) retract put ordered
