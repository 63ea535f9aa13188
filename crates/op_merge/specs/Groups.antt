-- What is kept of all groups, and what partial rows of one of them make of it.
use Rattle.std.specs.Prelude.{◌≡◌, ◌&&◌, ◌++◌, ℕ, Bool, true, false, cond, List, [], ◌∷◌, drop, map, take, Option, Some, None}
use Rattle.std.specs.List.{AllByRecursion}
use Rattle.std.specs.BTreeMap.{BTreeMap, IsOrdered, get}
use Rattle.ct_value.specs.Order.{row_cmp}
use Rattle.ct_value.specs.declared.row.Row.{Row}
use Rattle.ct_value.specs.declared.value.Value.{Value}
use Rattle.ct_change.specs.declared.change.Change.{Change}
use Rattle.ct_change.specs.Changelog.{Mode, append, retract, upsert, same_row}
use Rattle.agg_fns.specs.Partial.{has_partial}
use Rattle.op_rules.specs.Rules.{Answer}
use Rattle.emission_rules.specs.Grouping.{TellsGroups}
use Rattle.phase_rules.specs.LocalGrouping.{LocalGrouping}
use Rattle.phase_rules.specs.Merging.{Merging, in_one_phase, merge_answer, merged, row_from, within_after}
use Rattle.op_merge.specs.declared.kept.Kept.{Kept}
use Rattle.op_merge.specs.declared.groups.MergeBy.{MergeBy}
use Rattle.op_merge.specs.declared.groups.Results.{Results}
use Rattle.op_merge.specs.Kept.{KeptAt, has_results}

-- what partial rows of each group have behind its key
abbrev pub Amounts : Type 0
Amounts = Row → List (List Value)

-- the local grouping whose partial rows come; how its own rows come doesn't matter here
abbrev pub local_of : MergeBy → LocalGrouping
local_of by = record { keys = by.keys; aggs = by.aggs; columns = by.tys; input = append }

-- the merging of its partial rows to a changelog in a mode
abbrev pub merging : MergeBy → Mode → Merging
merging by output = record { local = local_of by; output = output }

-- what these partial rows have behind their keys
abbrev pub amounts_of : ℕ → List Change → List (List Value)
amounts_of keys changes = map (λ change. drop keys change.row) changes

-- what is emitted for a partial row, behind what came of each group
abbrev pub merge_told : MergeBy → Mode → Amounts → Change → Answer
merge_told by output of change = merge_answer (merging by output) (take by.keys change.row) (of (take by.keys change.row)) (amounts_of by.keys (change ∷ []))

-- what is kept of each group, by its key, stands for what came of it
pub record AreMerged (by : MergeBy) (groups : BTreeMap Row Kept) (of : Amounts) : Type 0 where
  pub ordered : IsOrdered row_cmp groups
  pub each : (key : Row) → KeptAt (local_of by) (of key) (get row_cmp groups key)

-- with these behind what came of the group with this key
abbrev pub with_more : Amounts → Row → List (List Value) → Amounts
with_more of key rows other = cond (same_row key other) (of other ++ rows) (of other)

-- a group whose partial rows amount to nothing isn't kept
abbrev pub unless_blank : Bool → Kept → Option Kept
unless_blank true kept = None
unless_blank false kept = Some kept

-- the rows of a group with this key before and after partial rows, where nothing is out of range
pub record IsTold (l : LocalGrouping) (key : Row) (earlier rows : List (List Value)) (results : Results) : Type 0 where
  pub old : results.old ≡ row_from l key (merged l.aggs earlier)
  pub fresh : results.fresh ≡ row_from l key (merged l.aggs (earlier ++ rows))
  pub fine : (within_after l earlier rows && has_results l (earlier ++ rows)) ≡ true

-- the mode can tell rows that change and go, and its key names the group
abbrev pub TellsMerged : Merging → Mode → Type 0
TellsMerged m append = ⊥
TellsMerged m retract = Unit {0}
TellsMerged m (upsert key) = TellsGroups (in_one_phase m) (upsert key)

-- partial rows can be merged: each call has partials, and what becomes of groups can be told
pub record CanMerge (m : Merging) : Type 0 where
  pub have_partials : AllByRecursion (λ agg. has_partial agg.call ≡ true) m.local.aggs
  pub tells : TellsMerged m m.output
