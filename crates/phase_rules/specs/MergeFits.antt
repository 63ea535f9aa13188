-- A merging group between its edges, as it runs in several subtasks, and what it needs of the edges.
use Rattle.std.specs.Prelude.{◌≡◌, ℕ, pos, ◌<ℤ◌, true, false}
use Rattle.ct_value.specs.Order.{number_of}
use Rattle.ct_value.specs.declared.row.Row.{Row}
use Rattle.ct_field.specs.Typed.{cell}
use Rattle.ct_change.specs.declared.kind.Kind.{Kind}
use Rattle.ct_change.specs.declared.kind.Kind.TheVariants.{I}
use Rattle.ct_change.specs.declared.change.Change.{Change}
use Rattle.ct_change.specs.Changelog.{has}
use Rattle.ct_change.specs.Kinds.{has_more_than_inserts}
use Rattle.op_rules.specs.Edges.{partials, hash, Edge}
use Rattle.op_rules.specs.Ports.{task_of, TakesAll}
use Rattle.op_rules.specs.Tasks.{Task, Facts}
use Rattle.column_sets.specs.Places.{first_columns}
use Rattle.emission_rules.specs.GroupFits.{batch, part, GroupFits}
use Rattle.phase_rules.specs.LocalGrouping.{SumsUp, partials_of}
use Rattle.phase_rules.specs.Merging.{Merging, in_one_phase, is_partial_row, merge_rule}

-- it answers as the group that both phases are together
abbrev pub merge_task : ℕ → Merging → Edge → Edge → Task
merge_task many m from to = task_of (merge_rule m) many (λ port. from) to (part (in_one_phase m)) (batch (in_one_phase m))

-- a merging group takes a hash edge of partial rows, where in one phase the group would take the edge `raw`
pub record MergeFits (many : ℕ) (m : Merging) (raw from to : Edge) : Type 0 where
  pub sums_up : SumsUp m.local
  pub group : GroupFits many (in_one_phase m) raw to
  -- what comes
  pub reads : from.meaning ≡ partials (partials_of m.local)
  pub hashed : from.exchange ≡ hash (first_columns m.local.keys)
  pub routes : (key : Row) → from.route key ≡ raw.route key
  pub comes : (kind : Kind) → has from.kinds kind ≡ true → kind ≡ I
  pub fits : (change : Change) → from.fits change ≡ true → is_partial_row m.local change.row ≡ true
  -- where rows only come in one phase, each partial row says that some have come
  pub grows : has_more_than_inserts raw.kinds ≡ false → (change : Change) → from.fits change ≡ true → pos 0 <ℤ number_of (cell m.local.keys change.row)
  pub holds : (row : Row) → from.holds row ≡ true → raw.holds row ≡ true

-- a merging group meets the facts of nodes, in however many subtasks it runs
abbrev pub MergingGroupsStand : Type 0
MergingGroupsStand = (many : ℕ) (m : Merging) (raw from to : Edge) → MergeFits many m raw from to → Facts (merge_task many m from to)

-- and takes what its edge carries
abbrev pub MergingGroupsTake : Type 0
MergingGroupsTake = (many : ℕ) (m : Merging) (raw from to : Edge) → MergeFits many m raw from to → TakesAll (merge_rule m) (merge_task many m from to)
