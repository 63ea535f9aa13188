-- What is kept of all groups, and what a change of one of them makes of it.
use Rattle.std.specs.Prelude.{◌≡◌, ◌≤◌, ◌<◌, ◌+◌, ◌^◌, ℕ, Bool, true, false, List, [], ◌∷◌, take, Option, Some, None, Ok}
use Rattle.std.specs.BTreeMap.{BTreeMap, IsOrdered, get}
use Rattle.ct_value.specs.Order.{row_cmp}
use Rattle.ct_value.specs.declared.row.Row.{Row}
use Rattle.ct_change.specs.declared.kind.Kind.TheVariants.{D}
use Rattle.ct_change.specs.declared.change.Change.{Change}
use Rattle.ct_change.specs.Changelog.{Mode, Rows, same_row, admits, apply, MayCome, HasKey}
use Rattle.ct_change.specs.Emission.{replaced}
use Rattle.op_rules.specs.Rules.{Answer, appended}
use Rattle.op_rules.specs.Values.{types_fit}
use Rattle.rel_algebra.specs.GroupedCounts.{AreWide}
use Rattle.emission_rules.specs.Grouping.{Grouping, group_emits, members, row_count, sums_fit, is_counted, IsSound}
use Rattle.op_group.specs.declared.kept.Kept.{Kept}
use Rattle.op_group.specs.declared.groups.GroupBy.{GroupBy}
use Rattle.op_group.specs.declared.groups.Results.{Results}
use Rattle.op_group.specs.Kept.{HasRow, KeptAt, all_fit, is_in_range, row_in}

-- a group that has no rows isn't kept
abbrev pub unless_empty : Bool → Kept → Option Kept
unless_empty true kept = None
unless_empty false kept = Some kept

-- what is kept of each group, by its key, stands for its rows
pub record AreKept (by : GroupBy) (groups : BTreeMap Row Kept) (of : Row → Rows) : Type 0 where
  pub ordered : IsOrdered row_cmp groups
  pub each : (key : Row) → KeptAt by.tys by.aggs by.retracting (of key) (get row_cmp groups key)

-- the rows of each group after a change of the one with this key
pub record IsTurned (key : Row) (of after : Row → Rows) (gone come : Option Row) : Type 0 where
  pub own : after key ≡ replaced (of key) gone come
  pub others : (other : Row) → same_row key other ≡ false → after other ≡ of other

-- whether the sums and the calls of a group with these rows are in range
abbrev pub in_range : GroupBy → Rows → Bool
in_range by rows = is_in_range by.tys by.aggs rows

-- the rows of a group whose members were these, and are those, where nothing is out of range
pub record IsTold (by : GroupBy) (key : Row) (before after : Rows) (results : Results) : Type 0 where
  pub old : results.old ≡ row_in by.keys by.tys by.aggs key before
  pub fresh : results.fresh ≡ row_in by.keys by.tys by.aggs key after
  pub fine : all_fit by.tys by.aggs before ≡ true → in_range by after ≡ true

-- what is kept of all groups stands for some rows, of which one of the group with this key may go, and there is room for another
abbrev pub MayTurn : GroupBy → BTreeMap Row Kept → Row → Option Row → Type 0
MayTurn by groups key gone = (of : Row → Rows) × AreKept by groups of × HasRow (of key) gone × (row_count (of key) + 1 < 2 ^ 63)

-- so it is, whatever groups what is kept stands for, of the rows of this one, and of these after one went and another came
abbrev pub ForTurned : GroupBy → BTreeMap Row Kept → Row → Option Row → Option Row → (Rows → Rows → Type 0) → Type 0
ForTurned by groups key gone come P = (of : Row → Rows) → AreKept by groups of → HasRow (of key) gone → P (of key) (replaced (of key) gone come)

-- ---- as a rule's

-- the grouping by these keys and calls, from a mode to a mode
abbrev pub grouping : GroupBy → Mode → Mode → Grouping
grouping by input output = record { keys = by.keys; aggs = by.aggs; columns = by.tys; input = input; output = output }

-- what is kept stands for the groups of these rows, at most so many, of which no sum and no call is out of range
pub record IsGrouped (by : GroupBy) (g : Grouping) (rows : Rows) (groups : BTreeMap Row Kept) (held : ℕ) : Type 0 where
  pub kept : AreKept by groups (λ key. members g key rows)
  pub fit : (key : Row) → sums_fit g (members g key rows) ≡ true
  pub counted : (key : Row) → is_counted g rows key ≡ true
  pub wide : AreWide g.keys rows
  pub few : row_count rows ≤ held

-- a grouping that is sound, and rows can be removed wherever they may be
abbrev pub IsSet : GroupBy → Grouping → Type 0
IsSet by g = IsSound g × (by.retracting ≡ admits g.input D)

-- so it is a change later
abbrev pub IsGroupedAfter : GroupBy → Grouping → Rows → BTreeMap Row Kept → ℕ → Change → Type 0
IsGroupedAfter by g rows groups held change = IsGrouped by g (apply g.input rows change) groups (held + 1)

-- what is emitted for one change
abbrev pub told_for : Grouping → Rows → Change → Answer
told_for g rows change = group_emits g rows (change ∷ []) (take g.keys change.row)

-- behind these changes it makes those
abbrev pub TellsOnto : Grouping → Rows → Change → List Change → List Change → Type 0
TellsOnto g rows change old new = appended (Ok old) (told_for g rows change) ≡ Ok new

-- a change may be taken: it may come, its row has values of the columns, and there is room for it
pub record MayTake (by : GroupBy) (g : Grouping) (rows : Rows) (groups : BTreeMap Row Kept) (held : ℕ) (change : Change) : Type 0 where
  pub set : IsSet by g
  pub grouped : IsGrouped by g rows groups held
  pub may : MayCome g.input rows change
  pub fits : types_fit g.columns change.row ≡ true
  pub key : HasKey g.input change.row
  pub few : held + 1 < 2 ^ 32

-- so it is of all rows for which what is kept stands, and to which a change may come
abbrev pub ForChange : GroupBy → Mode → Mode → (Rows → Type 0) → BTreeMap Row Kept → Change → (Grouping → Rows → ℕ → Type 0) → Type 0
ForChange by input output stands groups change P = (rows : Rows) (held : ℕ) → stands rows → MayTake by (grouping by input output) rows groups held change → P (grouping by input output) rows held
