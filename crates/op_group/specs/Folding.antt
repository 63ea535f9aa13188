-- Changes of one group that are taken in turn, and told as one.
use Rattle.std.specs.Prelude.{◌≡◌, ◌<◌, ◌≤◌, ◌+◌, ◌^◌, ◌&&◌, ℕ, Bool, true, List, length, take}
use Rattle.std.specs.List.{AllByRecursion}
use Rattle.std.specs.BTreeMap.{BTreeMap}
use Rattle.ct_value.specs.declared.row.Row.{Row}
use Rattle.ct_change.specs.declared.kind.Kind.TheVariants.{D}
use Rattle.ct_change.specs.declared.change.Change.{Change}
use Rattle.ct_change.specs.Changelog.{Mode, Rows, admits, fold_from, HasKey, IsValidFrom}
use Rattle.op_rules.specs.History.{Arrival, at_port}
use Rattle.op_rules.specs.Rules.{Answer, Rule, ArriveAfter}
use Rattle.rel_algebra.specs.GroupedCounts.{AreWide}
use Rattle.emission_rules.specs.Grouping.{Grouping, KeepsGroups, members, row_count, sums_fit, fits_along, is_counted, group_row}
use Rattle.op_group.specs.declared.kept.Kept.{Kept}
use Rattle.op_group.specs.declared.groups.GroupBy.{GroupBy}
use Rattle.op_group.specs.declared.groups.Results.{Results}
use Rattle.op_group.specs.Kept.{AllRetract, IsKept}
use Rattle.op_group.specs.Groups.{grouping, IsGrouped, IsSet}

-- each is of the group with this key, and its row holds the group's columns
abbrev pub AreOf : Grouping → Row → List Change → Type 0
AreOf g key changes = AllByRecursion (λ change. (g.keys ≤ length change.row) × (take g.keys change.row ≡ key)) changes

-- each row has the columns of the input's key
abbrev pub HaveKeys : Grouping → List Change → Type 0
HaveKeys g changes = AllByRecursion (λ change. HasKey g.input change.row) changes

-- ---- one group

-- what is kept of the group with this key stands for its rows among these, and it may take these changes in turn
pub record MayShiftAlong (g : Grouping) (rows : Rows) (kept : Kept) (key : Row) (changes : List Change) : Type 0 where
  pub keeps : KeepsGroups g.keys g.input
  pub is : IsKept g.columns g.aggs kept (members g key rows)
  pub fits : sums_fit g (members g key rows) ≡ true
  pub retracts : admits g.input D ≡ true → AllRetract kept.counters.items
  pub wide : AreWide g.keys rows
  pub valid : IsValidFrom g.input rows changes
  pub of : AreOf g key changes
  pub keyed : HaveKeys g changes
  pub few : row_count rows + length changes < 2 ^ 32

-- it took them, and no sum left its limit on the way
pub record HasShiftedAlong (g : Grouping) (rows : Rows) (kept : Kept) (key : Row) (changes : List Change) : Type 0 where
  pub is : IsKept g.columns g.aggs kept (members g key (fold_from g.input rows changes))
  pub fits : fits_along g key rows changes ≡ true
  pub retracts : admits g.input D ≡ true → AllRetract kept.counters.items

-- what is kept may do so for some rows, of which this holds
abbrev pub MayShift : Mode → (Rows → Type 0) → Kept → Row → List Change → Type 0
MayShift input stands kept key changes = (by : GroupBy) × (output : Mode) × (rows : Rows) × stands rows × MayShiftAlong (grouping by input output) rows kept key changes

-- so it is of all rows for which it may
abbrev pub ForShifted : Mode → (Rows → Type 0) → Kept → Row → List Change → (Grouping → Rows → Type 0) → Type 0
ForShifted input stands kept key changes P = (by : GroupBy) (output : Mode) (rows : Rows) → stands rows → MayShiftAlong (grouping by input output) rows kept key changes → P (grouping by input output) rows

-- ---- all groups

-- what is kept stands for the groups of these rows, and the one with this key may take these changes in turn
pub record MayFold (by : GroupBy) (g : Grouping) (rows : Rows) (groups : BTreeMap Row Kept) (held : ℕ) (key : Row) (changes : List Change) : Type 0 where
  pub set : IsSet by g
  pub grouped : IsGrouped by g rows groups held
  pub valid : IsValidFrom g.input rows changes
  pub of : AreOf g key changes
  pub keyed : HaveKeys g changes
  pub few : held + length changes < 2 ^ 32

-- whether no sum of a group leaves its limit along these changes, and no call is out of range behind them
abbrev pub stays_in_range : Grouping → Rows → Row → List Change → Bool
stays_in_range g rows key changes = fits_along g key rows changes && is_counted g (fold_from g.input rows changes) key

-- the rows of the group with this key before and after these changes, where nothing is out of range
pub record IsFolded (g : Grouping) (rows : Rows) (key : Row) (changes : List Change) (results : Results) : Type 0 where
  pub old : results.old ≡ group_row g rows key
  pub fresh : results.fresh ≡ group_row g (fold_from g.input rows changes) key
  pub fine : stays_in_range g rows key changes ≡ true

-- what is kept may take them for some rows, of which this holds
abbrev pub MayFoldSome : GroupBy → Mode → Mode → (Rows → Type 0) → BTreeMap Row Kept → Row → List Change → Type 0
MayFoldSome by input output stands groups key changes = (rows : Rows) × (held : ℕ) × stands rows × MayFold by (grouping by input output) rows groups held key changes

-- so it is of all rows for which it may
abbrev pub ForFolded : GroupBy → Mode → Mode → (Rows → Type 0) → BTreeMap Row Kept → Row → List Change → (Grouping → Rows → ℕ → Type 0) → Type 0
ForFolded by input output stands groups key changes P = (rows : Rows) (held : ℕ) → stands rows → MayFold by (grouping by input output) rows groups held key changes → P (grouping by input output) rows held

-- ---- as an operator's

-- these arrivals may come to a group's rule after those before them, and their changes are these, all of the group with this key
pub record IsPieceOf (keys : ℕ) (rule : Rule) (before piece : List Arrival) (key : Row) (changes : List Change) : Type 0 where
  pub is : at_port 0 piece ≡ changes
  pub arrive : ArriveAfter rule before piece
  pub of : AllByRecursion (λ change. take keys change.row ≡ key) changes
  pub few : length before + length piece < 2 ^ 32

-- so it is, whatever what is kept stands for, of each such piece
abbrev pub ForPieces : ℕ → Rule → (List Arrival → Type 0) → Row → List Change → (List Arrival → List Arrival → Type 0) → Type 0
ForPieces keys rule stands key changes P = (before piece : List Arrival) → stands before → IsPieceOf keys rule before piece key changes → P before piece

-- this is the rule's answer for each such piece
abbrev pub Answers : ℕ → Rule → (List Arrival → Type 0) → Row → List Change → Answer → Type 0
Answers keys rule stands key changes answer = ForPieces keys rule stands key changes (λ before piece. rule.emits before piece ≡ answer)
