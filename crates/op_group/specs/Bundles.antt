-- The changes of a bundle, by the groups of their rows.
use Rattle.std.specs.Prelude.{◌≡◌, ◌≤◌, ◌<◌, ◌+◌, ◌^◌, ℕ, List, [], ◌∷◌, length, Ok}
use Rattle.std.specs.List.{AllByRecursion}
use Rattle.std.specs.BTreeMap.{BTreeMap}
use Rattle.ct_value.specs.declared.row.Row.{Row}
use Rattle.ct_change.specs.declared.change.Change.{Change}
use Rattle.ct_change.specs.Changelog.{Mode, Rows, fold_from, IsValidFrom}
use Rattle.mini_batch.specs.Held.{Entries, held_in}
use Rattle.op_rules.specs.Rules.{Answer, appended}
use Rattle.emission_rules.specs.Grouping.{Grouping, group_emits}
use Rattle.op_group.specs.declared.kept.Kept.{Kept}
use Rattle.op_group.specs.declared.groups.GroupBy.{GroupBy}
use Rattle.op_group.specs.Groups.{grouping, IsGrouped, IsSet}
use Rattle.op_group.specs.Folding.{AreOf, HaveKeys}

-- the rows after the changes of these groups, one group after the other
abbrev pub folded : Mode → Rows → Entries → Rows
folded input rows [] = rows
folded input rows (entry ∷ entries) = folded input (fold_from input rows entry.1) entries

-- what is emitted for these groups, each after those before it
abbrev pub told_along : Grouping → Rows → Entries → Answer
told_along g rows [] = Ok []
told_along g rows (entry ∷ entries) = appended (group_emits g rows entry.1 entry.0) (told_along g (fold_from g.input rows entry.1) entries)

-- each group's changes may come after those of the groups before it
abbrev pub MayFollow : Grouping → Rows → Entries → Type 0
MayFollow g rows [] = Unit {0}
MayFollow g rows (entry ∷ entries) = (IsValidFrom g.input rows entry.1 × AreOf g entry.0 entry.1 × HaveKeys g entry.1) × MayFollow g (fold_from g.input rows entry.1) entries

-- what is kept stands for the groups of these rows, and they may take these changes, one group after the other
pub record MayFoldAll (by : GroupBy) (g : Grouping) (rows : Rows) (groups : BTreeMap Row Kept) (held : ℕ) (entries : Entries) : Type 0 where
  pub set : IsSet by g
  pub grouped : IsGrouped by g rows groups held
  pub follow : MayFollow g rows entries
  pub few : held + held_in entries < 2 ^ 32

-- what is kept may take them for some rows, of which this holds
abbrev pub MayFoldAllSome : GroupBy → Mode → Mode → (Rows → Type 0) → BTreeMap Row Kept → Entries → Type 0
MayFoldAllSome by input output stands groups entries = (rows : Rows) × (held : ℕ) × stands rows × MayFoldAll by (grouping by input output) rows groups held entries

-- so it is of all rows for which it may
abbrev pub ForAllFolded : GroupBy → Mode → Mode → (Rows → Type 0) → BTreeMap Row Kept → Entries → (Grouping → Rows → ℕ → Type 0) → Type 0
ForAllFolded by input output stands groups entries P = (rows : Rows) (held : ℕ) → stands rows → MayFoldAll by (grouping by input output) rows groups held entries → P (grouping by input output) rows held

-- what is kept stands for the groups of the rows after these changes
abbrev pub HoldsFolded : GroupBy → Grouping → Rows → BTreeMap Row Kept → ℕ → Entries → Type 0
HoldsFolded by g rows groups held entries = IsGrouped by g (folded g.input rows entries) groups (held + held_in entries)

-- what is kept stands for the groups of these rows, and each of these changes may come after those before it
pub record MayTakeAll (by : GroupBy) (g : Grouping) (rows : Rows) (groups : BTreeMap Row Kept) (held : ℕ) (changes : List Change) : Type 0 where
  pub set : IsSet by g
  pub grouped : IsGrouped by g rows groups held
  pub valid : IsValidFrom g.input rows changes
  pub long : AllByRecursion (λ change. g.keys ≤ length change.row) changes
  pub keyed : HaveKeys g changes
  pub few : held + length changes < 2 ^ 32

-- so it is for some rows, of which this holds
abbrev pub MayTakeAllSome : GroupBy → Mode → Mode → (Rows → Type 0) → BTreeMap Row Kept → List Change → Type 0
MayTakeAllSome by input output stands groups changes = (rows : Rows) × (held : ℕ) × stands rows × MayTakeAll by (grouping by input output) rows groups held changes

-- so it is of all rows for which it may
abbrev pub ForAllTaken : GroupBy → Mode → Mode → (Rows → Type 0) → BTreeMap Row Kept → List Change → (Grouping → Rows → ℕ → Type 0) → Type 0
ForAllTaken by input output stands groups changes P = (rows : Rows) (held : ℕ) → stands rows → MayTakeAll by (grouping by input output) rows groups held changes → P (grouping by input output) rows held

-- some groups took their changes and these are left: what was told, and what will be of those left, is all; and so with the rows
pub record AreOnTheWay (by : GroupBy) (g : Grouping) (rows : Rows) (held : ℕ) (entries : Entries) (stands : Rows → Type 0) (groups : BTreeMap Row Kept) (left : Entries) (sent : List Change) : Type 0 where
  pub now : Rows
  pub taken : ℕ
  pub stand : stands now
  pub may : MayFoldAll by g now groups taken left
  pub told : told_along g rows entries ≡ appended (Ok sent) (told_along g now left)
  pub folds : folded g.input rows entries ≡ folded g.input now left
  pub count : held + held_in entries ≡ taken + held_in left
