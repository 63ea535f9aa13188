-- Changelogs: the bag of rows that a list of changes leaves, by the mode in which it is written, and which lists are valid.
use Rattle.std.specs.Prelude.{◌≡◌, ℕ, ◌+◌, ◌<◌, ◌==◌, Bool, true, false, cond, List, [], ◌∷◌, length, Option, Some, None}
use Rattle.std.specs.List.{find, AllByRecursion}
use Rattle.std.specs.Ordering.{eq_by_cmp}
use Rattle.ct_value.specs.Bag.{Bag, items, copies, none, add, remove, weigh, one_at}
use Rattle.ct_value.specs.Order.{row_cmp}
use Rattle.ct_value.specs.Rows.{project}
use Rattle.ct_value.specs.declared.row.Row.{Row}
use Rattle.ct_change.specs.declared.kind.Kind.{Kind}
use Rattle.ct_change.specs.declared.kind.Kind.TheVariants.{I, UB, UA, D}
use Rattle.ct_change.specs.declared.kind.KindSet.{KindSet}
use Rattle.ct_change.specs.declared.kind.Declared.{Declared}
use Rattle.ct_change.specs.declared.kind.Declared.TheVariants.{Append, Retract, Upsert}
use Rattle.ct_change.specs.declared.change.Change.{Change}

-- a bag of rows
abbrev pub Rows : Type 0
Rows = Bag row_cmp

-- whether no row stands
abbrev pub is_empty : Rows → Bool
is_empty rows = length (items rows) == 0

-- whether two rows are one
abbrev pub same_row : Row → Row → Bool
same_row = eq_by_cmp row_cmp

-- the mode in which a changelog is written; an upsert changelog has a key, by columns
pub data Mode : Type 0 where
  append : Mode
  retract : Mode
  upsert : List ℕ → Mode

-- the mode that a table declares, with the table's key
abbrev pub mode_of : Declared → List ℕ → Mode
mode_of Append key = append
mode_of Retract key = retract
mode_of Upsert key = upsert key

-- `+I` and `+U` add their row, `-U` and `-D` remove it
abbrev pub adds : Kind → Bool
adds I = true
adds UB = false
adds UA = true
adds D = false

-- whether a kind is in a set
abbrev pub has : KindSet → Kind → Bool
has kinds I = kinds.i
has kinds UB = kinds.ub
has kinds UA = kinds.ua
has kinds D = kinds.d

-- the kinds that belong to a mode
abbrev pub kinds_of : Mode → KindSet
kinds_of append = record { i = true; ub = false; ua = false; d = false }
kinds_of retract = record { i = true; ub = true; ua = true; d = true }
kinds_of (upsert key) = record { i = true; ub = false; ua = true; d = true }

abbrev pub admits : Mode → Kind → Bool
admits mode kind = has (kinds_of mode) kind

-- each change is of one of these kinds
abbrev pub AreOf : KindSet → List Change → Type 0
AreOf kinds changes = AllByRecursion (λ change. has kinds change.kind ≡ true) changes

-- the standing row that agrees with this one on the key
abbrev pub row_at : Rows → List ℕ → Row → Option Row
row_at rows key row = find (λ other. same_row (project key row) (project key other)) (items rows)

-- the rows without one row, and with one more
abbrev pub without : Rows → Option Row → Rows
without rows None = rows
without rows (Some row) = remove rows row

abbrev pub with : Rows → Option Row → Rows
with rows None = rows
with rows (Some row) = add rows row

-- the rows after one more change: under upsert the row of the change's key goes first
abbrev pub apply : Mode → Rows → Change → Rows
apply append rows change = add rows change.row
apply retract rows change = cond (adds change.kind) (add rows change.row) (remove rows change.row)
apply (upsert key) rows change = let others = without rows (row_at rows key change.row) in cond (adds change.kind) (add others change.row) others

-- the rows after a list of changes, from these rows on
abbrev pub fold_from : Mode → Rows → List Change → Rows
fold_from mode rows [] = rows
fold_from mode rows (change ∷ changes) = fold_from mode (apply mode rows change) changes

-- the rows that a changelog leaves
abbrev pub fold : Mode → List Change → Rows
fold mode changes = fold_from mode none changes

-- a change may come where these rows stand: its kind belongs to the mode, and a row that it removes stands
abbrev pub MayCome : Mode → Rows → Change → Type 0
MayCome append rows change = admits append change.kind ≡ true
MayCome retract rows change = adds change.kind ≡ false → 0 < copies rows change.row
MayCome (upsert key) rows change = admits (upsert key) change.kind ≡ true

-- the row has the columns of the mode's key
abbrev pub HasKey : Mode → Row → Type 0
HasKey append row = Unit {0}
HasKey retract row = Unit {0}
HasKey (upsert key) row = AllByRecursion (λ column. column < length row) key

-- each change may come where it comes
abbrev pub IsValidFrom : Mode → Rows → List Change → Type 0
IsValidFrom mode rows [] = Unit {0}
IsValidFrom mode rows (change ∷ changes) = MayCome mode rows change × IsValidFrom mode (apply mode rows change) changes

abbrev pub IsValid : Mode → List Change → Type 0
IsValid mode changes = IsValidFrom mode none changes

-- how often a change adds the row, and how often it removes it
abbrev pub addition : Row → Change → ℕ
addition row change = cond (adds change.kind) (one_at row_cmp row change.row) 0

abbrev pub removal : Row → Change → ℕ
removal row change = cond (adds change.kind) 0 (one_at row_cmp row change.row)

abbrev pub additions : Row → List Change → ℕ
additions row changes = weigh (addition row) changes

abbrev pub removals : Row → List Change → ℕ
removals row changes = weigh (removal row) changes

-- 1 where the last change with the row's key adds this row, and 0 where it doesn't; with no such change, what it was before
abbrev pub last_shown : List ℕ → Row → ℕ → List Change → ℕ
last_shown key row start [] = start
last_shown key row start (change ∷ changes) = last_shown key row (cond (same_row (project key change.row) (project key row)) (addition row change) start) changes

-- the list folds to these rows, and no row was removed more often than it was added
abbrev pub Means : Mode → List Change → Rows → Type 0
Means append changes rows = (row : Row) → additions row changes ≡ removals row changes + copies rows row
Means retract changes rows = (row : Row) → additions row changes ≡ removals row changes + copies rows row
Means (upsert key) changes rows = (row : Row) → copies rows row ≡ last_shown key row 0 changes
