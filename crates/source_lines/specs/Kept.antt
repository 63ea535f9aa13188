-- What a source keeps, and for which changes it stands.
use Rattle.std.specs.Prelude.{◌≡◌, ℕ, ◌<◌, ◌+◌, ◌^◌, Bool, false, cond, List, [], Option, Some, None, unwrap_or}
use Rattle.std.specs.FinMap as finite
use Rattle.ct_value.specs.Bag.{copies}
use Rattle.ct_value.specs.declared.codes.ChangeCode.{ChangeCode}
use Rattle.ct_value.specs.declared.codes.ChangeCode.TheVariants.{KeyPresent, RowAbsent}
use Rattle.ct_value.specs.declared.row.Row.{Row}
use Rattle.ct_change.specs.declared.kind.Declared.{Declared}
use Rattle.ct_change.specs.declared.kind.Declared.TheVariants.{Append, Retract, Upsert}
use Rattle.ct_change.specs.declared.change.Change.{Change}
use Rattle.ct_change.specs.Changelog.{Rows, adds, fold, same_row}
use Rattle.ct_change.specs.LastRows.{AreLast, Lasts}
use Rattle.ct_catalog.specs.declared.table.TableDef.{TableDef}
use Rattle.stream_model.specs.Tables.{Table, is_there, key_refusal_by, or_else, refusal, row_refusal}
use Rattle.plan_rules.specs.Plans.{table_of}
use Rattle.ct_catalog.specs.Columns.{table_mode}
use Rattle.source_lines.specs.declared.kept.Kept.{Kept}
use Rattle.source_lines.specs.declared.kept.Kept.TheVariants.{Nothing, Rows as Standing, Keyed}

-- the columns of a table's key, none where it has no key
abbrev pub key_of : TableDef → List ℕ
key_of table = unwrap_or table.key []

-- the table as the machine takes its changes; how many subtasks there are says nothing of that
abbrev pub taker_of : TableDef → Table
taker_of table = table_of 1 table

-- why a change is refused after these changes
abbrev pub refusal_after : TableDef → List Change → Change → Option ChangeCode
refusal_after table changes change = refusal (taker_of table) (fold (table_mode table) changes) change

-- nothing has to be kept to see which changes are refused: the rows of an append table without a key and those of an upsert
-- table don't matter
abbrev pub NeedsNothing : Declared → Option (List ℕ) → Type 0
NeedsNothing Append None = Unit {0}
NeedsNothing Append (Some key) = ⊥
NeedsNothing Retract key = ⊥
NeedsNothing Upsert key = Unit {0}

-- no key tells rows apart
abbrev pub HasNoKey : Declared → Option (List ℕ) → Type 0
HasNoKey Append None = Unit {0}
HasNoKey Append (Some key) = ⊥
HasNoKey Retract None = Unit {0}
HasNoKey Retract (Some key) = ⊥
HasNoKey Upsert key = ⊥

-- no two rows stand with one key
abbrev pub HasKey : Declared → Option (List ℕ) → Type 0
HasKey Append None = ⊥
HasKey Append (Some key) = Unit {0}
HasKey Retract None = ⊥
HasKey Retract (Some key) = Unit {0}
HasKey Upsert key = Unit {0}

-- what is kept of a table stands for these rows
abbrev pub IsKept : TableDef → Kept → Rows → Type 0
IsKept table Nothing rows = NeedsNothing table.mode table.key
IsKept table (Standing bag) rows = HasNoKey table.mode table.key × (bag ≡ rows)
IsKept table (Keyed lasts) rows = HasKey table.mode table.key × AreLast (key_of table) lasts rows

-- the rows that stand are known
abbrev pub IsWhole : Kept → Type 0
IsWhole Nothing = ⊥
IsWhole (Standing bag) = Unit {0}
IsWhole (Keyed lasts) = Unit {0}

-- one more copy of each row can be counted
abbrev pub HasRoom : Kept → Type 0
HasRoom Nothing = Unit {0}
HasRoom (Standing bag) = (row : Row) → copies bag row + 1 < 2 ^ 64
HasRoom (Keyed lasts) = Unit {0}

-- why a change that the table takes by its kind and its values can't be taken where these rows stand
abbrev pub rows_refusal : TableDef → Rows → Change → Option ChangeCode
rows_refusal table rows change = or_else (row_refusal (table_mode table) rows change) (key_refusal_by (table_mode table) table.key rows change)

-- a row stands under its key
abbrev pub is_row : Option Row → Row → Bool
is_row None row = false
is_row (Some old) row = same_row row old

-- why a change of a keyed table can't be taken, by what its key has
abbrev pub keyed_refusal : Option Row → Change → Option ChangeCode
keyed_refusal old change = cond (adds change.kind) (cond (is_there old) (Some KeyPresent) None) (cond (is_row old change.row) None (Some RowAbsent))

-- the rows of keys after a change of this key
abbrev pub keyed_after : Lasts → Row → Change → Lasts
keyed_after lasts key change = cond (adds change.kind) (finite.insert lasts key change.row) (finite.remove lasts key)
