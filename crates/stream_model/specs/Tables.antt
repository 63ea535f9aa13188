-- A source table: which changes it takes, and to which subtask of a scan they go.
use Rattle.std.specs.Prelude.{◌≡◌, ℕ, ◌+◌, ◌==◌, Bool, true, false, ◌&&◌, ◌||◌, not, cond, List, [], ◌∷◌, ◌++◌, Option, Some, None}
use Rattle.std.specs.List.{filter}
use Rattle.ct_value.specs.Bag.{copies}
use Rattle.ct_value.specs.Rows.{project}
use Rattle.ct_value.specs.declared.row.Row.{Row}
use Rattle.ct_value.specs.declared.codes.ChangeCode.{ChangeCode}
use Rattle.ct_value.specs.declared.codes.ChangeCode.TheVariants.{KindNotDeclared, NullNotAllowed, RowAbsent, KeyPresent}
use Rattle.ct_field.specs.Typed.{is_null, cell}
use Rattle.ct_change.specs.declared.change.Change.{Change}
use Rattle.ct_change.specs.Changelog.{Mode, append, retract, upsert, Rows, adds, admits, row_at, fold}
use Rattle.ct_change.specs.KeyRows.{is_among}
use Rattle.stream_model.specs.KeysTold.{told_key}

pub record Table : Type 0 where
  -- the mode of its changes, and the columns of its key, where it has one
  pub mode : Mode
  pub key : Option (List ℕ)
  -- the columns in which NULL may not stand
  pub required : List ℕ
  -- the columns by which its changes are spread over the subtasks of a scan: those of its key, or all; and the subtask of
  -- their values
  pub spread : List ℕ
  pub route : Row → ℕ
  -- whether a change has as many values as the table has columns, each NULL or of its column's type, and tells no more than its
  -- key where it tells that alone
  pub fits : Change → Bool

-- the subtask of a scan that sends a change
abbrev pub scanned_at : Table → Change → ℕ
scanned_at table change = table.route (project table.spread change.row)

abbrev pub is_there : Option Row → Bool
is_there None = false
is_there (Some row) = true

-- its kind isn't declared
abbrev pub kind_refusal : Mode → Change → Option ChangeCode
kind_refusal mode change = cond (admits mode change.kind) None (Some KindNotDeclared)

-- NULL stands where it may not, first in this column; columns are counted from 1 here
abbrev pub null_refusal : List ℕ → Row → Option ChangeCode
null_refusal [] row = None
null_refusal (column ∷ columns) row = cond (is_null (cell column row)) (Some (NullNotAllowed (column + 1))) (null_refusal columns row)

-- the columns in which NULL is asked for: those in which it may not stand, and where a change tells its key alone, the key's among
-- them, in the key's order
abbrev pub asked_of : List ℕ → Option (List ℕ) → List ℕ
asked_of required None = required
asked_of required (Some key) = filter (is_among required) key

abbrev pub asked : Table → Change → List ℕ
asked table change = asked_of table.required (told_key table.mode change.kind)

-- the row that it removes doesn't stand
abbrev pub row_refusal : Mode → Rows → Change → Option ChangeCode
row_refusal append rows change = None
row_refusal retract rows change = cond (adds change.kind || not (copies rows change.row == 0)) None (Some RowAbsent)
row_refusal (upsert key) rows change = None

-- a row with the key of the row that it adds stands
abbrev pub key_refusal_by : Mode → Option (List ℕ) → Rows → Change → Option ChangeCode
key_refusal_by append None rows change = None
key_refusal_by append (Some key) rows change = cond (adds change.kind && is_there (row_at rows key change.row)) (Some KeyPresent) None
key_refusal_by retract None rows change = None
key_refusal_by retract (Some key) rows change = cond (adds change.kind && is_there (row_at rows key change.row)) (Some KeyPresent) None
key_refusal_by (upsert columns) key rows change = None

-- the first of these refusals
abbrev pub or_else : Option ChangeCode → Option ChangeCode → Option ChangeCode
or_else None later = later
or_else (Some code) later = Some code

-- why a change can't be taken where these rows stand: by its kind, then by its values, then by the rows
abbrev pub refusal : Table → Rows → Change → Option ChangeCode
refusal table rows change = or_else (kind_refusal table.mode change) (or_else (null_refusal (asked table change) change.row)
    (or_else (row_refusal table.mode rows change) (key_refusal_by table.mode table.key rows change)))

-- each change can be taken after those before it
abbrev pub AllTaken : Table → List Change → List Change → Type 0
AllTaken table before [] = Unit {0}
AllTaken table before (change ∷ changes) = (refusal table (fold table.mode before) change ≡ None) × AllTaken table (before ++ change ∷ []) changes
