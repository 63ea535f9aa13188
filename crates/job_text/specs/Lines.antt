-- Change lines: the records of a change file, and the change that a record is, or the code by which it is refused.
use Rattle.std.specs.Prelude.{ℕ, suc, ◌+◌, ◌==◌, ◌||◌, Bool, true, false, cond, List, [], ◌∷◌, length, map, drop, position, slice_get, slice_index_or, Option, Some, None, Result, Ok, Err, if◌then◌else◌, codes}
use Rattle.std.specs.Str.{bytes_eq}
use Rattle.csv.specs.Reading.{default_config, records, strip_bom}
use Rattle.ct_value.specs.declared.ty.Ty.{Ty}
use Rattle.ct_value.specs.declared.value.Value.{Value}
use Rattle.ct_value.specs.declared.value.Value.TheVariants.{Null}
use Rattle.ct_value.specs.declared.codes.ChangeCode.{ChangeCode}
use Rattle.ct_value.specs.declared.codes.ChangeCode.TheVariants.{FieldCount, UnknownTable, BadKind, KindNotDeclared, BadField}
use Rattle.ct_field.specs.Fields.{field_value}
use Rattle.ct_field.specs.Numbers.{is_type}
use Rattle.ct_change.specs.declared.kind.Kind.{Kind}
use Rattle.ct_change.specs.declared.kind.Kind.TheVariants.{I, UB, UA, D}
use Rattle.ct_change.specs.declared.change.Change.{Change}
use Rattle.ct_change.specs.Changelog.{admits}
use Rattle.ct_change.specs.KeyRows.{is_among}
use Rattle.ct_catalog.specs.declared.table.ColDef.{ColDef}
use Rattle.ct_catalog.specs.declared.table.TableDef.{TableDef}
use Rattle.job_text.specs.declared.line.Line.{Line}
use Rattle.job_text.specs.declared.line.LineFault.{LineFault}
use Rattle.job_text.specs.declared.line.LineFault.TheVariants.{Change as Refused}
use Rattle.job_text.specs.AtKey.{at_key}
use Rattle.ct_catalog.specs.Columns.{table_mode}
use Rattle.stream_model.specs.KeysTold.{told_key}

-- a field is a list of bytes, and a record a list of fields
abbrev pub Field : Type 0
Field = List ℕ

abbrev pub Record : Type 0
Record = List Field

-- the records of a change file: what CSV's own reading gives, without a header, behind a byte order mark
abbrev pub records_of : List ℕ → List Record
records_of bytes = records default_config (strip_bom bytes)

-- ---- what one record is

-- the kind that two characters spell
abbrev pub kind_of : Field → Option Kind
kind_of word =
    if bytes_eq word (codes "+I") then Some I
    else (if bytes_eq word (codes "-U") then Some UB
    else (if bytes_eq word (codes "+U") then Some UA
    else (if bytes_eq word (codes "-D") then Some D else None)))

-- the value that a field spells in a column of this type, if it is a type that columns have
abbrev pub spelled : Ty → Field → Option Value
spelled ty field = cond (is_type ty) (field_value ty field) None

-- a column's value before those of the columns behind it; a field that spells none is refused by its column's number
abbrev pub value_before : ℕ → Option Value → Result (List Value) ChangeCode → Result (List Value) ChangeCode
value_before column None others = Err (BadField column)
value_before column (Some value) (Err code) = Err code
value_before column (Some value) (Ok values) = Ok (value ∷ values)

-- the values that fields spell, column by column, where the columns are numbered from this number on
abbrev pub values_from : ℕ → List ColDef → List Field → Result (List Value) ChangeCode
values_from column [] fields = Ok []
values_from column (col ∷ cols) [] = Ok []
values_from column (col ∷ cols) (field ∷ fields) = value_before column (spelled col.ty.ty field) (values_from (column + 1) cols fields)

-- the fields of a key's columns: all that there are, or where there is one for each column, those at the key
abbrev pub key_fields : List ℕ → ℕ → List Field → List Field
key_fields key columns fields = if length fields == columns then at_key key 0 fields else fields

-- the value of a column in a key row: what its field spells, and NULL outside the key
abbrev pub key_cell : Bool → Ty → Field → Option Value
key_cell true ty field = spelled ty field
key_cell false ty field = Some Null

-- the key's fields without that of a column, where this is one of the key's
abbrev pub fields_left : Bool → List Field → List Field
fields_left true fields = drop 1 fields
fields_left false fields = fields

-- the values of the key row that the key's fields spell, from this column on
abbrev pub key_values : List ℕ → ℕ → List ColDef → List Field → Result (List Value) ChangeCode
key_values key column [] fields = Ok []
key_values key column (col ∷ cols) fields =
    value_before (suc column) (key_cell (is_among key column) col.ty.ty (slice_index_or fields 0 [])) (key_values key (suc column) cols (fields_left (is_among key column) fields))

-- the key that a record of this kind tells alone, where it is a `-D` of an upsert table
abbrev pub key_told : TableDef → Option Kind → Option (List ℕ)
key_told table None = None
key_told table (Some kind) = told_key (table_mode table) kind

-- whether so many fields are one for each column, or for each of a key that is told alone
abbrev pub is_field_count : TableDef → Option (List ℕ) → ℕ → Bool
is_field_count table None count = count == length table.cols
is_field_count table (Some key) count = (count == length table.cols) || (count == length key)

-- the values of a row, which all fields spell, or those of a key that is told alone
abbrev pub row_values : TableDef → Option (List ℕ) → List Field → Result (List Value) ChangeCode
row_values table None fields = values_from 1 table.cols fields
row_values table (Some key) fields = key_values key 0 table.cols (key_fields key (length table.cols) fields)

abbrev pub change_of_row : Kind → Result (List Value) ChangeCode → Result Change ChangeCode
change_of_row kind (Err code) = Err code
change_of_row kind (Ok row) = Ok (record { kind = kind; row = row })

abbrev pub change_of_kind : TableDef → List Field → Option Kind → Result Change ChangeCode
change_of_kind table fields None = Err BadKind
change_of_kind table fields (Some kind) = if admits (table_mode table) kind then change_of_row kind (row_values table (key_told table (Some kind)) fields) else Err KindNotDeclared

-- the change of a table that a kind and these fields are
abbrev pub change_of : TableDef → Field → List Field → Result Change ChangeCode
change_of table kind fields = if is_field_count table (key_told table (kind_of kind)) (length fields) then change_of_kind table fields (kind_of kind) else Err FieldCount

abbrev pub change_at : Option TableDef → Field → List Field → Result Change ChangeCode
change_at None kind fields = Err UnknownTable
change_at (Some table) kind fields = change_of table kind fields

abbrev pub line_of_change : ℕ → Result Change ChangeCode → Result Line ChangeCode
line_of_change place (Err code) = Err code
line_of_change place (Ok change) = Ok (record { table = place; change = change })

abbrev pub line_at : List TableDef → Field → List Field → Option ℕ → Result Line ChangeCode
line_at sources kind fields None = Err UnknownTable
line_at sources kind fields (Some place) = line_of_change place (change_at (slice_get sources place) kind fields)

-- the place of the source of a name, from 0
abbrev pub source_named : List TableDef → Field → Option ℕ
source_named sources name = position (λ table. bytes_eq table.name name) sources

-- the line that a record is: a source's name, a kind and one field for each column, or for each of a key that is told alone; or
-- why it is refused
abbrev pub line_of : List TableDef → Record → Result Line ChangeCode
line_of sources [] = Err FieldCount
line_of sources (name ∷ []) = Err FieldCount
line_of sources (name ∷ kind ∷ fields) = line_at sources kind fields (source_named sources name)

-- the line of the source of this place, from 0, that a record is: a kind and the fields, behind no name
abbrev pub feed_line : List TableDef → ℕ → Record → Result Line ChangeCode
feed_line sources place [] = Err FieldCount
feed_line sources place (kind ∷ fields) = line_at sources kind fields (Some place)

-- the line that a record is, in a file whose lines are all of one source, or each name theirs
abbrev pub line_in : List TableDef → Option ℕ → Record → Result Line ChangeCode
line_in sources None fields = line_of sources fields
line_in sources (Some place) fields = feed_line sources place fields

-- the lines of a change file, one for each record
abbrev pub lines_of : List TableDef → List ℕ → List (Result Line ChangeCode)
lines_of sources bytes = map (line_of sources) (records_of bytes)

-- the lines of a change file, of which so many were read and these are left; the feed is the source, from 0, of which all its lines
-- are, and None where each line names its own
pub record LinesLeft : Type 0 where
  pub feed : Option ℕ
  pub read : ℕ
  pub records : List Record

-- one more line is read, and these records are left
abbrev pub one_read : LinesLeft → List Record → LinesLeft
one_read lines rest = record lines { read = lines.read + 1; records = rest }

-- what is answered for a line, or for the refusal of one
abbrev pub answer_of : Result Line ChangeCode → Result (Option Line) LineFault
answer_of (Ok line) = Ok (Some line)
answer_of (Err code) = Err (Refused code)
