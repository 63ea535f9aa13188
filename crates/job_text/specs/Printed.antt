-- What is printed: the one line of a change, of a row of an answer, and of a quiet moment.
use Rattle.std.specs.Prelude.{◌≡◌, ℕ, Bool, true, false, List, [], ◌∷◌, ◌++◌, pred, length, sum, take, Option, Some, None, codes}
use Rattle.std.specs.Fmt.{decimal}
use Rattle.csv.specs.Writing as csv
use Rattle.ct_value.specs.declared.ty.Ty.{Ty}
use Rattle.ct_value.specs.declared.value.Value.{Value}
use Rattle.ct_field.specs.Fields.{field_text}
use Rattle.ct_change.specs.declared.change.Change.{Change}
use Rattle.ct_change.specs.declared.kind.Kind.{Kind}
use Rattle.ct_change.specs.declared.kind.Kind.TheVariants.{I, UB, UA, D}
use Rattle.stream_model.specs.KeysTold.{told_by}
use Rattle.stream_model.specs.declared.events.PrintItem.{PrintItem}
use Rattle.stream_model.specs.declared.events.PrintItem.TheVariants.{Change as Printed, Quiet}
use Rattle.job_text.specs.AtKey.{at_key}

-- the line of a record: a field is quoted where it holds a comma, a quote or the end of a line, and LF is behind the last
abbrev pub record_line : List (List ℕ) → List ℕ
record_line fields = csv.row_text csv.default_writer fields

-- fields of a record behind others, each behind a comma
abbrev pub fields_behind : List (List ℕ) → List ℕ
fields_behind fields = csv.fields_text csv.default_writer fields

-- the texts of values, each of the type beside it
abbrev pub field_texts : List Ty → List Value → List (List ℕ)
field_texts [] values = []
field_texts (ty ∷ tys) [] = []
field_texts (ty ∷ tys) (value ∷ values) = field_text ty value ∷ field_texts tys values

abbrev pub kind_text : Kind → List ℕ
kind_text I = codes "+I"
kind_text UB = codes "-U"
kind_text UA = codes "+U"
kind_text D = codes "-D"

-- the line of a row with columns of these types
abbrev pub row_line : List Ty → List Value → List ℕ
row_line tys row = record_line (field_texts tys row)

-- all but the last byte
abbrev pub but_last : List ℕ → List ℕ
but_last bytes = take (pred (length bytes)) bytes

-- a row as a record without the end of its line; the empty row is nothing
abbrev pub row_text : List Ty → List Value → List ℕ
row_text tys [] = []
row_text tys (value ∷ values) = but_last (row_line tys (value ∷ values))

-- the sum of numbers
abbrev pub sum_of : List ℕ → ℕ
sum_of numbers = sum numbers

-- what the line of a quiet moment tells of how many changes were taken of each source: each number where each source has a change
-- file of its own, and their sum alone where all have one
abbrev pub numbers_told : Bool → List ℕ → List ℕ
numbers_told true counts = counts
numbers_told false counts = sum_of counts ∷ []

-- each number behind a comma
abbrev pub commaed : List ℕ → List ℕ
commaed [] = []
commaed (number ∷ numbers) = codes "," ++ (decimal number ++ commaed numbers)

-- the line of a quiet moment, which tells these numbers
abbrev pub quiet_line : List ℕ → List ℕ
quiet_line numbers = codes "=" ++ (commaed numbers ++ codes "\n")

-- the row of a change has so many values
abbrev pub IsWide : ℕ → PrintItem → Type 0
IsWide width (Printed change) = length change.row ≡ width
IsWide width (Quiet counts) = Unit {0}

-- of the texts of a row all, or those of a key that is told alone
abbrev pub told_texts : Option (List ℕ) → List (List ℕ) → List (List ℕ)
told_texts None texts = texts
told_texts (Some key) texts = at_key key 0 texts

-- the line of a change with columns of these types, into a sink that has this key where it is an upsert table
abbrev pub change_line : List Ty → Option (List ℕ) → Change → List ℕ
change_line tys key change = record_line (kind_text change.kind ∷ told_texts (told_by key change.kind) (field_texts tys change.row))

-- the line of an item; a quiet moment is told by table where each source has a change file of its own
abbrev pub item_line : Bool → List Ty → Option (List ℕ) → PrintItem → List ℕ
item_line by_table tys key (Printed change) = change_line tys key change
item_line by_table tys key (Quiet counts) = quiet_line (numbers_told by_table counts)

-- the lines of items
abbrev pub item_lines : Bool → List Ty → Option (List ℕ) → List PrintItem → List ℕ
item_lines by_table tys key [] = []
item_lines by_table tys key (item ∷ items) = item_line by_table tys key item ++ item_lines by_table tys key items

-- the lines of rows
abbrev pub row_lines : List Ty → List (List Value) → List ℕ
row_lines tys [] = []
row_lines tys (row ∷ rows) = row_line tys row ++ row_lines tys rows
