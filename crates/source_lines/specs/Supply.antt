-- The change files of a job: one for all tables, whose lines name them, or one for each table; and how far their lines were read.
use Rattle.std.specs.Prelude.{◌≡◌, ◌≤◌, ℕ, zero, suc, Bool, true, false, List, [], ◌∷◌, length, map, Option, Some, None}
use Rattle.std.specs.List.{AllByRecursion}
use Rattle.ct_catalog.specs.declared.table.TableDef.{TableDef}
use Rattle.job_text.specs.Lines.{Record, LinesLeft, records_of}
use Rattle.source_lines.specs.declared.supply.ChangeFiles.{ChangeFiles}
use Rattle.source_lines.specs.declared.supply.ChangeFiles.TheVariants.{One, Each}

-- a file of which no line was read; all its lines are of the table of this place, or each names its own
abbrev pub unread : Option ℕ → List ℕ → LinesLeft
unread feed bytes = record { feed = feed; read = 0; records = records_of bytes }

-- the files of tables from this place on
abbrev pub unread_from : ℕ → List (List ℕ) → List LinesLeft
unread_from place [] = []
unread_from place (bytes ∷ others) = unread (Some place) bytes ∷ unread_from (suc place) others

abbrev pub all_unread : ChangeFiles → List LinesLeft
all_unread (One bytes) = unread None bytes ∷ []
all_unread (Each files) = unread_from 0 files

abbrev pub is_by_table : ChangeFiles → Bool
is_by_table (One bytes) = false
is_by_table (Each files) = true

-- each file can be read, by its length
abbrev pub IsWithin : List ℕ → Type 0
IsWithin bytes = length bytes ≤ 67108864

abbrev pub AreWithin : ChangeFiles → Type 0
AreWithin (One bytes) = IsWithin bytes
AreWithin (Each files) = AllByRecursion IsWithin files

-- if not one file for all sources, one for each
abbrev pub AreFor : ChangeFiles → List TableDef → Type 0
AreFor (One bytes) sources = Unit {0}
AreFor (Each files) sources = length files ≡ length sources

-- a file's table as a refusal tells it: its number from 1, or 0 where each line names its own
abbrev pub table_told : Option ℕ → ℕ
table_told None = 0
table_told (Some place) = suc place

-- the place of the file from which an order takes: that of the table of this number from 1, or the only one
abbrev pub file_named : Bool → ℕ → Option ℕ
file_named false table = Some 0
file_named true zero = None
file_named true (suc place) = Some place

-- a file of which one line more was read
abbrev pub read_on : LinesLeft → List Record → LinesLeft
read_on file rest = record file { read = suc file.read; records = rest }

-- how many lines each file has left
abbrev pub all_left : List LinesLeft → List ℕ
all_left files = map (λ file. length file.records) files
