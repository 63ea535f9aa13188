-- The lines of change files taken in order, file by file: the changes of each source, or the first line that is refused.
use Rattle.std.specs.Prelude.{◌≡◌, ℕ, suc, ◌==◌, cond, List, [], ◌∷◌, ◌++◌, map, take, slice_get, Option, Some, None, Result, Ok, Err}
use Rattle.ct_value.specs.declared.codes.ChangeCode.{ChangeCode}
use Rattle.ct_change.specs.declared.change.Change.{Change}
use Rattle.ct_change.specs.Changelog.{Rows, fold}
use Rattle.ct_catalog.specs.declared.table.TableDef.{TableDef}
use Rattle.job_text.specs.declared.line.Line.{Line}
use Rattle.job_text.specs.Lines.{Record, LinesLeft, line_in}
use Rattle.ct_catalog.specs.Columns.{table_mode}
use Rattle.source_lines.specs.Kept.{refusal_after}
use Rattle.source_lines.specs.Supply.{all_unread, table_told}
use Rattle.source_lines.specs.declared.supply.ChangeFiles.{ChangeFiles}
use Rattle.source_lines.specs.declared.fault.TakeFault.{TakeFault}
use Rattle.source_lines.specs.declared.fault.TakeFault.TheVariants.{Refused, Memory}

-- the changes taken of each source, by its place from 0
abbrev pub Taken : Type 0
Taken = ℕ → List Change

abbrev pub nothing_taken : Taken
nothing_taken source = []

abbrev pub with_line : Taken → Line → Taken
with_line taken line source = cond (source == line.table) (taken source ++ line.change ∷ []) (taken source)

-- a refused line, by its number in its file from 1, and the file's table as that is told
pub record RefusedLine : Type 0 where
  pub line : ℕ
  pub table : ℕ
  pub code : ChangeCode

abbrev pub refused : {A : Type 0} → Option ℕ → ℕ → ChangeCode → Result A RefusedLine
refused feed number code = Err (record { line = number; table = table_told feed; code = code })

abbrev pub unless_refused : Option ℕ → ℕ → Taken → Line → Option ChangeCode → Result Taken RefusedLine
unless_refused feed number taken line None = Ok (with_line taken line)
unless_refused feed number taken line (Some code) = refused feed number code

abbrev pub refusal_in : Option TableDef → List Change → Change → Option ChangeCode
refusal_in None changes change = None
refusal_in (Some table) changes change = refusal_after table changes change

-- why a line can't be taken after these changes: by its values, or by the rows that stand
abbrev pub line_refusal : List TableDef → Taken → Line → Option ChangeCode
line_refusal sources taken line = refusal_in (slice_get sources line.table) (taken line.table) line.change

-- a record taken as the line that it is
abbrev pub take_line : List TableDef → Option ℕ → ℕ → Taken → Result Line ChangeCode → Result Taken RefusedLine
take_line sources feed number taken (Err code) = refused feed number code
take_line sources feed number taken (Ok line) = unless_refused feed number taken line (line_refusal sources taken line)

abbrev pub and_then : Result Taken RefusedLine → (Taken → Result Taken RefusedLine) → Result Taken RefusedLine
and_then (Ok taken) next = next taken
and_then (Err refusal) next = Err refusal

-- these records of a file, of which the first has this number, behind what was taken
abbrev pub take_records : List TableDef → Option ℕ → ℕ → Taken → List Record → Result Taken RefusedLine
take_records sources feed number taken [] = Ok taken
take_records sources feed number taken (fields ∷ rest) = and_then (take_line sources feed number taken (line_in sources feed fields)) (λ more. take_records sources feed (suc number) more rest)

-- what a file has left
abbrev pub take_file : List TableDef → Taken → LinesLeft → Result Taken RefusedLine
take_file sources taken file = take_records sources file.feed (suc file.read) taken file.records

-- what files have left, one file after the other
abbrev pub take_files : List TableDef → Taken → List LinesLeft → Result Taken RefusedLine
take_files sources taken [] = Ok taken
take_files sources taken (file ∷ files) = and_then (take_file sources taken file) (λ more. take_files sources more files)

-- so many next lines of a file alone, or all
abbrev pub first_of : Option ℕ → LinesLeft → LinesLeft
first_of None file = file
first_of (Some count) file = record file { records = take count file.records }

-- of each file so many next lines alone, and none of a file for which no number stands
abbrev pub firsts : List ℕ → List LinesLeft → List LinesLeft
firsts counts [] = []
firsts [] (file ∷ files) = first_of (Some 0) file ∷ firsts [] files
firsts (count ∷ counts) (file ∷ files) = first_of (Some count) file ∷ firsts counts files

-- what is taken of change files, of so many first lines of each or of all
abbrev pub taken_of : List TableDef → Option ℕ → ChangeFiles → Result Taken RefusedLine
taken_of sources first files = take_files sources nothing_taken (map (first_of first) (all_unread files))

-- the rows that the changes leave in each source
abbrev pub rows_of : List TableDef → Taken → List Rows
rows_of [] taken = []
rows_of (table ∷ tables) taken = fold (table_mode table) (taken 0) ∷ rows_of tables (λ source. taken (suc source))

-- the fault is the refusal, or it is want of memory
abbrev pub IsRefused : {A : Type 0} → TakeFault → Result A RefusedLine → Type 0
IsRefused (Refused code line table) answer = answer ≡ Err (record { line = line; table = table; code = code })
IsRefused Memory answer = Unit {0}
