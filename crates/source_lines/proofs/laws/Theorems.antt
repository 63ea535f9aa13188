-- The theorems of this crate, put together of its lemmas.
use Rattle.source_lines.proofs.Lines.{files_fit, taken_fit, lines_have_columns}
use Rattle.std.specs.Prelude.{◌≡◌, ℕ, List, Ok, Option}
use Rattle.ct_catalog.specs.declared.table.TableDef.{TableDef}
use Rattle.job_text.specs.Lines.{LinesLeft}
use Rattle.source_lines.specs.Taken.{Taken, nothing_taken, rows_of, take_files, taken_of}
use Rattle.source_lines.specs.declared.supply.ChangeFiles.{ChangeFiles}
use Rattle.source_lines.specs.Fitting.{RowsFit, LinesFitColumns}
use Rattle.job_text.proofs.laws.Fitting.{lines_fit as lines_fit_their_tables}

-- The rows that the first lines of each change file, or all, leave in each source have the source's columns: their types, and NULL only
-- where it may stand.
pub taken_rows_fit : (sources : List TableDef) (first : Option ℕ) (files : ChangeFiles) (taken : Taken) → taken_of sources first files ≡ Ok taken → RowsFit sources (rows_of sources taken)
taken_rows_fit = taken_fit lines_fit_their_tables

-- So have those of any lines of files, taken file by file.
pub taken_files_fit : (sources : List TableDef) (files : List LinesLeft) (taken : Taken) → take_files sources nothing_taken files ≡ Ok taken → RowsFit sources (rows_of sources taken)
taken_files_fit = files_fit lines_fit_their_tables

-- A line that isn't refused is one of a source, and its row has the source's columns.
pub taken_lines_fit : LinesFitColumns
taken_lines_fit = lines_have_columns lines_fit_their_tables
