-- That rows have their tables' columns, and lines their sources'.
use Rattle.std.specs.Prelude.{◌≡◌, ℕ, true, List, [], ◌∷◌, slice_get, Option, Some, None, Ok}
use Rattle.ct_change.specs.declared.change.Change.{Change}
use Rattle.ct_change.specs.Changelog.{Rows}
use Rattle.ct_catalog.specs.declared.table.TableDef.{TableDef}
use Rattle.job_text.specs.declared.line.Line.{Line}
use Rattle.job_text.specs.Fitting.{IsOfTable}
use Rattle.job_text.specs.Lines.{Record, line_in}
use Rattle.ct_catalog.specs.Columns.{column_types, table_mode}
use Rattle.rel_algebra.specs.Clauses.{Fits}
use Rattle.rel_algebra.specs.Sums.{Each}
use Rattle.stream_model.specs.KeysTold.{told_fits, told_key}
use Rattle.source_lines.specs.Taken.{Taken, line_refusal}

-- each row of a table has the table's columns: their types, and NULL only where it may stand
abbrev pub RowsFit : List TableDef → List Rows → Type 0
RowsFit [] [] = Unit {0}
RowsFit [] (rows ∷ others) = ⊥
RowsFit (table ∷ tables) [] = ⊥
RowsFit (table ∷ tables) (rows ∷ others) = Each (Fits (column_types table)) rows × RowsFit tables others

-- a change is one of the table, and NULL stands in its row only where it may
pub record FitsTable (table : TableDef) (change : Change) : Type 0 where
  pub is : IsOfTable table change
  pub fits : told_fits (told_key (table_mode table) change.kind) (column_types table) change.row ≡ true

-- a line that isn't refused is one of a source, and its change fits the source
abbrev pub LinesFitColumns : Type 0
LinesFitColumns = (sources : List TableDef) (feed : Option ℕ) (fields : Record) (line : Line) (taken : Taken) → line_in sources feed fields ≡ Ok line → line_refusal sources taken line ≡ None
    → (table : TableDef) × (slice_get sources line.table ≡ Some table) × FitsTable table line.change
