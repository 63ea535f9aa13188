-- That the change of a line is one of its table.
use Rattle.std.specs.Prelude.{◌≡◌, ℕ, true, List, slice_get, Option, Some, Ok}
use Rattle.ct_change.specs.declared.change.Change.{Change}
use Rattle.ct_change.specs.Changelog.{admits}
use Rattle.ct_catalog.specs.declared.table.TableDef.{TableDef}
use Rattle.job_text.specs.declared.line.Line.{Line}
use Rattle.job_text.specs.Lines.{Record, line_in}
use Rattle.ct_catalog.specs.Columns.{table_mode, column_types}
use Rattle.stream_model.specs.KeysTold.{is_typed}

-- the table takes changes of its kind, and its row has values of the table's columns, of those of its key where it tells that alone
pub record IsOfTable (table : TableDef) (change : Change) : Type 0 where
  pub admitted : admits (table_mode table) change.kind ≡ true
  pub fits : is_typed (table_mode table) (column_types table) change ≡ true

-- a line's table is one of the sources, and its change is one of the table
abbrev pub LinesFit : Type 0
LinesFit = (sources : List TableDef) (feed : Option ℕ) (fields : Record) (line : Line) → line_in sources feed fields ≡ Ok line
    → (table : TableDef) × (slice_get sources line.table ≡ Some table) × IsOfTable table line.change
