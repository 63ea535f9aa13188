-- The columns of a table, and the mode in which its changes are written.
use Rattle.std.specs.Prelude.{List, [], map, unwrap_or}
use Rattle.ct_value.specs.declared.ty.ColTy.{ColTy}
use Rattle.ct_change.specs.Changelog.{Mode, mode_of}
use Rattle.ct_catalog.specs.declared.table.TableDef.{TableDef}

-- the types of a table's columns
abbrev pub column_types : TableDef → List ColTy
column_types table = map (λ column. column.ty) table.cols

-- the mode in which a table's changes are written
abbrev pub table_mode : TableDef → Mode
table_mode table = mode_of table.mode (unwrap_or table.key [])
