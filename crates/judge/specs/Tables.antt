-- What every table of a judged script has.
use Rattle.std.specs.Prelude.{◌≤◌, List, length}
use Rattle.std.specs.List.{AllByRecursion}
use Rattle.ct_catalog.specs.declared.table.TableDef.{TableDef}

-- no table has more than 64 columns
abbrev pub AreFew : List TableDef → Type 0
AreFew tables = AllByRecursion (λ table. length table.cols ≤ 64) tables
