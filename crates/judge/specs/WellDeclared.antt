-- What the columns and the key of a declared table keep to.
use Rattle.std.specs.Prelude.{◌≡◌, ◌<◌, true, length, unwrap_or, []}
use Rattle.std.specs.List.{AllByRecursion}
use Rattle.ct_field.specs.Numbers.{is_type}
use Rattle.ct_catalog.specs.declared.table.TableDef.{TableDef}

-- each column has a type that exists
abbrev pub HasTypes : TableDef → Type 0
HasTypes table = AllByRecursion (λ column. is_type column.ty.ty ≡ true) table.cols

-- each column of the key, where there is one, is there
abbrev pub HasKeyColumns : TableDef → Type 0
HasKeyColumns table = AllByRecursion (λ column. column < length table.cols) (unwrap_or table.key [])
