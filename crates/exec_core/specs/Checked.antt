-- For which changes of a table its check stands.
use Rattle.std.specs.Prelude.{◌≡◌, ℕ, List, length}
use Rattle.ct_change.specs.declared.change.Change.{Change}
use Rattle.ct_catalog.specs.declared.table.TableDef.{TableDef}
use Rattle.plan_rules.specs.Plans.{table_of}
use Rattle.source_lines.specs.Folding.{ChecksStand}
use Rattle.stream_model.specs.Tables.{Table}
use Rattle.exec_core.specs.declared.check.TableCheck.{TableCheck}

-- the table is declared so, and these changes were taken of it
pub record HasChecked (check : TableCheck) (table : Table) (changes : List Change) : Type 0 where
  pub declared : TableDef
  pub many : ℕ
  pub is : table ≡ table_of many declared
  pub stands : ChecksStand declared check.checks changes
  pub counted : check.taken ≡ length changes
