-- For which changes of a table its checks and its fold stand.
use Rattle.std.specs.Prelude.{◌≡◌, List}
use Rattle.ct_change.specs.declared.change.Change.{Change}
use Rattle.ct_change.specs.Changelog.{fold}
use Rattle.ct_catalog.specs.declared.table.TableDef.{TableDef}
use Rattle.ct_catalog.specs.Columns.{table_mode}
use Rattle.source_lines.specs.declared.checks.SourceChecks.{SourceChecks}
use Rattle.source_lines.specs.declared.folds.SourceFold.{SourceFold}
use Rattle.source_lines.specs.Kept.{IsKept, IsWhole}

-- the checks are of this table, and what they keep stands for the fold of these changes
pub record ChecksStand (table : TableDef) (checks : SourceChecks) (changes : List Change) : Type 0 where
  pub of_table : checks.table ≡ table
  pub kept : IsKept table checks.kept (fold (table_mode table) changes)

-- the same of a fold, which knows the rows
pub record FoldStands (table : TableDef) (folded : SourceFold) (changes : List Change) : Type 0 where
  pub of_table : folded.table ≡ table
  pub kept : IsKept table folded.kept (fold (table_mode table) changes)
  pub whole : IsWhole folded.kept
