use Rattle.std.proofs.Common.{◌≡◌, ◌++◌, map, drop}
use Rattle.ct_catalog.specs.Columns.{column_types}
use Rattle.job_batch.proofs.answers.types_of.Given as goal

abbrev pub invariant-loop-table : goal.invariant-loop-table
invariant-loop-table l = l.types ++ map column_types (drop l.table-index l.sources) ≡ map column_types l.sources
