-- The theorems of this crate, put together of its lemmas.
use Rattle.plan_laying.proofs.Tables as tables
use Rattle.std.specs.Prelude.{◌≡◌, List, Some, false, map}
use Rattle.ct_value.specs.declared.ty.ColTy.{ColTy}
use Rattle.ct_catalog.specs.declared.table.TableDef.{TableDef}
use Rattle.rel_algebra.specs.Rel.{Rel}
use Rattle.rel_algebra.specs.Types.{columns_of}
use Rattle.ct_catalog.specs.Columns.{column_types}
use Rattle.plan_laying.specs.Faults.{lacks_table}

-- A tree that is well-typed over the tables scans none but these.
pub typed_trees_have_tables : (sources : List TableDef) (rel : Rel) (columns : List ColTy) → columns_of (map column_types sources) rel ≡ Some columns → lacks_table sources rel ≡ false
typed_trees_have_tables = tables.have
