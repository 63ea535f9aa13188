-- Sources with the rows that lines leave in them.
use Rattle.std.proofs.Common.{◌≡◌, suc, List, [], ◌∷◌, ◌++◌, map, length, refl, ap, ◌∙◌}
use Rattle.ct_value.specs.Bag.{none}
use Rattle.ct_value.specs.Order.{row_total, row_exact}
use Rattle.ct_value.specs.declared.ty.ColTy.{ColTy}
use Rattle.ct_change.specs.Changelog.{Rows}
use Rattle.ct_catalog.specs.declared.table.TableDef.{TableDef}
use Rattle.rel_algebra.specs.Clauses.{Fits}
use Rattle.rel_algebra.proofs.laws.Bags.{each-none}
use Rattle.rel_algebra.specs.Answer.{AreTyped, Table, types_in}
use Rattle.ct_catalog.specs.Columns.{column_types}
use Rattle.query_laws.specs.Statement.{declared, filled, tables_of}
use Rattle.batch_answer.specs.Tables as batch
use Rattle.source_lines.specs.Fitting.{RowsFit}
use Rattle.job_batch.specs.Batch.{with_rows}

-- the program's two lists are these tables
same_lists : (sources : List TableDef) (bags : List Rows) → batch.tables_of (map column_types sources) bags ≡ tables_of (with_rows sources bags)
same_lists [] bags = refl
same_lists (table ∷ sources) [] = refl
same_lists (table ∷ sources) (bag ∷ bags) = ap (λ (ts : List Table). (record { columns = column_types table; rows = bag }) ∷ ts) (same_lists sources bags)

pub same_tables : (sources : List TableDef) (bags : List Rows) (types : List (List ColTy)) → types ≡ map column_types sources → batch.tables_of types bags ≡ tables_of (with_rows sources bags)
same_tables sources bags types is = ap (λ (ts : List (List ColTy)). batch.tables_of ts bags) is ∙ same_lists sources bags

pub declared_rows : (sources : List TableDef) (bags : List Rows) → RowsFit sources bags → declared (with_rows sources bags) ≡ sources
declared_rows [] [] fit = refl
declared_rows [] (bag ∷ bags) fit = refl
declared_rows (table ∷ sources) [] fit = absurd fit
declared_rows (table ∷ sources) (bag ∷ bags) fit = ap (λ (ts : List TableDef). table ∷ ts) (declared_rows sources bags fit.1)

pub same_length : (sources : List TableDef) (bags : List Rows) → RowsFit sources bags → length (map column_types sources) ≡ length bags
same_length [] [] fit = refl
same_length [] (bag ∷ bags) fit = absurd fit
same_length (table ∷ sources) [] fit = absurd fit
same_length (table ∷ sources) (bag ∷ bags) fit = ap suc (same_length sources bags fit.1)

pub types_of_rows : (sources : List TableDef) (bags : List Rows) → RowsFit sources bags → types_in (tables_of (with_rows sources bags)) ≡ map column_types sources
types_of_rows [] [] fit = refl
types_of_rows [] (bag ∷ bags) fit = refl
types_of_rows (table ∷ sources) [] fit = absurd fit
types_of_rows (table ∷ sources) (bag ∷ bags) fit = ap (λ (ts : List (List ColTy)). column_types table ∷ ts) (types_of_rows sources bags fit.1)

pub typed_sources : (sources : List TableDef) (bags : List Rows) → RowsFit sources bags → AreTyped (tables_of (with_rows sources bags))
typed_sources [] bags fit = tt
typed_sources (table ∷ sources) [] fit = tt
typed_sources (table ∷ sources) (bag ∷ bags) fit = (fit.0, typed_sources sources bags fit.1)

-- with a table in which no row is
pub typed_with : (sources : List TableDef) (bags : List Rows) (sink : TableDef) → RowsFit sources bags → AreTyped (tables_of (with_rows sources bags ++ filled sink none ∷ []))
typed_with [] bags sink fit = (each-none row_total row_exact (Fits (column_types sink)), tt)
typed_with (table ∷ sources) [] sink fit = absurd fit
typed_with (table ∷ sources) (bag ∷ bags) sink fit = (fit.0, typed_with sources bags sink fit.1)
