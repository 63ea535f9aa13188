-- What the theorem speaks of: the tables of a query as the algebra sees them, and trees whose unions have two inputs or more.
use Rattle.std.specs.Prelude.{◌≡◌, Bool, false, List, [], ◌∷◌, ◌++◌, map, length}
use Rattle.std.specs.Option.{unwrap_or}
use Rattle.std.specs.List.{AllByRecursion}
use Rattle.ct_value.specs.declared.ty.ColTy.{ColTy}
use Rattle.ct_expr.specs.Expr.{Expr}
use Rattle.rel_algebra.specs.Answer.{Table, answer}
use Rattle.rel_algebra.specs.Sums.{Each}
use Rattle.rel_algebra.specs.Rel.{Rel, Rels, Project}
use Rattle.rel_algebra.specs.Types.{columns_of}
use Rattle.rel_algebra.specs.Walks.{some_part, some_part_of_any}
use Rattle.ct_catalog.specs.declared.table.TableDef.{TableDef}
use Rattle.ct_change.specs.Changelog.{Rows}
use Rattle.sql_syntax.specs.Tree.{Query}
use Rattle.query_answer.specs.Answer.{TableRows, answer as query_answer}
use Rattle.binding.specs.Inserts.{Inserted}
use Rattle.binding.specs.Queries.{is_in_place}

-- the types of a declared table's columns, and its rows
abbrev pub table_of : TableRows → Table
table_of x = record { columns = map (λ c. c.ty) x.table.cols; rows = x.rows }

abbrev pub tables_of : List TableRows → List Table
tables_of tables = map table_of tables

-- each row of a table has as many values as the table has columns
abbrev pub HaveWidths : List Table → Type 0
HaveWidths tables = AllByRecursion (λ table. Each (λ row. length row ≡ length table.columns) table.rows) tables

-- a Project whose items are its input's columns in place
abbrev pub is_idle : List (List ColTy) → Rel → List Expr → Bool
is_idle types input items = is_in_place 0 (length (unwrap_or (columns_of types input) [])) items

abbrev pub is_idle_project : List (List ColTy) → Rel → Bool
is_idle_project types (Project input items) = is_idle types input items
is_idle_project types _ = false

-- some Project is such
abbrev pub has_idle_project : List (List ColTy) → Rel → Bool
has_idle_project types = some_part (is_idle_project types)

abbrev pub any_has_idle_project : List (List ColTy) → Rels → Bool
any_has_idle_project types = some_part_of_any (is_idle_project types)

-- the declarations alone
abbrev pub declared : List TableRows → List TableDef
declared tables = map (λ x. x.table) tables

-- a table with these rows
abbrev pub filled : TableDef → Rows → TableRows
filled table rows = record { table = table; rows = rows }

-- a statement's tables as the query sees them: the sources, and the sink with these rows
abbrev pub with_sink : List TableRows → TableDef → Rows → List TableRows
with_sink sources sink rows = sources ++ filled sink rows ∷ []

-- what a statement is bound to has, over its sources, the answer that the query has over them and the sink
abbrev pub KeepsAnswer : Query → List TableRows → Rows → Inserted → Type 0
KeepsAnswer query sources rows bound = declared sources ≡ bound.sources → HaveWidths (tables_of (with_sink sources bound.sink rows)) → answer (tables_of sources) bound.query.rel ≡ (query_answer (with_sink sources bound.sink rows) query).rows
