-- The theorems of this crate, put together of its lemmas.
use Rattle.std.proofs.Common.{false, ap, sym, ◌∙◌}
use Rattle.binding.specs.Queries.{query_bound}
use Rattle.query_laws.specs.Statement.{HaveWidths, declared, tables_of, has_idle_project, filled}
use Rattle.rel_algebra.specs.Unions.{has_full_unions}
use Rattle.query_laws.proofs.Options.{weaker}
use Rattle.query_laws.proofs.Queries.{query_right}
use Rattle.std.specs.Prelude.{◌≡◌, List, IfOk, Some, map, true, ◌++◌, ◌∷◌, []}
use Rattle.rel_algebra.specs.Answer.{answer}
use Rattle.sql_syntax.specs.Tree.{Query, Text}
use Rattle.query_answer.specs.Answer.{TableRows, answer as query_answer, types}
use Rattle.rel_algebra.specs.Types.{columns_of}
use Rattle.query_laws.proofs.Inserts.{bound_fine, empty_types, insert_accepted, insert_rows, insert_typed, insert_fine}
use Rattle.ct_catalog.specs.declared.table.TableDef.{TableDef}
use Rattle.binding.specs.Inserts.{insert_bound}
use Rattle.rel_algebra.specs.GoesInto.{go_into}
use Rattle.ct_catalog.specs.Columns.{column_types}
use Rattle.ct_change.specs.Changelog.{Rows}

-- What an accepted query is bound to has the query's answer, out of range included, and the query's columns with their names.
pub binding_keeps_the_answer_rows : (tables : List TableRows) (query : Query) → HaveWidths (tables_of tables) → IfOk (query_bound false (declared tables) query) (λ bound. answer (tables_of tables) bound.rel ≡ (query_answer tables query).rows)
binding_keeps_the_answer_rows tables query fit = weaker (query_bound false (declared tables) query) _ _ (query_right tables fit query) (λ x h. ap (λ w. w.rows) h.0)

-- What an accepted query is bound to has the query's answer, out of range included, and the query's columns with their names.
pub binding_keeps_the_answer_columns : (tables : List TableRows) (query : Query) → HaveWidths (tables_of tables) → IfOk (query_bound false (declared tables) query) (λ bound. bound.scope ≡ (query_answer tables query).scope)
binding_keeps_the_answer_columns tables query fit = weaker (query_bound false (declared tables) query) _ _ (query_right tables fit query) (λ x h. ap (λ w. w.scope) h.0)

-- It is well-typed over the tables' columns, with the types of the query's columns; each Union of it has two inputs or more, and no
-- Project of it has its input's columns in place as items.
pub bound_queries_are_well_typed_columns : (sources : List TableDef) (query : Query) → IfOk (query_bound false sources query) (λ bound. columns_of (map column_types sources) bound.rel ≡ Some (types bound.scope))
bound_queries_are_well_typed_columns sources query = weaker (query_bound false sources query) _ _ (bound_fine sources query) (λ x f. sym (ap (λ ts. columns_of ts x.rel) (empty_types sources)) ∙ f.typed)

-- It is well-typed over the tables' columns, with the types of the query's columns; each Union of it has two inputs or more, and no
-- Project of it has its input's columns in place as items.
pub bound_queries_are_well_typed_unions : (sources : List TableDef) (query : Query) → IfOk (query_bound false sources query) (λ bound. has_full_unions bound.rel ≡ true)
bound_queries_are_well_typed_unions sources query = weaker (query_bound false sources query) _ _ (bound_fine sources query) (λ x f. f.unions)

-- It is well-typed over the tables' columns, with the types of the query's columns; each Union of it has two inputs or more, and no
-- Project of it has its input's columns in place as items.
pub bound_queries_are_well_typed_projects : (sources : List TableDef) (query : Query) → IfOk (query_bound false sources query) (λ bound. has_idle_project (map column_types sources) bound.rel ≡ false)
bound_queries_are_well_typed_projects sources query = weaker (query_bound false sources query) _ _ (bound_fine sources query) (λ x f. sym (ap (λ ts. has_idle_project ts x.rel) (empty_types sources)) ∙ f.projects)

-- What the query of an accepted INSERT is bound to has, over the sources, the answer that the query has over the sources and the
-- sink, whatever rows are in the sink.
pub inserts_keep_the_answer : (tables : List TableDef) (name : Text) (query : Query) (sources : List TableRows) (rows : Rows) → IfOk (insert_bound tables name query) (λ bound. declared sources ≡ bound.sources → HaveWidths (tables_of (sources ++ filled bound.sink rows ∷ [])) → answer (tables_of sources) bound.query.rel ≡ (query_answer (sources ++ filled bound.sink rows ∷ []) query).rows)
inserts_keep_the_answer tables name query sources rows = weaker (insert_bound tables name query) _ _ (insert_accepted tables name query) (λ x h e fit. insert_rows query x h sources rows e fit)

-- It is well-typed over the sources' columns, each Union of it has two inputs or more, no Project of it has its input's columns in place
-- as items, and its columns go into the sink's.
pub bound_inserts_are_well_typed_columns : (tables : List TableDef) (name : Text) (query : Query) → IfOk (insert_bound tables name query) (λ bound. columns_of (map column_types bound.sources) bound.query.rel ≡ Some (types bound.query.scope))
bound_inserts_are_well_typed_columns tables name query = weaker (insert_bound tables name query) _ _ (insert_accepted tables name query) (λ x h. insert_typed query x h)

-- It is well-typed over the sources' columns, each Union of it has two inputs or more, no Project of it has its input's columns in place
-- as items, and its columns go into the sink's.
pub bound_inserts_are_well_typed_unions : (tables : List TableDef) (name : Text) (query : Query) → IfOk (insert_bound tables name query) (λ bound. has_full_unions bound.query.rel ≡ true)
bound_inserts_are_well_typed_unions tables name query = weaker (insert_bound tables name query) _ _ (insert_accepted tables name query) (λ x h. (insert_fine query x h).unions)

-- It is well-typed over the sources' columns, each Union of it has two inputs or more, no Project of it has its input's columns in place
-- as items, and its columns go into the sink's.
pub bound_inserts_are_well_typed_sink : (tables : List TableDef) (name : Text) (query : Query) → IfOk (insert_bound tables name query) (λ bound. go_into (types bound.query.scope) (column_types bound.sink) ≡ true)
bound_inserts_are_well_typed_sink tables name query = weaker (insert_bound tables name query) _ _ (insert_accepted tables name query) (λ x h. h.goes)
