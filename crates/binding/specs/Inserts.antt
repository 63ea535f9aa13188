-- Binding of an INSERT: its query over the catalogue's tables other than the sink, and the sink's columns.
use Rattle.std.specs.Prelude.{ℕ, ◌==◌, Bool, true, false, not, ◌||◌, List, [], ◌∷◌, ◌++◌, filter, length, Ok}
use Rattle.std.specs.List.{find}
use Rattle.std.specs.Str.{bytes_eq}
use Rattle.ct_value.specs.declared.codes.ScriptCode.TheVariants.{UnknownTable, SinkShape}
use Rattle.ct_catalog.specs.declared.table.TableDef.{TableDef}
use Rattle.ct_catalog.specs.Columns.{column_types}
use Rattle.rel_algebra.specs.GoesInto.{go_into}
use Rattle.rel_algebra.specs.Rel.{Rel, Rels, Scan, One, Two, Many, no_rels, rel_and}
use Rattle.sql_syntax.specs.Tree.{Query, Text}
use Rattle.query_answer.specs.Answer.{types}
use Rattle.binding.specs.Checked.{Checked, ◌>>=◌, or_code, refused_if}
use Rattle.binding.specs.Queries.{Relation, query_bound}

abbrev pub is_table : Text → TableDef → Bool
is_table name table = bytes_eq name table.name

-- the tables that a query may read
abbrev pub sources_for : List TableDef → Text → List TableDef
sources_for tables sink = filter (λ table. not (is_table sink table)) tables

abbrev mutual
  -- whether a table is read
  pub scans : ℕ → Rel → Bool
  scans n (Scan source) = n == source
  scans n (One how input) = scans n input
  scans n (Two how left right) = scans n left || scans n right
  scans n (Many inputs) = any_scans n inputs

  pub any_scans : ℕ → Rels → Bool
  any_scans n no_rels = false
  any_scans n (rel_and input inputs) = scans n input || any_scans n inputs

-- what an INSERT is bound to: the query over its sources, and the sink
pub record Inserted : Type 0 where
  pub query : Relation
  pub sources : List TableDef
  pub sink : TableDef

-- while the query is bound the sink stands behind the sources; last it is refused that the query reads it
abbrev pub sunk : Bool → List TableDef → Query → TableDef → Checked Inserted
sunk free sources query sink =
    query_bound free (sources ++ sink ∷ []) query >>= λ x.
    refused_if (scans (length sources) x.rel || not (go_into (types x.scope) (column_types sink))) SinkShape
    (Ok (record { query = x; sources = sources; sink = sink }))

-- a rank without a bound is refused behind all else: so the query is bound with free ranks first
abbrev pub into_sink : List TableDef → Query → TableDef → Checked Inserted
into_sink sources query sink = sunk true sources query sink >>= λ x. sunk false sources query sink

-- the INSERT into a table, over the tables of the catalogue
abbrev pub insert_bound : List TableDef → Text → Query → Checked Inserted
insert_bound tables name query = or_code UnknownTable (find (is_table name) tables) >>= into_sink (sources_for tables name) query
