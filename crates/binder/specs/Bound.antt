-- The names of an INSERT are bound: the walk in which ranks are free, so that each refusal is there but that of a rank without a bound.
use Rattle.std.specs.Prelude.{true, List, [], ◌∷◌, ◌++◌, Ok}
use Rattle.std.specs.List.{find}
use Rattle.ct_value.specs.declared.codes.ScriptCode.TheVariants.{UnknownTable}
use Rattle.ct_catalog.specs.declared.table.TableDef.{TableDef}
use Rattle.sql_syntax.specs.Tree.{Query, Text}
use Rattle.query_answer.specs.Names.{Scope}
use Rattle.binding.specs.Checked.{Checked, ◌>>=◌, or_code}
use Rattle.binding.specs.Inserts.{Inserted, is_table, sources_for, sunk}
use Rattle.binding.specs.Queries.{query_bound}

-- the columns that a query over these tables has
abbrev pub columns_bound : List TableDef → Query → Checked Scope
columns_bound tables query = query_bound true tables query >>= λ x. Ok x.scope

-- a query whose names are bound, over its sources with the sink behind them
pub record BoundQuery : Type 0 where
  pub query : Query
  pub tables : List TableDef
  pub columns : Scope

-- an INSERT whose names are bound
pub record Bound : Type 0 where
  pub query : BoundQuery
  pub sources : List TableDef
  pub sink : TableDef

abbrev pub bound_of : Query → Inserted → Bound
bound_of query x = record { query = record { query = query; tables = x.sources ++ x.sink ∷ []; columns = x.query.scope }; sources = x.sources; sink = x.sink }

-- the names of a query that goes into a sink
abbrev pub sink_bound : List TableDef → Query → TableDef → Checked Bound
sink_bound sources query sink = sunk true sources query sink >>= λ x. Ok (bound_of query x)

-- those of the INSERT into a table, over the tables of the catalogue
abbrev pub names_bound : List TableDef → Text → Query → Checked Bound
names_bound tables name query = or_code UnknownTable (find (is_table name) tables) >>= sink_bound (sources_for tables name) query
