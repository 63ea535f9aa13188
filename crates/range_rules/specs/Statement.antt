-- What a query without arithmetic is bound to calculates nothing.
use Rattle.std.specs.Prelude.{◌≡◌, Bool, true, false, List, Ok}
use Rattle.ct_catalog.specs.declared.table.TableDef.{TableDef}
use Rattle.sql_syntax.specs.Tree.{Query, Text}
use Rattle.range_rules.specs.Arithmetic.{in_query}
use Rattle.range_rules.specs.Tame.{is_tame_rel}
use Rattle.binding.specs.Inserts.{Inserted, insert_bound}
use Rattle.binding.specs.Queries.{Relation, query_bound}

abbrev pub QueriesAreTame : Type 0
QueriesAreTame = (free : Bool) (sources : List TableDef) (query : Query) (bound : Relation) → query_bound free sources query ≡ Ok bound → in_query query ≡ false → is_tame_rel bound.rel ≡ true

abbrev pub InsertsAreTame : Type 0
InsertsAreTame = (tables : List TableDef) (name : Text) (query : Query) (bound : Inserted) → insert_bound tables name query ≡ Ok bound → in_query query ≡ false → is_tame_rel bound.query.rel ≡ true
