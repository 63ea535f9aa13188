-- The names of an INSERT, step by step.
use Rattle.std.proofs.Common.{◌≡◌, ◌++◌, ◌∷◌, [], true, false, List, Some, Ok, Err, length, ap, ◌∙◌, sym}
use Rattle.std.specs.Prelude.{cond}
use Rattle.std.specs.List.{find}
use Rattle.ct_value.specs.declared.codes.ScriptCode.{ScriptCode}
use Rattle.ct_value.specs.declared.codes.ScriptCode.TheVariants.{SinkShape, UnknownTable}
use Rattle.ct_catalog.specs.declared.table.TableDef.{TableDef}
use Rattle.sql_syntax.specs.Tree.{Query, Text}
use Rattle.binding.specs.Checked.{Checked, ◌>>=◌, or_code}
use Rattle.binding.specs.Inserts.{Inserted, is_table, sources_for}
use Rattle.binding.specs.Queries.{Relation, query_bound}
use Rattle.binder.specs.Bound.{Bound, bound_of, columns_bound, names_bound, sink_bound}
use Rattle.binder.specs.Steps.{misfits}

module _ (sources tables : List TableDef) (query : Query) (sink : TableDef) (tables_are : tables ≡ sources ++ sink ∷ []) where
  abbrev made : Relation → Inserted
  made x = record { query = x; sources = sources; sink = sink }

  abbrev taken : Relation → Checked Inserted
  taken x = cond (misfits (length sources) x sink) (Err SinkShape) (Ok (made x))

  abbrev as_bound : Inserted → Checked Bound
  as_bound x = Ok (bound_of query x)

  over : (r : Checked Relation) → query_bound true tables query ≡ r → sink_bound sources query sink ≡ (r >>= taken >>= as_bound)
  over r h = ap (λ r. r >>= taken >>= as_bound) (ap (λ ts. query_bound true ts query) (sym tables_are) ∙ h)

  pub not_bound : (code : ScriptCode) → query_bound true tables query ≡ Err code → sink_bound sources query sink ≡ Err code
  not_bound code h = over (Err code) h

  pub too_wide : (x : Relation) → query_bound true tables query ≡ Ok x → misfits (length sources) x sink ≡ true → sink_bound sources query sink ≡ Err SinkShape
  too_wide x h e = over (Ok x) h ∙ ap (λ b. cond b (Err SinkShape) (Ok (made x)) >>= as_bound) e

  pub fits : (x : Relation) → query_bound true tables query ≡ Ok x → misfits (length sources) x sink ≡ false
      → sink_bound sources query sink ≡ Ok (record { query = record { query = query; tables = tables; columns = x.scope }; sources = sources; sink = sink })
  fits x h e =
      over (Ok x) h ∙ ap (λ b. cond b (Err SinkShape) (Ok (made x)) >>= as_bound) e
      ∙ ap (λ ts. Ok (record { query = record { query = query; tables = ts; columns = x.scope }; sources = sources; sink = sink })) (sym tables_are)

pub has_columns : (tables : List TableDef) (query : Query) (x : Relation) → query_bound true tables query ≡ Ok x → columns_bound tables query ≡ Ok x.scope
has_columns tables query x h = ap (λ r. r >>= λ y. Ok y.scope) h

pub found_sink : (tables : List TableDef) (name : Text) (query : Query) (sink copy : TableDef) (sources : List TableDef) → find (is_table name) tables ≡ Some sink → copy ≡ sink → sources ≡ sources_for tables name
    → names_bound tables name query ≡ sink_bound sources query copy
found_sink tables name query sink copy sources h e k =
    ap (λ o. or_code UnknownTable o >>= sink_bound (sources_for tables name) query) h ∙ (λ j. sink_bound (sym k j) query (sym e j))
