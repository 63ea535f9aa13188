-- What an INSERT is bound to has its sources and its sink of the tables that are declared.
use Rattle.std.specs.Prelude.{◌≡◌, ◌||◌, Bool, not, List, ◌++◌, length, Option, Ok}
use Rattle.std.proofs.Common.{true, false, [], ◌∷◌, Some, None, Err, refl, sym, ap, ◌∙◌}
use Rattle.std.specs.List.{find}
use Rattle.ct_value.specs.declared.codes.ScriptCode.TheVariants.{UnknownTable, SinkShape}
use Rattle.sql_syntax.specs.Tree.{Query, Text}
use Rattle.ct_catalog.specs.Columns.{column_types}
use Rattle.ct_catalog.specs.declared.table.TableDef.{TableDef}
use Rattle.rel_algebra.specs.GoesInto.{go_into}
use Rattle.query_answer.specs.Answer.{types}
use Rattle.binding.specs.Checked.{Checked, ◌>>=◌, or_code, refused_if}
use Rattle.binding.specs.Inserts.{Inserted, insert_bound, into_sink, is_table, scans, sources_for, sunk}
use Rattle.binding.specs.Queries.{Relation, query_bound}

-- what an INSERT is bound to has its sources and its sink of the tables
pub record IsOf (tables : List TableDef) (name : Text) (bound : Inserted) : Type 0 where
  pub sources : bound.sources ≡ sources_for tables name
  pub sink : find (is_table name) tables ≡ Some bound.sink

of_test : (tables : List TableDef) (name : Text) (sink : TableDef) → find (is_table name) tables ≡ Some sink → (x : Relation) (test : Bool) (bound : Inserted)
    → refused_if test SinkShape (Ok (record { query = x; sources = sources_for tables name; sink = sink })) ≡ Ok bound → IsOf tables name bound
of_test tables name sink found x true bound e = absurd (cc (e))
of_test tables name sink found x false bound e =
    let same : record { query = x; sources = sources_for tables name; sink = sink } ≡ bound = cc (e) in
    record { sources = sym (ap (λ (b : Inserted). b.sources) same); sink = found ∙ ap (λ (b : Inserted). Some b.sink) same }

of_query : (tables : List TableDef) (name : Text) (sink : TableDef) → find (is_table name) tables ≡ Some sink → (o : Checked Relation) (bound : Inserted)
    → (o >>= λ x. refused_if (scans (length (sources_for tables name)) x.rel || not (go_into (types x.scope) (column_types sink))) SinkShape (Ok (record { query = x; sources = sources_for tables name; sink = sink }))) ≡ Ok bound → IsOf tables name bound
of_query tables name sink found (Err code) bound e = absurd (cc (e))
of_query tables name sink found (Ok x) bound e = of_test tables name sink found x (scans (length (sources_for tables name)) x.rel || not (go_into (types x.scope) (column_types sink))) bound e

-- what a step behind another answers
behind : {A B : Type 0} (r : Checked A) (s : Checked B) (x : B) → (r >>= λ y. s) ≡ Ok x → s ≡ Ok x
behind (Ok y) s x e = e
behind (Err code) s x e = absurd (cc)

of_sink : (tables : List TableDef) (name : Text) (query : Query) (o : Option TableDef) → find (is_table name) tables ≡ o → (bound : Inserted) → (or_code UnknownTable o >>= into_sink (sources_for tables name) query) ≡ Ok bound → IsOf tables name bound
of_sink tables name query None found bound e = absurd (cc (e))
of_sink tables name query (Some sink) found bound e =
    of_query tables name sink found (query_bound false (sources_for tables name ++ sink ∷ []) query) bound (behind (sunk true (sources_for tables name) query sink) (sunk false (sources_for tables name) query sink) bound e)

pub of_insert : (tables : List TableDef) (name : Text) (query : Query) (bound : Inserted) → insert_bound tables name query ≡ Ok bound → IsOf tables name bound
of_insert tables name query bound e = of_sink tables name query (find (is_table name) tables) refl bound e
