-- The theorem of this crate: an INSERT is bound in two walks.
use Rattle.std.proofs.Common.{◌≡◌, Bool, true, false, ◌||◌, not, cond, List, [], ◌∷◌, ◌++◌, length, Option, Some, None, Ok, Err, refl, sym, ap, ◌∙◌, inl, inr}
use Rattle.std.specs.List.{find}
use Rattle.ct_value.specs.declared.codes.ScriptCode.TheVariants.{SinkShape, UnknownTable}
use Rattle.ct_catalog.specs.Columns.{column_types}
use Rattle.ct_catalog.specs.declared.table.TableDef.{TableDef}
use Rattle.rel_algebra.specs.GoesInto.{go_into}
use Rattle.sql_syntax.specs.Tree.{Query, Text}
use Rattle.query_answer.specs.Answer.{types}
use Rattle.binding.specs.Checked.{Checked, ◌>>=◌, or_code}
use Rattle.binding.specs.Inserts.{Inserted, insert_bound, into_sink, is_table, scans, sources_for}
use Rattle.binding.specs.Queries.{Relation, query_bound}
use Rattle.binder.specs.Bound.{bound_of, names_bound, sink_bound}
use Rattle.rewrite.specs.Rewritten.{inserted}
use Rattle.rewrite.proofs.Again.{Again, query_again}

module _ (sources : List TableDef) (query : Query) (sink : TableDef) where
  abbrev tables : List TableDef
  tables = sources ++ sink ∷ []

  abbrev made : Relation → Inserted
  made x = record { query = x; sources = sources; sink = sink }

  abbrev misfits : Relation → Bool
  misfits x = scans (length sources) x.rel || not (go_into (types x.scope) (column_types sink))

  abbrev taken : Bool → Relation → Checked Inserted
  taken test x = cond test (Err SinkShape) (Ok (made x))

  abbrev all_taken : Checked Relation → Checked Inserted
  all_taken r = r >>= λ x. taken (misfits x) x

  -- a query that goes into its sink in the first walk does so in the second, which is the same or is refused
  again : (x : Relation) (s : Checked Relation) → Again (Ok x) s → query_bound false tables query ≡ s → misfits x ≡ false → all_taken s ≡ inserted (bound_of query (made x))
  again x s (inl k) e fits = ap all_taken k ∙ ap (λ test. taken test x) fits ∙ ap (λ r. r >>= (λ y. Ok y.rel) >>= λ rel. Ok (record { query = record { rel = rel; scope = x.scope }; sources = sources; sink = sink })) (sym (e ∙ k))
  again x s (inr k) e fits = ap all_taken k ∙ ap (λ r. r >>= (λ y. Ok y.rel) >>= λ rel. Ok (record { query = record { rel = rel; scope = x.scope }; sources = sources; sink = sink })) (sym (e ∙ k))

  tested : (x : Relation) (s : Checked Relation) → Again (Ok x) s → query_bound false tables query ≡ s → (test : Bool) → misfits x ≡ test
      → (taken test x >>= λ y. all_taken s) ≡ (taken test x >>= (λ y. Ok (bound_of query y)) >>= inserted)
  tested x s h e true fits = refl
  tested x s h e false fits = again x s h e fits

  walks : (r s : Checked Relation) → Again r s → query_bound false tables query ≡ s → (all_taken r >>= λ y. all_taken s) ≡ (all_taken r >>= (λ y. Ok (bound_of query y)) >>= inserted)
  walks (Ok x) s h e = tested x s h e (misfits x) refl
  walks (Err code) s h e = refl

  pub sink_walks : into_sink sources query sink ≡ (sink_bound sources query sink >>= inserted)
  sink_walks = walks (query_bound true tables query) (query_bound false tables query) (query_again tables query) refl

-- What an INSERT is bound to, and each of its refusals: its names are bound first, and then its query is rewritten to the algebra.
pub two_walks : (tables : List TableDef) (name : Text) (query : Query) → insert_bound tables name query ≡ (names_bound tables name query >>= inserted)
two_walks tables name query = go (find (is_table name) tables)
  where
    go : (o : Option TableDef) → (or_code UnknownTable o >>= into_sink (sources_for tables name) query) ≡ (or_code UnknownTable o >>= sink_bound (sources_for tables name) query >>= inserted)
    go None = refl
    go (Some sink) = sink_walks (sources_for tables name) query sink
