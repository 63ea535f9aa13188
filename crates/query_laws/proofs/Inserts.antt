-- An INSERT: its query over the sources and the sink doesn't scan the sink.
use Rattle.std.proofs.Common.{◌≡◌, Bool, true, false, ◌||◌, not, List, [], ◌∷◌, ◌++◌, map, length, Option, Some, None, cond, Ok, Err, IfOk, refl, sym, ap, ◌∙◌, subst, find}
use Rattle.ct_value.specs.Bag.{none}
use Rattle.ct_value.specs.Order.{row_total, row_exact}
use Rattle.ct_value.specs.declared.codes.ScriptCode.TheVariants.{UnknownTable, SinkShape}
use Rattle.ct_catalog.specs.declared.table.TableDef.{TableDef}
use Rattle.ct_change.specs.Changelog.{Rows}
use Rattle.rel_algebra.proofs.laws.Bags.{each-none}
use Rattle.rel_algebra.specs.Answer.{answer, types_in}
use Rattle.rel_algebra.specs.Types.{columns_of}
use Rattle.sql_syntax.specs.Tree.{Query, Text}
use Rattle.query_answer.specs.Answer.{TableRows, types}
use Rattle.query_answer.specs.Answer as a
use Rattle.binding.specs.Checked.{Checked, ◌>>=◌, or_code}
use Rattle.binding.specs.Inserts.{Inserted, insert_bound, into_sink, sunk, is_table, sources_for, scans}
use Rattle.rel_algebra.specs.GoesInto.{go_into}
use Rattle.ct_catalog.specs.Columns.{column_types}
use Rattle.binding.specs.Queries.{Relation, query_bound}
use Rattle.query_laws.specs.Statement.{HaveWidths, declared, filled, table_of, tables_of}
use Rattle.query_laws.proofs.Clauses.{Fine}
use Rattle.query_laws.proofs.Lists.{map_length}
use Rattle.query_laws.proofs.Options.{then, weaker, map_append}
use Rattle.query_laws.proofs.Queries.{Right, query_right}
use Rattle.query_laws.proofs.Sources.{answer_without, columns_without, none_of}

-- ---- declarations alone, with no rows

abbrev pub empty : List TableDef → List TableRows
empty sources = map (λ d. filled d none) sources

pub empty_declared : (sources : List TableDef) → declared (empty sources) ≡ sources
empty_declared [] = refl
empty_declared (d ∷ sources) = ap (λ ds. d ∷ ds) (empty_declared sources)

pub empty_wide : (sources : List TableDef) → HaveWidths (tables_of (empty sources))
empty_wide [] = tt
empty_wide (d ∷ sources) = (each-none row_total row_exact (λ row. length row ≡ length (map (λ c. c.ty) d.cols)), empty_wide sources)

pub empty_types : (sources : List TableDef) → types_in (tables_of (empty sources)) ≡ map column_types sources
empty_types [] = refl
empty_types (d ∷ sources) = ap (λ ts. column_types d ∷ ts) (empty_types sources)

-- what is bound over declarations
pub bound_fine : (sources : List TableDef) (query : Query) → IfOk (query_bound false sources query) (λ x. Fine (tables_of (empty sources)) x.rel (types x.scope))
bound_fine sources query =
    subst (λ ds. IfOk (query_bound false ds query) (λ x. Fine (tables_of (empty sources)) x.rel (types x.scope))) (empty_declared sources)
    (weaker (query_bound false (declared (empty sources)) query) _ _ (query_right (empty sources) (empty_wide sources) query) (λ x h. h.1))

-- ---- into a sink

not_true : (b : Bool) → not b ≡ false → b ≡ true
not_true true e = refl
not_true false e = absurd (cc)

-- what is known of an INSERT that is accepted
pub record Accepted (query : Query) (x : Inserted) : Type 0 where
  pub query_is : query_bound false (x.sources ++ x.sink ∷ []) query ≡ Ok x.query
  pub unread : scans (length x.sources) x.query.rel ≡ false
  pub goes : go_into (types x.query.scope) (column_types x.sink) ≡ true

sunk_accepted : (sources : List TableDef) (query : Query) (sink : TableDef) → IfOk (sunk false sources query sink) (Accepted query)
sunk_accepted sources query sink = go (query_bound false (sources ++ sink ∷ []) query) refl
  where
    tested : (x : Relation) → query_bound false (sources ++ sink ∷ []) query ≡ Ok x → (t : Bool) → (scans (length sources) x.rel || not (go_into (types x.scope) (column_types sink))) ≡ t
        → IfOk (cond t (Err SinkShape) (Ok (record { query = x; sources = sources; sink = sink }))) (Accepted query)
    tested x q true e = tt
    tested x q false e =
        let p = none_of (scans (length sources) x.rel) (not (go_into (types x.scope) (column_types sink))) e in
        record { query_is = q; unread = p.0; goes = not_true (go_into (types x.scope) (column_types sink)) p.1 }

    go : (r : Checked Relation) → query_bound false (sources ++ sink ∷ []) query ≡ r
        → IfOk (r >>= λ x. cond (scans (length sources) x.rel || not (go_into (types x.scope) (column_types sink))) (Err SinkShape) (Ok (record { query = x; sources = sources; sink = sink }))) (Accepted query)
    go (Err code) q = tt
    go (Ok x) q = tested x q (scans (length sources) x.rel || not (go_into (types x.scope) (column_types sink))) refl

sink_accepted : (sources : List TableDef) (query : Query) (sink : TableDef) → IfOk (into_sink sources query sink) (Accepted query)
sink_accepted sources query sink = then (sunk true sources query sink) _ (Accepted query) (λ x e. sunk_accepted sources query sink)

pub insert_accepted : (tables : List TableDef) (name : Text) (query : Query) → IfOk (insert_bound tables name query) (Accepted query)
insert_accepted tables name query = go (find (is_table name) tables)
  where
    go : (o : Option TableDef) → IfOk (or_code UnknownTable o >>= into_sink (sources_for tables name) query) (Accepted query)
    go None = tt
    go (Some sink) = sink_accepted (sources_for tables name) query sink

-- what holds where it is accepted
of_ok : {A : Type 0} (r : Checked A) (x : A) (P : A → Type 0) → IfOk r P → r ≡ Ok x → P x
of_ok (Ok y) x P h e = let i : y ≡ x = cc in subst P i h
of_ok (Err code) x P h e = absurd (cc)

pub insert_rows : (query : Query) (x : Inserted) → Accepted query x → (sources : List TableRows) (rows : Rows) → declared sources ≡ x.sources → HaveWidths (tables_of (sources ++ filled x.sink rows ∷ []))
    → answer (tables_of sources) x.query.rel ≡ (a.answer (sources ++ filled x.sink rows ∷ []) query).rows
insert_rows query x h sources rows e fit =
    let all = sources ++ filled x.sink rows ∷ [] in
    let same : declared all ≡ x.sources ++ x.sink ∷ [] = map_append (λ t. t.table) sources (filled x.sink rows ∷ []) ∙ ap (λ (ds : List TableDef). ds ++ x.sink ∷ []) e in
    let right = of_ok (query_bound false (declared all) query) x.query (λ y. Right all fit y (a.answer all query)) (query_right all fit query) (ap (λ ds. query_bound false ds query) same ∙ h.query_is) in
    let long : length (tables_of sources) ≡ length x.sources = map_length table_of sources ∙ (sym (map_length (λ t. t.table) sources) ∙ ap length e) in
    let unread : scans (length (tables_of sources)) x.query.rel ≡ false = ap (λ n. scans n x.query.rel) long ∙ h.unread in
    sym (ap (λ ts. answer ts x.query.rel) (map_append table_of sources (filled x.sink rows ∷ [])) ∙ answer_without (tables_of sources) (table_of (filled x.sink rows)) x.query.rel unread)
    ∙ ap (λ w. w.rows) right.0

pub insert_fine : (query : Query) (x : Inserted) → Accepted query x → Fine (tables_of (empty (x.sources ++ x.sink ∷ []))) x.query.rel (types x.query.scope)
insert_fine query x h = of_ok (query_bound false (x.sources ++ x.sink ∷ []) query) x.query (λ y. Fine (tables_of (empty (x.sources ++ x.sink ∷ []))) y.rel (types y.scope)) (bound_fine (x.sources ++ x.sink ∷ []) query) h.query_is

pub insert_typed : (query : Query) (x : Inserted) → Accepted query x → columns_of (map column_types x.sources) x.query.rel ≡ Some (types x.query.scope)
insert_typed query x h =
    let tables = tables_of (empty x.sources) in
    let last = table_of (filled x.sink none) in
    let whole : tables_of (empty (x.sources ++ x.sink ∷ [])) ≡ tables ++ last ∷ [] = ap tables_of (map_append (λ d. filled d none) x.sources (x.sink ∷ [])) ∙ map_append table_of (empty x.sources) (filled x.sink none ∷ []) in
    let long : length tables ≡ length x.sources = map_length table_of (empty x.sources) ∙ map_length (λ d. filled d none) x.sources in
    sym (ap (λ ts. columns_of ts x.query.rel) (empty_types x.sources))
    ∙ sym (columns_without tables last x.query.rel (ap (λ n. scans n x.query.rel) long ∙ h.unread))
    ∙ ap (λ ts. columns_of (types_in ts) x.query.rel) (sym whole)
    ∙ (insert_fine query x h).typed
