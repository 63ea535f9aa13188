-- The rows of a query's answer are those that are computed on lists, of the tree that the query is bound to.
use Rattle.std.proofs.Common.{◌≡◌, Bool, true, false, ◌&&◌, List, [], ◌∷◌, map, Option, Some, None, Ok, Err, IfOk, is_ok, refl, sym, ap, ◌∙◌, option_map}
use Rattle.std.specs.List.{list_all, AllByRecursion}
use Rattle.ct_value.specs.Bag.{items, bag_of}
use Rattle.ct_value.specs.Order.{row_cmp, row_total, row_exact}
use Rattle.ct_value.specs.declared.row.Row.{Row}
use Rattle.ct_value.specs.declared.ty.ColTy.{ColTy}
use Rattle.ct_field.specs.Typed.{row_fits}
use Rattle.rel_algebra.specs.Clauses.{Fits}
use Rattle.rel_algebra.specs.Sums.{Each}
use Rattle.rel_algebra.proofs.laws.Bags.{each-bag_of}
use Rattle.rel_algebra.proofs.laws.Fits.{first, second}
use Rattle.rel_algebra.specs.Answer.{answer}
use Rattle.rel_algebra.specs.Rel.{Rel}
use Rattle.sql_syntax.specs.Tree.{Query}
use Rattle.query_answer.specs.Answer.{TableRows, answer as query_answer}
use Rattle.binding.specs.Checked.{Checked, ◌>>=◌}
use Rattle.ct_catalog.specs.Columns.{column_types}
use Rattle.binding.specs.Queries.{Relation, query_bound}
use Rattle.query_laws.specs.Statement.{HaveWidths, declared, tables_of}
use Rattle.query_laws.proofs.laws.Widths.{typed_are_wide}
use Rattle.query_examples.specs.Listed.{ListedTable, listed, sorted}
use Rattle.query_examples.specs.Listed as l
use Rattle.query_examples.proofs.laws.Computed.{items-bag_of}
use Rattle.query_examples.specs.Answered.{Answered, tables_for, rows_told}
use Rattle.query_examples.specs.Checks.{query_text, bound_text}
use Rattle.query_examples.specs.Tables.{all, t, u, o}

abbrev pub listed_for : Answered → List ListedTable
listed_for e = record { columns = column_types t; rows = e.of_t } ∷ record { columns = column_types u; rows = e.of_u } ∷ record { columns = column_types o; rows = [] } ∷ []

-- the answer, computed
abbrev pub computed : Answered → Checked Relation → Checked (Option (List Row))
computed e (Ok x) = Ok (option_map (sorted row_cmp) (listed (listed_for e) x.rel))
computed e (Err code) = Err code

abbrev rows_fit : List ColTy → List Row → Bool
rows_fit cols rows = list_all (row_fits cols) rows

-- the rows have their tables' columns, and the query is accepted
abbrev pub is_sound : Answered → Bool
is_sound e = (rows_fit (column_types t) e.of_t && rows_fit (column_types u) e.of_u) && is_ok (bound_text e.text)

each_fits : (cols : List ColTy) (rows : List Row) → rows_fit cols rows ≡ true → Each (Fits cols) (bag_of {R = row_cmp} rows)
each_fits cols rows h = each-bag_of row_total row_exact (Fits cols) rows (go rows h)
  where
    go : (rows : List Row) → rows_fit cols rows ≡ true → AllByRecursion (Fits cols) rows
    go [] h = tt
    go (row ∷ rows) h = (first (row_fits cols row) _ h, go rows (second (row_fits cols row) _ h))

module _ (thm : (tables : List TableRows) (query : Query) → HaveWidths (tables_of tables) → IfOk (query_bound false (declared tables) query) (λ bound. answer (tables_of tables) bound.rel ≡ (query_answer tables query).rows))
    (lists : (tables : List ListedTable) (rel : Rel) → answer (map l.table_of tables) rel ≡ option_map bag_of (listed tables rel)) where
  in_order : (r : Option (List Row)) → option_map items (option_map (bag_of {R = row_cmp}) r) ≡ option_map (sorted row_cmp) r
  in_order None = refl
  in_order (Some rows) = ap Some (items-bag_of row_total row_exact rows)

  accepted : (e : Answered) (query : Query) (r : Checked Relation) → IfOk r (λ bound. answer (tables_of (tables_for e)) bound.rel ≡ (query_answer (tables_for e) query).rows) → is_ok r ≡ true → rows_told e (Ok query) ≡ computed e r
  accepted e query (Ok x) h k = ap (λ r. Ok (option_map items r)) (sym h ∙ lists (listed_for e) x.rel) ∙ ap Ok (in_order (listed (listed_for e) x.rel))
  accepted e query (Err code) h k = absurd (cc)

  one : (e : Answered) (q : Checked Query) → ((rows_fit (column_types t) e.of_t && rows_fit (column_types u) e.of_u) && is_ok (q >>= query_bound false all)) ≡ true → rows_told e q ≡ computed e (q >>= query_bound false all)
  one e (Err code) h = refl
  one e (Ok query) h =
      let p = first (rows_fit (column_types t) e.of_t && rows_fit (column_types u) e.of_u) _ h in
      accepted e query (query_bound false all query)
      (thm (tables_for e) query (typed_are_wide (tables_of (tables_for e)) (each_fits (column_types t) e.of_t (first (rows_fit (column_types t) e.of_t) _ p), (each_fits (column_types u) e.of_u (second (rows_fit (column_types t) e.of_t) _ p), (each_fits (column_types o) [] refl, tt)))))
      (second (rows_fit (column_types t) e.of_t && rows_fit (column_types u) e.of_u) _ h)

  pub all_computed : (table : List Answered) → list_all is_sound table ≡ true → map (λ e. rows_told e (query_text e.text)) table ≡ map (λ e. computed e (bound_text e.text)) table
  all_computed [] h = refl
  all_computed (e ∷ es) h = λ i. one e (query_text e.text) (first (is_sound e) _ h) i ∷ all_computed es (second (is_sound e) _ h) i
