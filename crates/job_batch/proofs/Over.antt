-- The batch answer over the rows of the sources.
use Rattle.std.proofs.Common.{◌≡◌, inl, inr, Bool, true, false, List, [], ◌∷◌, ◌++◌, map, length, Option, Some, None, Result, Ok, Err, IfOk, refl, sym, ap, subst, ◌∙◌}
use Rattle.ct_value.specs.Bag.{none}
use Rattle.ct_value.specs.declared.ty.ColTy.{ColTy}
use Rattle.ct_value.specs.declared.ty.Ty.{Ty}
use Rattle.ct_change.specs.Changelog.{Rows}
use Rattle.ct_catalog.specs.declared.table.TableDef.{TableDef}
use Rattle.rel_algebra.specs.Clauses.{Fits}
use Rattle.rel_algebra.specs.Sums.{Each}
use Rattle.rel_algebra.specs.Answer.{AreTyped, Table, types_in, wide}
use Rattle.rel_algebra.specs.Answer as algebra
use Rattle.rel_algebra.specs.Rel.{Rel}
use Rattle.rel_algebra.specs.Types.{columns_of}
use Rattle.sql_syntax.specs.Tree.{Query, Text}
use Rattle.query_answer.specs.Answer.{TableRows, types}
use Rattle.query_answer.specs.Answer as query
use Rattle.query_laws.specs.Statement.{HaveWidths, declared, filled, tables_of}
use Rattle.query_laws.proofs.laws.Widths.{typed_are_wide}
use Rattle.binding.specs.Inserts.{insert_bound}
use Rattle.rel_algebra.specs.GoesInto.{go_into}
use Rattle.ct_catalog.specs.Columns.{column_types}
use Rattle.batch_answer.specs.Tables.{IsOut, IsTypedOver}
use Rattle.source_lines.specs.Fitting.{RowsFit}
use Rattle.job_ending.specs.declared.ending.Ending.TheVariants.{Range}
use Rattle.job_ending.specs.Outcome.{ends}
use Rattle.job_judgement.specs.Judged.{IsBound}
use Rattle.job_judgement.specs.Judgement.{Accepted}
use Rattle.job_batch.specs.Batch.{answered, done, over_tables, sink_types, with_rows}
use Rattle.job_batch.specs.Runs.{AreWide}
use Rattle.job_batch.proofs.Tables.{declared_rows, typed_sources, typed_with, types_of_rows}
use Rattle.job_batch.proofs.Widths.{rows_wide}

-- what holds of a result holds of what it is
if_ok : {A E : Type 0} (P : A → Type 0) (r : Result A E) (x : A) → r ≡ Ok x → IfOk r P → P x
if_ok P (Ok y) x e h = let same : y ≡ x = cc in subst P same h
if_ok P (Err y) x e h = absurd (cc)

answered_none : (tys : List Ty) (b : Bool) → answered tys b None ≡ ends (Range 0 0 [] [])
answered_none tys true = refl
answered_none tys false = refl

module _ (script : Accepted) (bound : IsBound script) (bags : List Rows) (fit : RowsFit script.inserted.sources bags) (types_list : List (List ColTy)) (typed : types_list ≡ map column_types script.inserted.sources) where
  abbrev rel : Rel
  rel = script.inserted.query.rel

  abbrev given : List TableRows
  given = with_rows script.inserted.sources bags

  abbrev tables : List Table
  tables = tables_of given

  module _ (keeps : (all : List TableDef) (name : Text) (q : Query) (sources : List TableRows) (rows : Rows) → IfOk (insert_bound all name q) (λ b. declared sources ≡ b.sources → HaveWidths (tables_of (sources ++ filled b.sink rows ∷ [])) → algebra.answer (tables_of sources) b.query.rel ≡ (query.answer (sources ++ filled b.sink rows ∷ []) q).rows)) where
    pub same_answer : algebra.answer tables rel ≡ (query.answer (given ++ filled script.inserted.sink none ∷ []) script.query).rows
    same_answer =
        if_ok (λ b. declared given ≡ b.sources → HaveWidths (tables_of (given ++ filled b.sink none ∷ [])) → algebra.answer (tables_of given) b.query.rel ≡ (query.answer (given ++ filled b.sink none ∷ []) script.query).rows)
        (insert_bound script.catalogue.tables bound.table script.query) script.inserted bound.bound (keeps script.catalogue.tables bound.table script.query given none)
        (declared_rows script.inserted.sources bags fit) (typed_are_wide (tables_of (given ++ filled script.inserted.sink none ∷ [])) (typed_with script.inserted.sources bags script.inserted.sink fit))

    over_is : (o : Option Rows) (b : Bool) → algebra.answer tables rel ≡ o → wide tables rel ≡ b → over_tables script given ≡ answered (sink_types script) b o
    over_is o b is wide_is =
        ap (λ x. answered (sink_types script) (wide tables rel) x) (sym same_answer ∙ is)
        ∙ ap (λ x. answered (sink_types script) x o) wide_is

    over_rows : (ts : List Table) → ts ≡ tables → (rows : Rows) → algebra.answer ts rel ≡ Some rows → wide ts rel ≡ false → over_tables script given ≡ done (sink_types script) rows
    over_rows ts same rows is narrow = over_is (Some rows) false (ap (λ (t : List Table). algebra.answer t rel) (sym same) ∙ is) (ap (λ (t : List Table). wide t rel) (sym same) ∙ narrow)

    over_out : (ts : List Table) → ts ≡ tables → IsOut ts rel → over_tables script given ≡ ends (Range 0 0 [] [])
    over_out ts same (inl is) = over_is None (wide tables rel) (ap (λ (t : List Table). algebra.answer t rel) (sym same) ∙ is) refl ∙ answered_none (sink_types script) (wide tables rel)
    over_out ts same (inr is) = over_is (algebra.answer tables rel) true refl (ap (λ (t : List Table). wide t rel) (sym same) ∙ is)

    pub over_result : {E : Type 0} (ts : List Table) → ts ≡ tables → (x : Rel) → x ≡ rel → (r : Result Rows E) → IfOk r (λ rows. algebra.answer ts x ≡ Some rows) → IfOk r (λ rows. wide ts x ≡ false) → IfOk r (λ rows. over_tables script given ≡ done (sink_types script) rows)
    over_result ts same x x_is (Ok rows) is narrow = over_rows ts same rows (subst (λ (y : Rel). algebra.answer ts y ≡ Some rows) x_is is) (subst (λ (y : Rel). wide ts y ≡ false) x_is narrow)
    over_result ts same x x_is (Err fault) is narrow = tt

    pub over_fault : (ts : List Table) → ts ≡ tables → (x : Rel) → x ≡ rel → IsOut ts x → over_tables script given ≡ ends (Range 0 0 [] [])
    over_fault ts same x x_is out = over_out ts same (subst (λ (y : Rel). IsOut ts y) x_is out)

  module _ (well_typed : (all : List TableDef) (name : Text) (q : Query) → IfOk (insert_bound all name q) (λ b. columns_of (map column_types b.sources) b.query.rel ≡ Some (types b.query.scope))) where
    columns : columns_of (map column_types script.inserted.sources) rel ≡ Some (types script.inserted.query.scope)
    columns = if_ok (λ b. columns_of (map column_types b.sources) b.query.rel ≡ Some (types b.query.scope)) (insert_bound script.catalogue.tables bound.table script.query) script.inserted bound.bound (well_typed script.catalogue.tables bound.table script.query)

    pub is_typed : (x : Rel) → x ≡ rel → IsTypedOver types_list x
    is_typed x x_is = (types script.inserted.query.scope, ap (columns_of types_list) x_is ∙ ap (λ (ts : List (List ColTy)). columns_of ts rel) typed ∙ columns)

    module _ (goes : (all : List TableDef) (name : Text) (q : Query) → IfOk (insert_bound all name q) (λ b. go_into (types b.query.scope) (column_types b.sink) ≡ true))
        (fits : (ts : List Table) → AreTyped ts → (r : Rel) (cols : List ColTy) (rows : Rows) → columns_of (types_in ts) r ≡ Some cols → algebra.answer ts r ≡ Some rows → Each (Fits cols) rows) where
      into : go_into (types script.inserted.query.scope) (column_types script.inserted.sink) ≡ true
      into = if_ok (λ b. go_into (types b.query.scope) (column_types b.sink) ≡ true) (insert_bound script.catalogue.tables bound.table script.query) script.inserted bound.bound (goes script.catalogue.tables bound.table script.query)

      over_wide : (ts : List Table) → ts ≡ tables → (rows : Rows) → algebra.answer ts rel ≡ Some rows → AreWide (length (sink_types script)) rows
      over_wide ts same rows is =
          rows_wide (types script.inserted.query.scope) script.inserted.sink rows into
          (fits tables (typed_sources script.inserted.sources bags fit) rel (types script.inserted.query.scope) rows
          (ap (λ (x : List (List ColTy)). columns_of x rel) (types_of_rows script.inserted.sources bags fit) ∙ columns)
          (ap (λ (t : List Table). algebra.answer t rel) (sym same) ∙ is))

      pub wide_result : {E : Type 0} (ts : List Table) → ts ≡ tables → (x : Rel) → x ≡ rel → (r : Result Rows E) → IfOk r (λ rows. algebra.answer ts x ≡ Some rows) → IfOk r (λ rows. AreWide (length (sink_types script)) rows)
      wide_result ts same x x_is (Ok rows) is = over_wide ts same rows (subst (λ (y : Rel). algebra.answer ts y ≡ Some rows) x_is is)
      wide_result ts same x x_is (Err fault) is = tt
