-- The rows of an answer have as many values as the sink has columns, whose types exist.
use Rattle.std.proofs.Common.{◌≡◌, ℕ, suc, Bool, true, false, not, ◌&&◌, ◌||◌, List, [], ◌∷◌, ◌++◌, map, length, Option, Some, None, Ok, Err, cond, refl, ap, subst, ◌∙◌, IsTrue}
use Rattle.std.specs.List.{AllByRecursion, find}
use Rattle.ct_value.specs.Bag.{items}
use Rattle.ct_value.specs.declared.codes.ScriptCode.TheVariants.{SinkShape, UnknownTable}
use Rattle.ct_value.specs.declared.row.Row.{Row}
use Rattle.ct_value.specs.declared.ty.ColTy.{ColTy}
use Rattle.ct_value.specs.declared.value.Value.{Value}
use Rattle.ct_field.specs.Numbers.{is_type}
use Rattle.ct_field.specs.Typed.{col_fits, row_fits}
use Rattle.ct_change.specs.Changelog.{Rows}
use Rattle.ct_catalog.specs.declared.table.ColDef.{ColDef}
use Rattle.ct_catalog.specs.declared.table.TableDef.{TableDef}
use Rattle.rel_algebra.specs.Clauses.{Fits}
use Rattle.rel_algebra.specs.Sums.{Each}
use Rattle.sql_syntax.specs.Tree.{Query, Text}
use Rattle.query_answer.specs.Answer.{types}
use Rattle.binding.specs.Checked.{Checked, or_code, refused_if, ◌>>=◌}
use Rattle.binding.specs.Inserts.{Inserted, insert_bound, into_sink, sunk, is_table, scans, sources_for}
use Rattle.rel_algebra.specs.GoesInto.{go_into, goes_into}
use Rattle.ct_catalog.specs.Columns.{column_types}
use Rattle.binding.specs.Queries.{Relation, query_bound}
use Rattle.judge.specs.WellDeclared.{HasTypes}
use Rattle.job_batch.specs.Runs.{AreWide}

both_right : (a b : Bool) → (a && b) ≡ true → b ≡ true
both_right true b e = e
both_right false b e = absurd (cc)

go_length : (columns sinks : List ColTy) → go_into columns sinks ≡ true → length columns ≡ length sinks
go_length [] [] e = refl
go_length [] (sink ∷ sinks) e = absurd (cc)
go_length (column ∷ columns) [] e = absurd (cc)
go_length (column ∷ columns) (sink ∷ sinks) e = ap suc (go_length columns sinks (both_right (goes_into column sink) (go_into columns sinks) e))

fits_length : (columns : List ColTy) (row : List Value) → row_fits columns row ≡ true → length row ≡ length columns
fits_length [] [] e = refl
fits_length [] (v ∷ vs) e = absurd (cc)
fits_length (col ∷ cols) [] e = absurd (cc)
fits_length (col ∷ cols) (v ∷ vs) e = ap suc (fits_length cols vs (both_right (col_fits col v) (row_fits cols vs) e))

all_wide : (columns : List ColTy) (width : ℕ) → length columns ≡ width → (rows : List Row) → AllByRecursion (Fits columns) rows → AllByRecursion (λ row. length row ≡ width) rows
all_wide columns width same [] h = tt
all_wide columns width same (row ∷ rows) h = (fits_length columns row h.0 ∙ same, all_wide columns width same rows h.1)

types_length : (cols : List ColDef) → length (map (λ c. c.ty) cols) ≡ length (map (λ c. c.ty.ty) cols)
types_length [] = refl
types_length (col ∷ cols) = ap suc (types_length cols)

pub rows_wide : (columns : List ColTy) (sink : TableDef) (rows : Rows) → go_into columns (column_types sink) ≡ true → Each (Fits columns) rows → AreWide (length (map (λ c. c.ty.ty) sink.cols)) rows
rows_wide columns sink rows goes fit = all_wide columns _ (go_length columns (column_types sink) goes ∙ types_length sink.cols) (items rows) fit

-- ---- the sink is one of the tables

sunk_if : (test : Bool) (made inserted : Inserted) → refused_if test SinkShape (Ok made) ≡ Ok inserted → made.sink ≡ inserted.sink
sunk_if true made inserted e = absurd (cc)
sunk_if false made inserted e = let same : made ≡ inserted = cc in ap (λ (x : Inserted). x.sink) same

sink_is : (sources : List TableDef) (sink : TableDef) (r : Checked Relation) (inserted : Inserted)
    → (r >>= λ x. refused_if (scans (length sources) x.rel || not (go_into (types x.scope) (column_types sink))) SinkShape (Ok (record { query = x; sources = sources; sink = sink }))) ≡ Ok inserted → sink ≡ inserted.sink
sink_is sources sink (Err code) inserted e = absurd (cc)
sink_is sources sink (Ok x) inserted e = sunk_if _ _ inserted e

-- what a step behind another answers
answered : {A B : Type 0} (r : Checked A) (s : Checked B) (x : B) → (r >>= λ y. s) ≡ Ok x → s ≡ Ok x
answered (Ok y) s x e = e
answered (Err code) s x e = absurd (cc)

sink_at : (sources : List TableDef) (query : Query) (o : Option TableDef) (inserted : Inserted) → (or_code UnknownTable o >>= into_sink sources query) ≡ Ok inserted → o ≡ Some inserted.sink
sink_at sources query None inserted e = absurd (cc)
sink_at sources query (Some sink) inserted e =
    ap Some (sink_is sources sink (query_bound false (sources ++ sink ∷ []) query) inserted (answered (sunk true sources query sink) (sunk false sources query sink) inserted e))

found_if : (P : TableDef → Type 0) (table found : TableDef) (later : Option TableDef) (b : Bool) → P table → (later ≡ Some found → P found) → cond b (Some table) later ≡ Some found → P found
found_if P table found later true here behind is = let same : table ≡ found = cc in subst P same here
found_if P table found later false here behind is = behind is

found_has : (P : TableDef → Type 0) (p : TableDef → Bool) (tables : List TableDef) (found : TableDef) → AllByRecursion P tables → find p tables ≡ Some found → P found
found_has P p [] found all e = absurd (cc)
found_has P p (table ∷ tables) found all e = found_if P table found (find p tables) (p table) all.0 (found_has P p tables found all.1) e

sink_types_exist : (cols : List ColDef) → AllByRecursion (λ column. is_type column.ty.ty ≡ true) cols → AllByRecursion (λ ty. IsTrue (is_type ty)) (map (λ c. c.ty.ty) cols)
sink_types_exist [] h = tt
sink_types_exist (col ∷ cols) h = (h.0, sink_types_exist cols h.1)

pub sink_exists : (tables : List TableDef) (table : Text) (query : Query) (inserted : Inserted) → AllByRecursion HasTypes tables → insert_bound tables table query ≡ Ok inserted → AllByRecursion (λ ty. IsTrue (is_type ty)) (map (λ c. c.ty.ty) inserted.sink.cols)
sink_exists tables table query inserted all e =
    sink_types_exist inserted.sink.cols (found_has HasTypes (is_table table) tables inserted.sink all (sink_at (sources_for tables table) query (find (is_table table) tables) inserted e))
