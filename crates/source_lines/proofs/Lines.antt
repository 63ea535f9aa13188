-- The rows that taken lines leave have their tables' columns.
use Rattle.std.specs.Prelude.{map}
use Rattle.std.proofs.Common.{◌≡◌, ◌==◌, ℕ, suc, Bool, true, false, cond, List, [], ◌∷◌, ◌++◌, slice_get, Option, Some, None, Result, Ok, Err, refl, sym, ◌∙◌, ap, subst}
use Rattle.std.proofs.lemmas.Bool.{eqb-true}
use Rattle.ct_value.specs.Order.{row_total, row_exact}
use Rattle.ct_value.specs.declared.codes.ChangeCode.{ChangeCode}
use Rattle.ct_change.specs.declared.change.Change.{Change}
use Rattle.ct_change.specs.Changelog.{Rows, adds, fold}
use Rattle.ct_change.proofs.laws.Folds.{fold-push}
use Rattle.ct_catalog.specs.declared.table.TableDef.{TableDef}
use Rattle.job_text.specs.declared.line.Line.{Line}
use Rattle.job_text.specs.Fitting.{IsOfTable, LinesFit}
use Rattle.job_text.specs.Lines.{LinesLeft, Record, line_in}
use Rattle.ct_catalog.specs.Columns.{table_mode, column_types}
use Rattle.rel_algebra.specs.Clauses.{Fits}
use Rattle.rel_algebra.specs.Sums.{Each}
use Rattle.rel_algebra.proofs.laws.Bags.{each-none}
use Rattle.op_rules.specs.Values.{types_fit}
use Rattle.ct_field.proofs.laws.Numbers.{first_true, second_true}
use Rattle.stream_model.specs.KeysTold.{is_told, told_fits, told_key, upsert_key}
use Rattle.stream_model.specs.Tables.{refusal}
use Rattle.stream_model.proofs.laws.KeysTold.{told-added}
use Rattle.plan_rules.proofs.laws.Columns.{told_of_types}
use Rattle.source_lines.specs.Kept.{refusal_after, taker_of}
use Rattle.source_lines.specs.Supply.{all_unread}
use Rattle.source_lines.specs.Taken.{RefusedLine, Taken, and_then, first_of, line_refusal, nothing_taken, refusal_in, rows_of, take_file, take_files, take_line, take_records, taken_of, unless_refused, with_line}
use Rattle.source_lines.specs.declared.supply.ChangeFiles.{ChangeFiles}
use Rattle.source_lines.specs.Fitting.{FitsTable, LinesFitColumns, RowsFit}
use Rattle.source_lines.proofs.LineFolds.{each_after, unrefused}

-- the rows of each source have its columns
abbrev Fit : List TableDef → Taken → Type 0
Fit sources taken = (k : ℕ) (table : TableDef) → slice_get sources k ≡ Some table → Each (Fits (column_types table)) (fold (table_mode table) (taken k))

-- a change that isn't refused fits its table, and a row that comes has all of its columns
fits_table : (table : TableDef) (rows : Rows) (change : Change) → IsOfTable table change → refusal (taker_of table) rows change ≡ None → FitsTable table change
fits_table table rows change of free =
    let types = types_fit (column_types table) change.row in
    let told = told_key (table_mode table) change.kind in
    record {
      is = of;
      fits = told_of_types (column_types table) told change.row (first_true types (is_told told change.row) of.fits) (second_true types (is_told told change.row) of.fits) (unrefused (taker_of table) rows change free).0;
    }

comes : (table : TableDef) (rows : Rows) (change : Change) → IsOfTable table change → refusal (taker_of table) rows change ≡ None → adds change.kind ≡ true → Fits (column_types table) change.row
comes table rows change of free a =
    subst (λ key. told_fits key (column_types table) change.row ≡ true) (told-added (upsert_key (table_mode table)) change.kind a) (fits_table table rows change of free).fits

-- with one change more
fit_with : (table : TableDef) (changes : List Change) (change : Change) → IsOfTable table change → refusal_after table changes change ≡ None → Each (Fits (column_types table)) (fold (table_mode table) changes)
    → Each (Fits (column_types table)) (fold (table_mode table) (changes ++ change ∷ []))
fit_with table changes change of free h =
    subst (Each (Fits (column_types table))) (sym (fold-push (table_mode table) changes change))
    (each_after (Fits (column_types table)) (taker_of table) (fold (table_mode table) changes) change of.admitted (comes table (fold (table_mode table) changes) change of free) free h)

some_same : {A : Type 0} (o : Option A) (a b : A) → o ≡ Some a → o ≡ Some b → a ≡ b
some_same o a b p q = cc (p, q)

fit_at : (sources : List TableDef) (taken : Taken) (line : Line) (own : TableDef) → slice_get sources line.table ≡ Some own → IsOfTable own line.change → line_refusal sources taken line ≡ None → Fit sources taken
    → (k : ℕ) (table : TableDef) → slice_get sources k ≡ Some table → (test : Bool) → (k == line.table) ≡ test → Each (Fits (column_types table)) (fold (table_mode table) (cond test (taken k ++ line.change ∷ []) (taken k)))
fit_at sources taken line own there of free fit k table at false e = fit k table at
fit_at sources taken line own there of free fit k table at true e =
    let here : k ≡ line.table = eqb-true k line.table e in
    let same : own ≡ table = some_same (slice_get sources line.table) own table there (ap (slice_get sources) (sym here) ∙ at) in
    let refused : refusal_after table (taken k) line.change ≡ None =
    ap (λ n. refusal_after table (taken n) line.change) here ∙ ap (λ (t : TableDef). refusal_after t (taken line.table) line.change) (sym same) ∙ sym (ap (λ (o : Option TableDef). refusal_in o (taken line.table) line.change) there) ∙ free in
    fit_with table (taken k) line.change (subst (λ t. IsOfTable t line.change) same of) refused (fit k table at)

fit_line : (sources : List TableDef) (taken : Taken) (line : Line) → ((table : TableDef) × (slice_get sources line.table ≡ Some table) × IsOfTable table line.change) → line_refusal sources taken line ≡ None → Fit sources taken → Fit sources (with_line taken line)
fit_line sources taken line one free fit = λ k table at. fit_at sources taken line one.0 one.1 one.2 free fit k table at (k == line.table) refl

module _ (lines_fit : LinesFit) (sources : List TableDef) where
  module _ (feed : Option ℕ) where
    fit_unless : (number : ℕ) (taken result : Taken) (fields : Record) (line : Line) (o : Option ChangeCode) → line_in sources feed fields ≡ Ok line → line_refusal sources taken line ≡ o → unless_refused feed number taken line o ≡ Ok result
        → Fit sources taken → Fit sources result
    fit_unless number taken result fields line (Some code) is refusal e fit = absurd (cc (e))
    fit_unless number taken result fields line None is refusal e fit =
        let same : with_line taken line ≡ result = cc (e) in
        subst (Fit sources) same (fit_line sources taken line (lines_fit sources feed fields line is) refusal fit)

    fit_taken : (number : ℕ) (taken result : Taken) (fields : Record) (r : Result Line ChangeCode) → line_in sources feed fields ≡ r → take_line sources feed number taken r ≡ Ok result → Fit sources taken → Fit sources result
    fit_taken number taken result fields (Err code) is e fit = absurd (cc (e))
    fit_taken number taken result fields (Ok line) is e fit = fit_unless number taken result fields line (line_refusal sources taken line) is refl e fit

    fit_step : (number : ℕ) (taken result : Taken) (fields : Record) (next : Taken → Result Taken RefusedLine) (r : Result Taken RefusedLine) → take_line sources feed number taken (line_in sources feed fields) ≡ r → and_then r next ≡ Ok result
        → Fit sources taken → ((more : Taken) → next more ≡ Ok result → Fit sources more → Fit sources result) → Fit sources result
    fit_step number taken result fields next (Err refusal) is e fit others = absurd (cc (e))
    fit_step number taken result fields next (Ok more) is e fit others = others more e (fit_taken number taken more fields (line_in sources feed fields) refl is fit)

    fit_records : (number : ℕ) (taken result : Taken) (records : List Record) → take_records sources feed number taken records ≡ Ok result → Fit sources taken → Fit sources result
    fit_records number taken result [] e fit = let same : taken ≡ result = cc (e) in subst (Fit sources) same fit
    fit_records number taken result (fields ∷ rest) e fit =
        fit_step number taken result fields (λ more. take_records sources feed (suc number) more rest) (take_line sources feed number taken (line_in sources feed fields)) refl e fit
        (λ more is fine. fit_records (suc number) more result rest is fine)

  fit_next : (taken result : Taken) (file : LinesLeft) (files : List LinesLeft) (r : Result Taken RefusedLine) → take_file sources taken file ≡ r → and_then r (λ more. take_files sources more files) ≡ Ok result → Fit sources taken
      → ((more : Taken) → take_files sources more files ≡ Ok result → Fit sources more → Fit sources result) → Fit sources result
  fit_next taken result file files (Err refusal) is e fit others = absurd (cc (e))
  fit_next taken result file files (Ok more) is e fit others = others more e (fit_records file.feed (suc file.read) taken more file.records is fit)

  fit_files : (taken result : Taken) (files : List LinesLeft) → take_files sources taken files ≡ Ok result → Fit sources taken → Fit sources result
  fit_files taken result [] e fit = let same : taken ≡ result = cc (e) in subst (Fit sources) same fit
  fit_files taken result (file ∷ files) e fit = fit_next taken result file files (take_file sources taken file) refl e fit (λ more is fine. fit_files more result files is fine)

rows_fit : (sources : List TableDef) (taken : Taken) → Fit sources taken → RowsFit sources (rows_of sources taken)
rows_fit [] taken fit = tt
rows_fit (table ∷ tables) taken fit = (fit 0 table refl, rows_fit tables (λ k. taken (suc k)) (λ k. fit (suc k)))

-- the rows that taken lines of files leave in each source
pub files_fit : LinesFit → (sources : List TableDef) (files : List LinesLeft) (taken : Taken) → take_files sources nothing_taken files ≡ Ok taken → RowsFit sources (rows_of sources taken)
files_fit lines_fit sources files taken e = rows_fit sources taken (fit_files lines_fit sources nothing_taken taken files e (λ k table at. each-none row_total row_exact (Fits (column_types table))))

pub taken_fit : LinesFit → (sources : List TableDef) (first : Option ℕ) (files : ChangeFiles) (taken : Taken) → taken_of sources first files ≡ Ok taken → RowsFit sources (rows_of sources taken)
taken_fit lines_fit sources first files taken e = files_fit lines_fit sources (map (first_of first) (all_unread files)) taken e

pub lines_have_columns : LinesFit → LinesFitColumns
lines_have_columns lines_fit sources feed fields line taken is free =
    let one = lines_fit sources feed fields line is in
    let refused : refusal_after one.0 (taken line.table) line.change ≡ None = sym (ap (λ (o : Option TableDef). refusal_in o (taken line.table) line.change) one.1) ∙ free in
    (one.0, one.1, fits_table one.0 (fold (table_mode one.0) (taken line.table)) line.change one.2 refused)
