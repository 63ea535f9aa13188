-- That the change of a line is one of its table.
use Rattle.std.proofs.Common.{◌≡◌, ◌+◌, ◌∙◌, ℕ, suc, Bool, true, false, ◌&&◌, List, [], ◌∷◌, length, map, Option, Some, None, refl, sym, ap, subst, arith}
use Rattle.std.proofs.lemmas.Bool.{eqb-true}
use Rattle.std.specs.Prelude.{ℤ, cond, slice_get, slice_index_or, Result, Ok, Err, option_map, option_and_then, if◌then◌else◌}
use Rattle.ct_value.specs.declared.ty.Ty.{Ty}
use Rattle.ct_value.specs.declared.ty.ColTy.{ColTy}
use Rattle.ct_value.specs.declared.ty.Ty.TheVariants.{Bool as Truths, Int, BigInt, Decimal, Text as Texts}
use Rattle.ct_value.specs.declared.value.Value.{Value}
use Rattle.ct_value.specs.declared.value.Value.TheVariants.{Null, Bool as Truth, Num, Text}
use Rattle.ct_value.specs.declared.codes.ChangeCode.{ChangeCode}
use Rattle.ct_value.specs.declared.codes.ChangeCode.TheVariants.{FieldCount, KindNotDeclared}
use Rattle.ct_field.specs.Fields.{field_value, value_spelled, number_spelled, scale_of, truth_spelled, text_spelled}
use Rattle.ct_field.specs.Numbers.{in_range, is_type}
use Rattle.ct_field.specs.Typed.{value_fits}
use Rattle.ct_field.proofs.laws.Numbers.{both_true}
use Rattle.ct_change.specs.declared.kind.Kind.{Kind}
use Rattle.ct_change.specs.declared.change.Change.{Change}
use Rattle.ct_change.specs.Changelog.{admits, same_row}
use Rattle.ct_change.specs.KeyRows.{is_among, keyed_from}
use Rattle.ct_change.proofs.laws.Meanings.{same_row-itself}
use Rattle.ct_catalog.specs.declared.table.ColDef.{ColDef}
use Rattle.ct_catalog.specs.declared.table.TableDef.{TableDef}
use Rattle.job_text.specs.declared.line.Line.{Line}
use Rattle.op_rules.specs.Values.{types_fit}
use Rattle.job_text.specs.Fitting.{IsOfTable, LinesFit}
use Rattle.stream_model.specs.KeysTold.{is_told, told_key}
use Rattle.job_text.specs.Lines.{Field, Record, change_at, change_of, change_of_kind, change_of_row, feed_line, fields_left, is_field_count, key_cell, key_fields, key_told, key_values, kind_of, line_at, line_of, line_of_change, row_values, source_named, spelled, value_before, values_from}
use Rattle.ct_catalog.specs.Columns.{table_mode}

-- a condition with something under it held
held : {A : Type 0} (b : Bool) (o : Option A) (x : A) → cond b o None ≡ Some x → o ≡ Some x
held true o x e = e
held false o x e = cc e

is_held : {A : Type 0} (b : Bool) (x y : A) → cond b (Some x) None ≡ Some y → (b ≡ true) × (x ≡ y)
is_held true x y e = (refl, cc e)
is_held false x y e = cc e

number-fits : (ty : Ty) (o : Option ℤ) (v : Value) → option_map Num (option_and_then (λ n. cond (in_range ty n) (Some n) None) o) ≡ Some v
    → (n : ℤ) × (v ≡ Num n) × (in_range ty n ≡ true)
number-fits ty None v e = cc e
number-fits ty (Some n) v e = by (in_range ty n) refl e
  where
    by : (b : Bool) → in_range ty n ≡ b → option_map Num (cond b (Some n) None) ≡ Some v → (m : ℤ) × (v ≡ Num m) × (in_range ty m ≡ true)
    by true i f = (n, cc f, i)
    by false i f = cc f

number_value-fits : (ty : Ty) (v : Value) → ((n : ℤ) → value_fits ty (Num n) ≡ in_range ty n) → ((n : ℤ) × (v ≡ Num n) × (in_range ty n ≡ true)) → value_fits ty v ≡ true
number_value-fits ty v same (n, e, i) = ap (value_fits ty) e ∙ same n ∙ i

truth-fits : (o : Option Bool) (v : Value) → option_map Truth o ≡ Some v → value_fits Truths v ≡ true
truth-fits None v e = cc e
truth-fits (Some b) v e = let s : v ≡ Truth b = cc e in ap (value_fits Truths) s

text-fits : (o : Option (List ℕ)) (v : Value) → option_map Text o ≡ Some v → value_fits Texts v ≡ true
text-fits None v e = cc e
text-fits (Some t) v e = let s : v ≡ Text t = cc e in ap (value_fits Texts) s

spelled_value-fits : (ty : Ty) (bs : Field) (v : Value) → value_spelled ty bs ≡ Some v → value_fits ty v ≡ true
spelled_value-fits Truths bs v e = truth-fits (truth_spelled bs) v e
spelled_value-fits Texts bs v e = text-fits (text_spelled bs) v e
spelled_value-fits Int bs v e = number_value-fits Int v (λ n. refl) (number-fits Int (number_spelled (scale_of Int) bs) v e)
spelled_value-fits BigInt bs v e = number_value-fits BigInt v (λ n. refl) (number-fits BigInt (number_spelled (scale_of BigInt) bs) v e)
spelled_value-fits (Decimal p s) bs v e = number_value-fits (Decimal p s) v (λ n. refl) (number-fits (Decimal p s) (number_spelled s bs) v e)

null-fits : (ty : Ty) → value_fits ty Null ≡ true
null-fits Truths = refl
null-fits Texts = refl
null-fits Int = refl
null-fits BigInt = refl
null-fits (Decimal p s) = refl

null_or-fits : (b : Bool) (ty : Ty) (bs : Field) (v : Value) → cond b (Some Null) (value_spelled ty bs) ≡ Some v → value_fits ty v ≡ true
null_or-fits true ty bs v e = let s : v ≡ Null = cc e in ap (value_fits ty) s ∙ null-fits ty
null_or-fits false ty bs v e = spelled_value-fits ty bs v e

short-fits : (b : Bool) (o : Option Value) (v : Value) → cond b None o ≡ Some v → o ≡ Some v
short-fits true o v e = cc e
short-fits false o v e = e

-- what a field spells is of the type
spelled-fits : (ty : Ty) (bs : Field) (v : Value) → spelled ty bs ≡ Some v → value_fits ty v ≡ true
spelled-fits ty bs v e = null_or-fits _ ty bs v (short-fits _ _ v (held (is_type ty) (field_value ty bs) v e))

abbrev types : List ColDef → List ColTy
types cols = map (λ column. column.ty) cols

-- the values of a record fit its table's columns
values-fit : (column : ℕ) (cols : List ColDef) (fields : List Field) (values : List Value) → length fields ≡ length cols
    → values_from column cols fields ≡ Ok values → types_fit (types cols) values ≡ true
values-fit column [] fields [] n e = refl
values-fit column [] fields (v ∷ vs) n e = cc e
values-fit column (col ∷ cols) [] values n e = absurd (omega (arith, n))
values-fit column (col ∷ cols) (f ∷ fs) values n e =
    by (spelled col.ty.ty f) refl (values_from (column + 1) cols fs) refl values (λ ws. values-fit (column + 1) cols fs ws (omega (arith, n))) e
  where
    by : (o : Option Value) → spelled col.ty.ty f ≡ o → (r : Result (List Value) ChangeCode) → values_from (column + 1) cols fs ≡ r
        → (vs : List Value) → ((ws : List Value) → values_from (column + 1) cols fs ≡ Ok ws → types_fit (types cols) ws ≡ true)
        → value_before column o r ≡ Ok vs → types_fit (types (col ∷ cols)) vs ≡ true
    by None s r q vs others_fit h = cc h
    by (Some v) s (Err code) q vs others_fit h = cc h
    by (Some v) s (Ok others) q [] others_fit h = cc h
    by (Some v) s (Ok others) q (w ∷ ws) others_fit h =
        let first : w ≡ v = cc h in
        let rest : others ≡ ws = cc h in
        ap (λ (b : Bool). b && types_fit (types cols) ws) (ap (value_fits col.ty.ty) first ∙ spelled-fits col.ty.ty f v s) ∙ others_fit ws (q ∙ ap Ok rest)

-- the values of a key row fit its table's columns, and stand at the key alone
cell-fits : (b : Bool) (ty : Ty) (field : Field) (v : Value) → key_cell b ty field ≡ Some v → (value_fits ty v ≡ true) × (cond b v Null ≡ v)
cell-fits true ty field v e = (spelled-fits ty field v e, refl)
cell-fits false ty field v e = let is : Null ≡ v = cc (e) in (ap (value_fits ty) (sym is) ∙ null-fits ty, is)

abbrev AreOfKey : List ℕ → ℕ → List ColDef → List Value → Type 0
AreOfKey key column cols values = (types_fit (types cols) values ≡ true) × (keyed_from key column values ≡ values)

key-fits : (key : List ℕ) (column : ℕ) (cols : List ColDef) (fields : List Field) (values : List Value) → key_values key column cols fields ≡ Ok values → AreOfKey key column cols values
key-fits key column [] fields [] e = (refl, refl)
key-fits key column [] fields (v ∷ vs) e = absurd (cc (e))
key-fits key column (col ∷ cols) fields values e =
    by (key_cell (is_among key column) col.ty.ty (slice_index_or fields 0 [])) refl (key_values key (suc column) cols (fields_left (is_among key column) fields)) refl values
    (λ ws. key-fits key (suc column) cols (fields_left (is_among key column) fields) ws) e
  where
    by : (o : Option Value) → key_cell (is_among key column) col.ty.ty (slice_index_or fields 0 []) ≡ o → (r : Result (List Value) ChangeCode) → key_values key (suc column) cols (fields_left (is_among key column) fields) ≡ r
        → (vs : List Value) → ((ws : List Value) → key_values key (suc column) cols (fields_left (is_among key column) fields) ≡ Ok ws → AreOfKey key (suc column) cols ws)
        → value_before (suc column) o r ≡ Ok vs → AreOfKey key column (col ∷ cols) vs
    by None s r q vs others_fit h = absurd (cc (h))
    by (Some v) s (Err code) q vs others_fit h = absurd (cc (h))
    by (Some v) s (Ok others) q [] others_fit h = absurd (cc (h))
    by (Some v) s (Ok others) q (w ∷ ws) others_fit h =
        let first : v ≡ w = cc (h) in
        let rest : others ≡ ws = cc (h) in
        let one = cell-fits (is_among key column) col.ty.ty (slice_index_or fields 0 []) w (s ∙ ap Some first) in
        let more = others_fit ws (q ∙ ap Ok rest) in
        (ap (λ (b : Bool). b && types_fit (types cols) ws) one.0 ∙ more.0, (λ i. one.1 i ∷ more.1 i))

told-fits : (table : TableDef) (key : Option (List ℕ)) (fields : List Field) (values : List Value) → is_field_count table key (length fields) ≡ true → row_values table key fields ≡ Ok values
    → (types_fit (types table.cols) values ≡ true) × (is_told key values ≡ true)
told-fits table None fields values n e = (values-fit 1 table.cols fields values (eqb-true _ _ n) e, refl)
told-fits table (Some key) fields values n e =
    let both = key-fits key 0 table.cols (key_fields key (length table.cols) fields) values e in
    (both.0, ap (λ (row : List Value). same_row row values) both.1 ∙ same_row-itself values)

row-fits : (table : TableDef) (kind : Kind) (fields : List Field) (change : Change) → is_field_count table (key_told table (Some kind)) (length fields) ≡ true → admits (table_mode table) kind ≡ true
    → change_of_row kind (row_values table (key_told table (Some kind)) fields) ≡ Ok change → IsOfTable table change
row-fits table kind fields change n a e = by (row_values table (key_told table (Some kind)) fields) refl e
  where
    by : (r : Result (List Value) ChangeCode) → row_values table (key_told table (Some kind)) fields ≡ r → change_of_row kind r ≡ Ok change → IsOfTable table change
    by (Err code) q h = absurd (cc (h))
    by (Ok values) q h =
        let made : Change = record { kind = kind; row = values } in
        let same : made ≡ change = cc (h) in
        let both = told-fits table (key_told table (Some kind)) fields values n q in
        subst (IsOfTable table) same (record {
          admitted = a;
          fits = both_true (types_fit (types table.cols) values) (is_told (told_key (table_mode table) kind) values) both.0 both.1;
        })

kind-fits : (table : TableDef) (fields : List Field) (change : Change) (kind : Option Kind) → is_field_count table (key_told table kind) (length fields) ≡ true
    → change_of_kind table fields kind ≡ Ok change → IsOfTable table change
kind-fits table fields change None n e = absurd (cc (e))
kind-fits table fields change (Some kind) n e = by (admits (table_mode table) kind) refl e
  where
    by : (b : Bool) → admits (table_mode table) kind ≡ b → (if b then change_of_row kind (row_values table (key_told table (Some kind)) fields) else Err KindNotDeclared) ≡ Ok change → IsOfTable table change
    by true a h = row-fits table kind fields change n a h
    by false a h = absurd (cc (h))

change-fits : (table : TableDef) (kind : Field) (fields : List Field) (change : Change) → change_of table kind fields ≡ Ok change → IsOfTable table change
change-fits table kind fields change e = by (is_field_count table (key_told table (kind_of kind)) (length fields)) refl e
  where
    by : (b : Bool) → is_field_count table (key_told table (kind_of kind)) (length fields) ≡ b → (if b then change_of_kind table fields (kind_of kind) else Err FieldCount) ≡ Ok change → IsOfTable table change
    by true n h = kind-fits table fields change (kind_of kind) n h
    by false n h = absurd (cc (h))

at-fits : (sources : List TableDef) (kind : Field) (fields : List Field) (line : Line) (place : Option ℕ) → line_at sources kind fields place ≡ Ok line
    → (table : TableDef) × (slice_get sources line.table ≡ Some table) × IsOfTable table line.change
at-fits sources kind fields line None e = cc e
at-fits sources kind fields line (Some place) e = by (slice_get sources place) refl e
  where
    of_change : (table : TableDef) (r : Result Change ChangeCode) → change_of table kind fields ≡ r → slice_get sources place ≡ Some table → line_of_change place r ≡ Ok line
        → (t : TableDef) × (slice_get sources line.table ≡ Some t) × IsOfTable t line.change
    of_change table (Err code) q g h = cc h
    of_change table (Ok change) q g h =
        let same_place : line.table ≡ place = cc h in
        let same_change : change ≡ line.change = cc h in
        (table, ap (slice_get sources) same_place ∙ g, change-fits table kind fields line.change (q ∙ ap Ok same_change))

    by : (o : Option TableDef) → slice_get sources place ≡ o → line_of_change place (change_at o kind fields) ≡ Ok line
        → (t : TableDef) × (slice_get sources line.table ≡ Some t) × IsOfTable t line.change
    by None g h = cc h
    by (Some table) g h = of_change table (change_of table kind fields) refl g h

named-fits : (sources : List TableDef) (fields : Record) (line : Line) → line_of sources fields ≡ Ok line → (table : TableDef) × (slice_get sources line.table ≡ Some table) × IsOfTable table line.change
named-fits sources [] line e = cc e
named-fits sources (name ∷ []) line e = cc e
named-fits sources (name ∷ kind ∷ fields) line e = at-fits sources kind fields line (source_named sources name) e

feed-fits : (sources : List TableDef) (place : ℕ) (fields : Record) (line : Line) → feed_line sources place fields ≡ Ok line → (table : TableDef) × (slice_get sources line.table ≡ Some table) × IsOfTable table line.change
feed-fits sources place [] line e = cc e
feed-fits sources place (kind ∷ fields) line e = at-fits sources kind fields line (Some place) e

pub lines_fit : LinesFit
lines_fit sources None fields line e = named-fits sources fields line e
lines_fit sources (Some place) fields line e = feed-fits sources place fields line e
