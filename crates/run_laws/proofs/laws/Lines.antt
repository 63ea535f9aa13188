-- The rows of change lines have short texts: a field that is longer is refused.
use Rattle.std.specs.Prelude.{◌≡◌, ℕ, suc, ◌+◌, ◌≤◌, nat_lt, cond, Bool, true, false, List, [], ◌∷◌, length, drop, slice_get, slice_index_or, codes, Option, Some, None, option_map, option_and_then, Result, Ok, Err, if◌then◌else◌}
use Rattle.std.proofs.Common.{refl, subst, arith}
use Rattle.std.proofs.lemmas.Bool.{ltb-false, le-leb}
use Rattle.std.specs.Str.{is_utf8, bytes_eq}
use Rattle.ct_value.specs.declared.ty.Ty.{Ty}
use Rattle.ct_value.specs.declared.ty.Ty.TheVariants.{Bool as Truths, Int, BigInt, Decimal, Text as Texts}
use Rattle.ct_value.specs.declared.value.Value.{Value}
use Rattle.ct_value.specs.declared.value.Value.TheVariants.{Null, Bool as Truth, Num, Text}
use Rattle.ct_value.specs.declared.codes.ChangeCode.{ChangeCode}
use Rattle.ct_value.specs.declared.codes.ChangeCode.TheVariants.{FieldCount, KindNotDeclared}
use Rattle.ct_field.specs.Fields.{truth_spelled, begins_with_backslash, unescaped, text_spelled, number_of_type, value_spelled, longest_field, field_value}
use Rattle.ct_field.specs.Numbers.{is_type}
use Rattle.ct_change.specs.declared.kind.Kind.{Kind}
use Rattle.ct_change.specs.declared.change.Change.{Change}
use Rattle.ct_change.specs.Changelog.{admits}
use Rattle.ct_change.specs.KeyRows.{is_among}
use Rattle.ct_catalog.specs.declared.table.ColDef.{ColDef}
use Rattle.ct_catalog.specs.declared.table.TableDef.{TableDef}
use Rattle.job_text.specs.declared.line.Line.{Line}
use Rattle.job_text.specs.Lines.{Field, Record, kind_of, spelled, value_before, values_from, key_fields, key_cell, fields_left, key_values, key_told, is_field_count, row_values, change_of_row, change_of_kind, change_at, line_of_change, line_at, source_named, line_of, feed_line, line_in}
use Rattle.ct_catalog.specs.Columns.{table_mode}
use Rattle.range_rules.specs.Tame.{is_short}
use Rattle.range_rules.specs.Ranges.{IsShortRow, IsShort}

-- ---- one field

abbrev TextIsShort : Option (List ℕ) → Type 0
TextIsShort None = Unit {0}
TextIsShort (Some text) = length text ≤ longest_field

abbrev ValueIsShort : Option Value → Type 0
ValueIsShort None = Unit {0}
ValueIsShort (Some value) = is_short value ≡ true

text_if : (b : Bool) (o p : Option (List ℕ)) → TextIsShort o → TextIsShort p → TextIsShort (cond b o p)
text_if true o p h k = h
text_if false o p h k = k

drop_le : (bs : List ℕ) → length (drop 1 bs) ≤ length bs
drop_le [] = omega arith
drop_le (b ∷ bs) = omega arith

unescaped_short : (bs : List ℕ) → length bs ≤ longest_field → TextIsShort (unescaped bs)
unescaped_short bs h =
    let l = drop_le bs in
    text_if (begins_with_backslash bs) _ (Some bs) (text_if (begins_with_backslash (drop 1 bs)) (Some (drop 1 bs)) None (omega arith) tt) h

spelled_text : (o : Option (List ℕ)) → TextIsShort o → TextIsShort (option_and_then (λ t. cond (is_utf8 t) (Some t) None) o)
spelled_text None h = tt
spelled_text (Some text) h = text_if (is_utf8 text) (Some text) None h tt

as_text : (o : Option (List ℕ)) → TextIsShort o → ValueIsShort (option_map Text o)
as_text None h = tt
as_text (Some text) h = le-leb (length text) longest_field h

made_short : {A : Type 0} (f : A → Value) → ((a : A) → is_short (f a) ≡ true) → (o : Option A) → ValueIsShort (option_map f o)
made_short f h None = tt
made_short f h (Some a) = h a

value_short : (ty : Ty) (bs : List ℕ) → length bs ≤ longest_field → ValueIsShort (value_spelled ty bs)
value_short Truths bs h = made_short Truth (λ b. refl) (truth_spelled bs)
value_short Texts bs h = as_text (text_spelled bs) (spelled_text (unescaped bs) (unescaped_short bs h))
value_short Int bs h = made_short Num (λ n. refl) (number_of_type Int bs)
value_short BigInt bs h = made_short Num (λ n. refl) (number_of_type BigInt bs)
value_short (Decimal p s) bs h = made_short Num (λ n. refl) (number_of_type (Decimal p s) bs)

null_or : (b : Bool) (o : Option Value) → ValueIsShort o → ValueIsShort (cond b (Some Null) o)
null_or true o h = refl
null_or false o h = h

unless_long : (b : Bool) (ty : Ty) (bs : List ℕ) → nat_lt longest_field (length bs) ≡ b → ValueIsShort (cond b None (cond (bytes_eq bs (codes "\\N")) (Some Null) (value_spelled ty bs)))
unless_long true ty bs e = tt
unless_long false ty bs e = null_or (bytes_eq bs (codes "\\N")) (value_spelled ty bs) (value_short ty bs (ltb-false longest_field (length bs) e))

of_type : (b : Bool) (o : Option Value) → ValueIsShort o → ValueIsShort (cond b o None)
of_type true o h = h
of_type false o h = tt

field_short : (ty : Ty) (field : Field) → ValueIsShort (spelled ty field)
field_short ty field = of_type (is_type ty) (field_value ty field) (unless_long (nat_lt longest_field (length field)) ty field refl)

-- ---- the fields of a line

abbrev ValuesAreShort : Result (List Value) ChangeCode → Type 0
ValuesAreShort (Ok values) = IsShortRow values
ValuesAreShort (Err code) = Unit {0}

abbrev ChangeIsShort : Result Change ChangeCode → Type 0
ChangeIsShort (Ok change) = IsShort change
ChangeIsShort (Err code) = Unit {0}

abbrev LineIsShort : Result Line ChangeCode → Type 0
LineIsShort (Ok line) = IsShort line.change
LineIsShort (Err code) = Unit {0}

before_short : (column : ℕ) (o : Option Value) (others : Result (List Value) ChangeCode) → ValueIsShort o → ValuesAreShort others → ValuesAreShort (value_before column o others)
before_short column None others h k = tt
before_short column (Some value) (Err code) h k = tt
before_short column (Some value) (Ok values) h k = (h, k)

values_short : (column : ℕ) (cols : List ColDef) (fields : List Field) → ValuesAreShort (values_from column cols fields)
values_short column [] fields = tt
values_short column (col ∷ cols) [] = tt
values_short column (col ∷ cols) (field ∷ fields) =
    before_short column (spelled col.ty.ty field) (values_from (column + 1) cols fields) (field_short col.ty.ty field) (values_short (column + 1) cols fields)

-- of a key that is told alone
cell_short : (b : Bool) (ty : Ty) (field : Field) → ValueIsShort (key_cell b ty field)
cell_short true ty field = field_short ty field
cell_short false ty field = refl

key_short : (key : List ℕ) (column : ℕ) (cols : List ColDef) (fields : List Field) → ValuesAreShort (key_values key column cols fields)
key_short key column [] fields = tt
key_short key column (col ∷ cols) fields =
    let cell = key_cell (is_among key column) col.ty.ty (slice_index_or fields 0 []) in
    let left = fields_left (is_among key column) fields in
    before_short (suc column) cell (key_values key (suc column) cols left) (cell_short (is_among key column) col.ty.ty (slice_index_or fields 0 [])) (key_short key (suc column) cols left)

told_short : (table : TableDef) (key : Option (List ℕ)) (fields : List Field) → ValuesAreShort (row_values table key fields)
told_short table None fields = values_short 1 table.cols fields
told_short table (Some key) fields = key_short key 0 table.cols (key_fields key (length table.cols) fields)

row_short : (kind : Kind) (values : Result (List Value) ChangeCode) → ValuesAreShort values → ChangeIsShort (change_of_row kind values)
row_short kind (Ok values) h = h
row_short kind (Err code) h = tt

change_if : (b : Bool) (code : ChangeCode) (change : Result Change ChangeCode) → ChangeIsShort change → ChangeIsShort (if b then change else Err code)
change_if true code change h = h
change_if false code change h = tt

kind_short : (table : TableDef) (fields : List Field) (o : Option Kind) → ChangeIsShort (change_of_kind table fields o)
kind_short table fields None = tt
kind_short table fields (Some kind) = change_if (admits (table_mode table) kind) KindNotDeclared (change_of_row kind (row_values table (key_told table (Some kind)) fields))
    (row_short kind (row_values table (key_told table (Some kind)) fields) (told_short table (key_told table (Some kind)) fields))

change_short : (o : Option TableDef) (kind : Field) (fields : List Field) → ChangeIsShort (change_at o kind fields)
change_short None kind fields = tt
change_short (Some table) kind fields = change_if (is_field_count table (key_told table (kind_of kind)) (length fields)) FieldCount (change_of_kind table fields (kind_of kind)) (kind_short table fields (kind_of kind))

placed_short : (place : ℕ) (change : Result Change ChangeCode) → ChangeIsShort change → LineIsShort (line_of_change place change)
placed_short place (Ok change) h = h
placed_short place (Err code) h = tt

at_short : (sources : List TableDef) (kind : Field) (fields : List Field) (o : Option ℕ) → LineIsShort (line_at sources kind fields o)
at_short sources kind fields None = tt
at_short sources kind fields (Some place) = placed_short place (change_at (slice_get sources place) kind fields) (change_short (slice_get sources place) kind fields)

line_short : (sources : List TableDef) (fields : Record) → LineIsShort (line_of sources fields)
line_short sources [] = tt
line_short sources (name ∷ []) = tt
line_short sources (name ∷ kind ∷ fields) = at_short sources kind fields (source_named sources name)

feed_short : (sources : List TableDef) (place : ℕ) (fields : Record) → LineIsShort (feed_line sources place fields)
feed_short sources place [] = tt
feed_short sources place (kind ∷ fields) = at_short sources kind fields (Some place)

in_short : (sources : List TableDef) (feed : Option ℕ) (fields : Record) → LineIsShort (line_in sources feed fields)
in_short sources None fields = line_short sources fields
in_short sources (Some place) fields = feed_short sources place fields

-- a record that is a line has a short row
pub lines_are_short : (sources : List TableDef) (feed : Option ℕ) (fields : Record) (line : Line) → line_in sources feed fields ≡ Ok line → IsShort line.change
lines_are_short sources feed fields line is = subst LineIsShort is (in_short sources feed fields)
