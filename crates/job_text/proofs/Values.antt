-- The values of a record, column by column.
use Rattle.std.proofs.Common.{◌≡◌, ◌<◌, ◌≤◌, ◌+◌, ◌-◌, ◌∙◌, ◌==◌, ◌||◌, ℕ, zero, suc, Bool, true, false, cond, List, [], ◌∷◌, ◌++◌, length, drop, get_or, Option, Some, None, refl, sym, ap, arith, append_assoc}
use Rattle.std.proofs.lemmas.List.{append-nil, drop_all, drop_more, get_or-drop, length-drop}
use Rattle.std.specs.Prelude.{IsErrAnd, IsErrOf, Result, Ok, Err, if◌then◌else◌}
use Rattle.csv.specs.Records.{field_at}
use Rattle.ct_value.specs.declared.ty.Ty.{Ty}
use Rattle.ct_value.specs.declared.value.Value.{Value}
use Rattle.ct_value.specs.declared.codes.ChangeCode.{ChangeCode}
use Rattle.ct_value.specs.declared.codes.ChangeCode.TheVariants.{BadField}
use Rattle.ct_catalog.specs.declared.table.ColDef.{ColDef}
use Rattle.ct_change.specs.KeyRows.{is_among}
use Rattle.job_text.specs.declared.line.LineFault.{LineFault}
use Rattle.job_text.specs.AtKey.{at_key}
use Rattle.job_text.specs.Lines.{Field, Record, fields_left, key_cell, key_fields, key_values, spelled, value_before, values_from}

-- csv's own look-up of a field is the list's
pub field_there : (fields : Record) (i : ℕ) (field : Field) → field_at fields i ≡ Some field → get_or fields i [] ≡ field
unfolding field_at
field_there [] i field e = absurd (cc (e))
field_there (f ∷ fs) zero field e = cc (e)
field_there (f ∷ fs) (suc i) field e = field_there fs i field e

pub field_past : (fields : Record) (i : ℕ) → field_at fields i ≡ None → get_or fields i [] ≡ []
unfolding field_at
field_past [] i e = refl
field_past (f ∷ fs) zero e = absurd (cc (e))
field_past (f ∷ fs) (suc i) e = field_past fs i e

-- values before the values that are left
abbrev pub behind : List Value → Result (List Value) ChangeCode → Result (List Value) ChangeCode
behind values (Ok others) = Ok (values ++ others)
behind values (Err code) = Err code

pub behind-value : (values : List Value) (column : ℕ) (value : Value) (rest : Result (List Value) ChangeCode)
    → behind values (value_before column (Some value) rest) ≡ behind (values ++ value ∷ []) rest
behind-value values column value (Ok others) = ap Ok (sym (append_assoc values (value ∷ []) others))
behind-value values column value (Err code) = refl

-- the values that are left from a column on, where the fields stand from the first one's place on
abbrev pub left_from : ℕ → List ColDef → Record → ℕ → Result (List Value) ChangeCode
left_from first cols fields i = values_from (i + 1) (drop i cols) (drop (i + first) fields)

-- the values of all columns are those that are left at the first
pub left_from_first : (first : ℕ) (cols : List ColDef) (fields : Record) → values_from 1 cols (drop first fields) ≡ behind [] (left_from first cols fields 0)
left_from_first first cols fields =
    let start : first ≡ 0 + first = omega arith in
    ap (λ k. values_from 1 cols (drop k fields)) start ∙ by (values_from 1 cols (drop (0 + first) fields))
  where
    by : (r : Result (List Value) ChangeCode) → r ≡ behind [] r
    by (Ok values) = refl
    by (Err code) = refl

-- those left from a column on are its own before those left from the next on
pub left_from_next : (first : ℕ) (cols : List ColDef) (fields : Record) (i : ℕ) (col : ColDef) → length fields ≡ length cols + first → i < length cols → col ≡ get_or cols i col
    → left_from first cols fields i ≡ value_before (i + 1) (spelled col.ty.ty (get_or fields (i + first) [])) (left_from first cols fields (i + 1))
left_from_next first cols fields i col n h e =
    let of_col = λ (cs : List ColDef). values_from (i + 1) cs (drop (i + first) fields) in
    let of_field = λ (fs : Record). values_from (i + 1) (col ∷ drop (i + 1) cols) fs in
    let of_place = λ (k : ℕ). value_before (i + 1) (spelled col.ty.ty (get_or fields (i + first) [])) (values_from (i + 1 + 1) (drop (i + 1) cols) (drop k fields)) in
    let next_place : i + first + 1 ≡ i + 1 + first = omega arith in
    ap of_col (drop_more cols i col h ∙ ap (λ (c : ColDef). c ∷ drop (i + 1) cols) (sym e)) ∙ ap of_field (drop_more fields (i + first) [] (omega (arith, n, h))) ∙ ap of_place next_place

-- a column whose field spells a value
pub left_after : (first : ℕ) (cols : List ColDef) (fields : Record) (values : List Value) (i : ℕ) (col : ColDef) (value : Value) → length fields ≡ length cols + first → i < length cols
    → col ≡ get_or cols i col → spelled col.ty.ty (get_or fields (i + first) []) ≡ Some value
    → behind values (left_from first cols fields i) ≡ behind (values ++ value ∷ []) (left_from first cols fields (i + 1))
left_after first cols fields values i col value n h e s =
    rw (left_from_next first cols fields i col n h e, s) (behind-value values (i + 1) value (left_from first cols fields (i + 1)))

-- a column whose field spells none
pub left_refused : (first : ℕ) (cols : List ColDef) (fields : Record) (values : List Value) (i : ℕ) (col : ColDef) → length fields ≡ length cols + first → i < length cols
    → col ≡ get_or cols i col → spelled col.ty.ty (get_or fields (i + first) []) ≡ None
    → behind values (left_from first cols fields i) ≡ Err (BadField (i + 1))
left_refused first cols fields values i col n h e s = rw (left_from_next first cols fields i col n h e, s) refl

-- no column is left behind the last
pub left_none : (first : ℕ) (cols : List ColDef) (fields : Record) (values : List Value) (i : ℕ) → i ≡ length cols → behind values (left_from first cols fields i) ≡ Ok values
left_none first cols fields values i e =
    ap (λ (cs : List ColDef). behind values (values_from (i + 1) cs (drop (i + first) fields))) (drop_all i cols (omega (arith, e))) ∙ ap Ok (append-nil values)

-- ---- a key that is told alone

-- the fields that are left of a key's from a column on: those at the key, of all that stand from a place on, or these all
abbrev pub fields_from : List ℕ → Bool → ℕ → ℕ → Record → List Field
fields_from key true i place fields = at_key key i (drop place fields)
fields_from key false i place fields = drop place fields

-- the values that are left from a column on
abbrev pub key_left : List ℕ → Bool → List ColDef → Record → ℕ → ℕ → Result (List Value) ChangeCode
key_left key whole cols fields i place = key_values key i (drop i cols) (fields_from key whole i place fields)

drop_suc : (fields : Record) (place : ℕ) → drop (suc place) fields ≡ drop 1 (drop place fields)
drop_suc [] zero = refl
drop_suc [] (suc place) = refl
drop_suc (f ∷ fs) zero = refl
drop_suc (f ∷ fs) (suc place) = drop_suc fs place

drop_next : (fields : Record) (place : ℕ) → drop (place + 1) fields ≡ drop 1 (drop place fields)
drop_next fields place = let next : place + 1 ≡ suc place = omega arith in ap (λ k. drop k fields) next ∙ drop_suc fields place

first_at : (key : List ℕ) (i : ℕ) (fs : List Field) → is_among key i ≡ true → get_or (at_key key i fs) 0 [] ≡ get_or fs 0 []
first_at key i [] e = refl
first_at key i (f ∷ fs) e = ap (λ b. get_or (cond b (f ∷ at_key key (suc i) fs) (at_key key (suc i) fs)) 0 []) e

left_at : (key : List ℕ) (i : ℕ) (fs : List Field) (b : Bool) → is_among key i ≡ b → fields_left b (at_key key i fs) ≡ at_key key (suc i) (drop 1 fs)
left_at key i [] true e = refl
left_at key i [] false e = refl
left_at key i (f ∷ fs) true e = ap (λ b. drop 1 (cond b (f ∷ at_key key (suc i) fs) (at_key key (suc i) fs))) e
left_at key i (f ∷ fs) false e = ap (λ b. cond b (f ∷ at_key key (suc i) fs) (at_key key (suc i) fs)) e

-- the first of a key's fields that are left is at the place, where the column is one of the key's
first_from : (key : List ℕ) (whole : Bool) (i place : ℕ) (fields : Record) → is_among key i ≡ true → get_or (fields_from key whole i place fields) 0 [] ≡ get_or fields place []
first_from key true i place fields e =
    let same : place + 0 ≡ place = omega arith in
    first_at key i (drop place fields) e ∙ get_or-drop place fields 0 [] ∙ ap (λ k. get_or fields k []) same
first_from key false i place fields e =
    let same : place + 0 ≡ place = omega arith in
    get_or-drop place fields 0 [] ∙ ap (λ k. get_or fields k []) same

left_from_place : (key : List ℕ) (whole : Bool) (i place : ℕ) (fields : Record) (b : Bool) → is_among key i ≡ b
    → fields_left b (fields_from key whole i place fields) ≡ fields_from key whole (suc i) (cond (b || whole) (place + 1) place) fields
left_from_place key true i place fields true e = left_at key i (drop place fields) true e ∙ ap (at_key key (suc i)) (sym (drop_next fields place))
left_from_place key true i place fields false e = left_at key i (drop place fields) false e ∙ ap (at_key key (suc i)) (sym (drop_next fields place))
left_from_place key false i place fields true e = sym (drop_next fields place)
left_from_place key false i place fields false e = refl

-- the value of a column, and those left from the next on
cell_from : (key : List ℕ) (whole : Bool) (fields : Record) (i place : ℕ) (ty : Ty) (b : Bool) → is_among key i ≡ b
    → key_cell b ty (get_or (fields_from key whole i place fields) 0 []) ≡ key_cell b ty (get_or fields place [])
cell_from key whole fields i place ty true e = ap (spelled ty) (first_from key whole i place fields e)
cell_from key whole fields i place ty false e = refl

key_left_next : (key : List ℕ) (whole : Bool) (cols : List ColDef) (fields : Record) (i place : ℕ) (col : ColDef) (b : Bool) → i < length cols → col ≡ get_or cols i col → is_among key i ≡ b
    → key_left key whole cols fields i place
    ≡ value_before (i + 1) (key_cell b col.ty.ty (get_or fields place [])) (key_left key whole cols fields (i + 1) (cond (b || whole) (place + 1) place))
key_left_next key whole cols fields i place col b h e is =
    let own = fields_from key whole i place fields in
    let place_next = cond (b || whole) (place + 1) place in
    let next : suc i ≡ i + 1 = omega arith in
    let of_test = λ (t : Bool). value_before (suc i) (key_cell t col.ty.ty (get_or own 0 [])) (key_values key (suc i) (drop (i + 1) cols) (fields_left t own)) in
    let of_parts = λ (o : Option Value) (fs : List Field). value_before (suc i) o (key_values key (suc i) (drop (i + 1) cols) fs) in
    let of_number = λ (k : ℕ). value_before k (key_cell b col.ty.ty (get_or fields place [])) (key_values key k (drop (i + 1) cols) (fields_from key whole k place_next fields)) in
    ap (λ (cs : List ColDef). key_values key i cs own) (drop_more cols i col h ∙ ap (λ (c : ColDef). c ∷ drop (i + 1) cols) (sym e))
    ∙ ap of_test is ∙ ap (λ (o : Option Value). of_parts o (fields_left b own)) (cell_from key whole fields i place col.ty.ty b is)
    ∙ ap (of_parts (key_cell b col.ty.ty (get_or fields place []))) (left_from_place key whole i place fields b is) ∙ ap of_number next

-- a column with a value
pub key_left_after : (key : List ℕ) (whole : Bool) (cols : List ColDef) (fields : Record) (values : List Value) (i place : ℕ) (col : ColDef) (b : Bool) (value : Value) → i < length cols → col ≡ get_or cols i col → is_among key i ≡ b
    → key_cell b col.ty.ty (get_or fields place []) ≡ Some value
    → behind values (key_left key whole cols fields i place) ≡ behind (values ++ value ∷ []) (key_left key whole cols fields (i + 1) (cond (b || whole) (place + 1) place))
key_left_after key whole cols fields values i place col b value h e is spells =
    let rest = key_left key whole cols fields (i + 1) (cond (b || whole) (place + 1) place) in
    ap (behind values) (key_left_next key whole cols fields i place col b h e is ∙ ap (λ (o : Option Value). value_before (i + 1) o rest) spells) ∙ behind-value values (i + 1) value rest

-- a column whose field spells none
pub key_left_refused : (key : List ℕ) (whole : Bool) (cols : List ColDef) (fields : Record) (values : List Value) (i place : ℕ) (col : ColDef) (b : Bool) → i < length cols → col ≡ get_or cols i col → is_among key i ≡ b
    → key_cell b col.ty.ty (get_or fields place []) ≡ None → behind values (key_left key whole cols fields i place) ≡ Err (BadField (i + 1))
key_left_refused key whole cols fields values i place col b h e is spells =
    ap (behind values) (key_left_next key whole cols fields i place col b h e is
    ∙ ap (λ (o : Option Value). value_before (i + 1) o (key_left key whole cols fields (i + 1) (cond (b || whole) (place + 1) place))) spells)

-- no column is left behind the last
pub key_left_none : (key : List ℕ) (whole : Bool) (cols : List ColDef) (fields : Record) (values : List Value) (i place : ℕ) → i ≡ length cols → behind values (key_left key whole cols fields i place) ≡ Ok values
key_left_none key whole cols fields values i place e =
    ap (λ (cs : List ColDef). behind values (key_values key i cs (fields_from key whole i place fields))) (drop_all i cols (omega (arith, e))) ∙ ap Ok (append-nil values)

-- at the first column nothing is read yet
pub key_left_first : (key : List ℕ) (first : ℕ) (whole : Bool) (cols : List ColDef) (fields : Record) → (length fields - first == length cols) ≡ whole
    → key_values key 0 cols (key_fields key (length cols) (drop first fields)) ≡ behind [] (key_left key whole cols fields 0 first)
key_left_first key first whole cols fields is =
    let counted : (length (drop first fields) == length cols) ≡ whole = ap (λ n. n == length cols) (length-drop first fields) ∙ is in
    ap (λ b. key_values key 0 cols (if b then at_key key 0 (drop first fields) else drop first fields)) counted ∙ by whole
  where
    nothing : (r : Result (List Value) ChangeCode) → r ≡ behind [] r
    nothing (Ok values) = refl
    nothing (Err code) = refl

    by : (b : Bool) → key_values key 0 cols (if b then at_key key 0 (drop first fields) else drop first fields) ≡ behind [] (key_left key b cols fields 0 first)
    by true = nothing (key_values key 0 cols (at_key key 0 (drop first fields)))
    by false = nothing (key_values key 0 cols (drop first fields))

-- the place of the next column's field
pub place_within : (b : Bool) (place next i first : ℕ) → next ≡ cond b (place + 1) place → place ≤ i + first → next ≤ i + 1 + first
place_within true place next i first e h = omega (arith, e, h)
place_within false place next i first e h = omega (arith, e, h)

-- a fault that a call passes on
pub passed_on : {A : Type 0} (r : Result A LineFault) (fault other : LineFault) → IsErrAnd r (λ passed. passed ≡ fault) → IsErrOf r other → fault ≡ other
passed_on (Ok x) fault other same is = absurd same
passed_on (Err passed) fault other same is = let told : passed ≡ other = cc (is) in sym same ∙ told
