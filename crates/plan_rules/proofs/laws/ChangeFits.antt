-- Changes that fit an edge: their row has the edge's columns, and where a removal tells its key alone, those of the key.
use Rattle.std.proofs.Common.{◌≡◌, ℕ, zero, suc, ◌+◌, Bool, true, false, cond, not, ◌&&◌, ◌||◌, List, [], ◌∷◌, length, Option, Some, refl, sym, ap, subst, ◌∙◌, arith}
use Rattle.std.specs.Prelude.{slice_get}
use Rattle.std.specs.List.{AllByRecursion}
use Rattle.ct_value.specs.declared.row.Row.{Row}
use Rattle.ct_value.specs.declared.value.Value.{Value}
use Rattle.ct_value.specs.declared.value.Value.TheVariants.{Null}
use Rattle.ct_value.specs.declared.ty.ColTy.{ColTy}
use Rattle.ct_field.specs.Typed.{cell, col_fits, is_null, row_fits, value_fits}
use Rattle.ct_change.specs.declared.kind.Kind.{Kind}
use Rattle.ct_change.specs.declared.kind.Kind.TheVariants.{I, UB, UA, D}
use Rattle.ct_change.specs.declared.kind.KindSet.{KindSet}
use Rattle.ct_change.specs.declared.change.Change.{Change}
use Rattle.ct_change.specs.declared.update.Update.{Update}
use Rattle.ct_change.specs.Changelog.{Mode, append, retract, upsert, adds, admits, same_row}
use Rattle.ct_change.specs.KeyRows.{is_among, keyed_from, key_row, row_told, IsKeyed, AreKeyed}
use Rattle.ct_change.proofs.laws.KeyRows.{is_key_row}
use Rattle.ct_change.proofs.laws.Meanings.{same_row-itself, same_row-true}
use Rattle.rel_algebra.specs.Clauses.{Fits}
use Rattle.rel_algebra.proofs.laws.Fits.{both, first, second, fits-cell}
use Rattle.op_rules.specs.Edges.{Meaning, meaning_of}
use Rattle.op_rules.specs.Values.{types_fit}
use Rattle.op_rules.proofs.laws.Values.{types-length}
use Rattle.stream_model.specs.KeysTold.{is_told, nullable_outside, told_fits, told_key}
use Rattle.stream_model.proofs.laws.KeysTold.{told-types}
use Rattle.emission_rules.specs.Arriving.{is_whole, FitsIn}
use Rattle.plan_rules.specs.Plans.{change_fits, key_alone, key_read, meaning_by}
use Rattle.plan_rules.specs.Around.{mode_read, mode_told}
use Rattle.plan_rules.proofs.laws.Reading.{meaning_read, meaning_told}

-- ---- one value

-- a column in which NULL is allowed, where it isn't one of the key's
abbrev outside : Bool → ColTy → ColTy
outside among column = record { ty = column.ty; nullable = column.nullable || not among }

or_false : (b : Bool) → (b || false) ≡ b
or_false true = refl
or_false false = refl

-- of a key's column the same is asked
into_key : (column : ColTy) (value : Value) → col_fits column value ≡ true → col_fits (outside true column) value ≡ true
into_key column value h = subst (λ b. (value_fits column.ty value && (b || not (is_null value))) ≡ true) (sym (or_false column.nullable)) h

of_key : (column : ColTy) (value : Value) → col_fits (outside true column) value ≡ true → col_fits column value ≡ true
of_key column value h = subst (λ b. (value_fits column.ty value && (b || not (is_null value))) ≡ true) (or_false column.nullable) h

-- and NULL fits outside
null_fits : (column : ColTy) → col_fits (outside false column) Null ≡ true
null_fits column = elim column.nullable as (λ b. ((b || true) || false) ≡ true) [ true ↦ refl | false ↦ refl ]

pub value_told : (among : Bool) (column : ColTy) (value : Value) → (among ≡ true → col_fits column value ≡ true)
    → col_fits (record { ty = column.ty; nullable = column.nullable || not among }) (cond among value Null) ≡ true
value_told true column value h = into_key column value (h refl)
value_told false column value h = null_fits column

-- ---- key rows

-- the key row of a row that fits has the key's columns
keyed_fits : (key : List ℕ) (n : ℕ) (columns : List ColTy) (row : List Value) → row_fits columns row ≡ true → row_fits (nullable_outside key n columns) (keyed_from key n row) ≡ true
keyed_fits key n [] [] h = refl
keyed_fits key n [] (value ∷ row) h = absurd (cc (h))
keyed_fits key n (column ∷ columns) [] h = absurd (cc (h))
keyed_fits key n (column ∷ columns) (value ∷ row) h =
    both (col_fits (outside (is_among key n) column) (cond (is_among key n) value Null)) (row_fits (nullable_outside key (suc n) columns) (keyed_from key (suc n) row))
    (value_told (is_among key n) column value (λ among. first (col_fits column value) (row_fits columns row) h))
    (keyed_fits key (suc n) columns row (second (col_fits column value) (row_fits columns row) h))

-- a key row tells no more than its key
pub told_itself : (key : List ℕ) (row : Row) → is_told (Some key) (key_row key row) ≡ true
told_itself key row = subst (λ (r : Row). same_row r (key_row key row) ≡ true) (sym (is_key_row key row)) (same_row-itself (key_row key row))

pub key_row_fits : (key : List ℕ) (columns : List ColTy) (row : Row) → row_fits columns row ≡ true → told_fits (Some key) columns (key_row key row) ≡ true
key_row_fits key columns row h = both (row_fits (nullable_outside key 0 columns) (key_row key row)) (is_told (Some key) (key_row key row)) (keyed_fits key 0 columns row h) (told_itself key row)

-- so has that of a key row, by a key that has no other columns
part_from : (own key : List ℕ) → ((c : ℕ) → is_among key c ≡ true → is_among own c ≡ true) → (n : ℕ) (columns : List ColTy) (row : List Value)
    → row_fits (nullable_outside own n columns) row ≡ true → row_fits (nullable_outside key n columns) (keyed_from key n row) ≡ true
part_from own key part n [] [] h = refl
part_from own key part n [] (value ∷ row) h = absurd (cc (h))
part_from own key part n (column ∷ columns) [] h = absurd (cc (h))
part_from own key part n (column ∷ columns) (value ∷ row) h =
    both (col_fits (outside (is_among key n) column) (cond (is_among key n) value Null)) (row_fits (nullable_outside key (suc n) columns) (keyed_from key (suc n) row))
    (value_told (is_among key n) column value
    (λ among. of_key column value
    (subst (λ b. col_fits (outside b column) value ≡ true) (part n among) (first (col_fits (outside (is_among own n) column) value) (row_fits (nullable_outside own (suc n) columns) row) h))))
    (part_from own key part (suc n) columns row (second (col_fits (outside (is_among own n) column) value) (row_fits (nullable_outside own (suc n) columns) row) h))

pub part_fits : (own key : List ℕ) → ((c : ℕ) → is_among key c ≡ true → is_among own c ≡ true) → (columns : List ColTy) (row : Row)
    → told_fits (Some own) columns row ≡ true → told_fits (Some key) columns (key_row key row) ≡ true
part_fits own key part columns row h =
    both (row_fits (nullable_outside key 0 columns) (key_row key row)) (is_told (Some key) (key_row key row))
    (part_from own key part 0 columns row (first (row_fits (nullable_outside own 0 columns) row) (is_told (Some own) row) h)) (told_itself key row)

-- the value of a column of the key
column_at : (key : List ℕ) (n : ℕ) (columns : List ColTy) (c : ℕ) (column : ColTy) → slice_get columns c ≡ Some column → slice_get (nullable_outside key n columns) c ≡ Some (outside (is_among key (n + c)) column)
column_at key n [] c column e = absurd (cc (e))
column_at key n (own ∷ columns) zero column e =
    let same : own ≡ column = cc (e) in
    let here : n ≡ n + 0 = omega arith in
    ap (λ (x : ColTy). Some (outside (is_among key n) x)) same ∙ ap (λ m. Some (outside (is_among key m) column)) here
column_at key n (own ∷ columns) (suc c) column e =
    let step : suc n + c ≡ n + suc c = omega arith in column_at key (suc n) columns c column e ∙ ap (λ m. Some (outside (is_among key m) column)) step

pub key_cell : (key : List ℕ) (columns : List ColTy) (row : Row) (c : ℕ) (column : ColTy) → told_fits (Some key) columns row ≡ true → slice_get columns c ≡ Some column → is_among key c ≡ true → col_fits column (cell c row) ≡ true
key_cell key columns row c column h e among =
    let same : c ≡ 0 + c = omega arith in
    let here : is_among key (0 + c) ≡ true = subst (λ m. is_among key m ≡ true) same among in
    of_key column (cell c row)
    (subst (λ b. col_fits (outside b column) (cell c row) ≡ true) here
    (fits-cell (nullable_outside key 0 columns) row c (outside (is_among key (0 + c)) column) (first (row_fits (nullable_outside key 0 columns) row) (is_told (Some key) row) h) (column_at key 0 columns c column e)))

-- ---- changes that fit

-- their row has the columns' types, and as many values
pub fits_types : (meaning : Meaning) (columns : List ColTy) (change : Change) → change_fits meaning columns change ≡ true → types_fit columns change.row ≡ true
fits_types meaning columns change h = told-types (key_alone (key_read meaning) (adds change.kind)) columns change.row h

pub fits_width : (meaning : Meaning) (columns : List ColTy) (change : Change) → change_fits meaning columns change ≡ true → length change.row ≡ length columns
fits_width meaning columns change h = types-length columns change.row (fits_types meaning columns change h)

-- where the row is told whole, it has the columns
pub fits_whole : (mode : Mode) (columns : List ColTy) (change : Change) → change_fits (meaning_of mode) columns change ≡ true → is_whole mode change.kind ≡ true → Fits columns change.row
fits_whole append columns change h whole = h
fits_whole retract columns change h whole = h
fits_whole (upsert key) columns change h whole = subst (λ b. told_fits (key_alone (Some key) b) columns change.row ≡ true) whole h

pub fits_in : (mode : Mode) (columns : List ColTy) (change : Change) → change_fits (meaning_of mode) columns change ≡ true → FitsIn mode columns change
fits_in mode columns change h = record { types = fits_types (meaning_of mode) columns change h; whole = λ whole. fits_whole mode columns change h whole }

-- a removal tells its key alone, where the mode has one
pub fits_keyed : (mode : Mode) (columns : List ColTy) (change : Change) → change_fits (meaning_of mode) columns change ≡ true → IsKeyed mode change
fits_keyed append columns change h = tt
fits_keyed retract columns change h = tt
fits_keyed (upsert key) columns change h = λ goes.
    same_row-true (key_row key change.row) change.row
    (second (row_fits (nullable_outside key 0 columns) change.row) (is_told (Some key) change.row) (subst (λ b. told_fits (key_alone (Some key) b) columns change.row ≡ true) goes h))

pub all_keyed : (mode : Mode) (columns : List ColTy) (changes : List Change) → AllByRecursion (λ change. change_fits (meaning_of mode) columns change ≡ true) changes → AreKeyed mode changes
all_keyed mode columns [] all = tt
all_keyed mode columns (change ∷ changes) all = (fits_keyed mode columns change all.0, all_keyed mode columns changes all.1)

-- a row that fits, told as the mode does, makes a change that fits
pub row_fits_told : (mode : Mode) (columns : List ColTy) (comes : Bool) (row : Row) → Fits columns row → told_fits (key_alone (key_read (meaning_of mode)) comes) columns (row_told mode comes row) ≡ true
row_fits_told append columns true row h = h
row_fits_told append columns false row h = h
row_fits_told retract columns true row h = h
row_fits_told retract columns false row h = h
row_fits_told (upsert key) columns true row h = h
row_fits_told (upsert key) columns false row h = key_row_fits key columns row h

pub told_fits_in : (mode : Mode) (columns : List ColTy) (kind : Kind) (row : Row) → Fits columns row → change_fits (meaning_of mode) columns (record { kind = kind; row = row_told mode (adds kind) row }) ≡ true
told_fits_in mode columns kind row h = row_fits_told mode columns (adds kind) row h

-- a change that a table admits tells the key that the table's mode says
pub key_told : (mode : Mode) (kind : Kind) → admits mode kind ≡ true → told_key mode kind ≡ key_alone (key_read (meaning_of mode)) (adds kind)
key_told append kind h = refl
key_told retract kind h = refl
key_told (upsert key) I h = refl
key_told (upsert key) UB h = absurd (cc (h))
key_told (upsert key) UA h = refl
key_told (upsert key) D h = refl

pub table_fits : (mode : Mode) (columns : List ColTy) (change : Change) → admits mode change.kind ≡ true → told_fits (told_key mode change.kind) columns change.row ≡ true → change_fits (meaning_of mode) columns change ≡ true
table_fits mode columns change admitted h = subst (λ (told : Option (List ℕ)). told_fits told columns change.row ≡ true) (key_told mode change.kind admitted) h

-- and a change that fits, and is of a kind of the mode, is one that a table takes
pub fits_told : (mode : Mode) (columns : List ColTy) (change : Change) → admits mode change.kind ≡ true → change_fits (meaning_of mode) columns change ≡ true → told_fits (told_key mode change.kind) columns change.row ≡ true
fits_told mode columns change admitted h = subst (λ (told : Option (List ℕ)). told_fits told columns change.row ≡ true) (sym (key_told mode change.kind admitted)) h

-- ---- by how an edge tells updates

pub read_in : (kinds : KindSet) (update : Update) (columns : List ColTy) (change : Change) → change_fits (meaning_by update) columns change ≡ true → FitsIn (mode_read kinds update) columns change
read_in kinds update columns change h = fits_in (mode_read kinds update) columns change (subst (λ (m : Meaning). change_fits m columns change ≡ true) (meaning_read kinds update) h)

pub told_out : (update : Update) (columns : List ColTy) (kind : Kind) (row : Row) → Fits columns row → change_fits (meaning_by update) columns (record { kind = kind; row = row_told (mode_told update) (adds kind) row }) ≡ true
told_out update columns kind row h =
    subst (λ (m : Meaning). change_fits m columns (record { kind = kind; row = row_told (mode_told update) (adds kind) row }) ≡ true) (sym (meaning_told update))
    (told_fits_in (mode_told update) columns kind row h)
