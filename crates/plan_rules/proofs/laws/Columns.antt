-- A row with values of its columns' types, and no NULL where none may stand, has its columns.
use Rattle.std.proofs.Common.{◌≡◌, ◌==◌, ◌+◌, ℕ, suc, Bool, true, false, cond, not, ◌&&◌, ◌||◌, List, [], ◌∷◌, ◌++◌, length, Option, Some, None, refl, sym, ◌∙◌, ap, subst, arith, append_assoc, length-append}
use Rattle.std.specs.List.{filter}
use Rattle.std.proofs.lemmas.Bool.{eq-eqb, eqb-true}
use Rattle.ct_value.specs.declared.row.Row.{Row}
use Rattle.ct_value.specs.declared.value.Value.{Value}
use Rattle.ct_value.specs.declared.codes.ChangeCode.{ChangeCode}
use Rattle.ct_value.specs.declared.codes.ChangeCode.TheVariants.{NullNotAllowed}
use Rattle.ct_value.specs.declared.ty.ColTy.{ColTy}
use Rattle.ct_field.specs.Typed.{cell, is_null, row_fits, value_fits}
use Rattle.ct_field.proofs.laws.Numbers.{both_true, first_true, second_true}
use Rattle.ct_change.specs.KeyRows.{is_among}
use Rattle.op_rules.specs.Values.{types_fit}
use Rattle.stream_model.specs.KeysTold.{is_told, nullable_outside, told_fits}
use Rattle.stream_model.specs.Tables.{asked_of, null_refusal}
use Rattle.plan_rules.specs.Plans.{required_from}

cell_at : (front : Row) (value : Value) (rest : Row) → cell (length front) (front ++ value ∷ rest) ≡ value
cell_at [] value rest = refl
cell_at (x ∷ front) value rest = cell_at front value rest

no_code : (test : Bool) (code : ChangeCode) (rest : Option ChangeCode) → cond test (Some code) rest ≡ None → (test ≡ false) × (rest ≡ None)
no_code true code rest e = absurd (cc (e))
no_code false code rest e = (refl, e)

longer : (n : ℕ) (front : Row) (value : Value) → length front ≡ n → length (front ++ value ∷ []) ≡ suc n
longer n front value e = omega (arith, e, length-append front (value ∷ []))

-- the first column, where the others fit
fits_one : (nullable : Bool) (n : ℕ) (front : Row) (column : ColTy) (columns : List ColTy) (value : Value) (row : Row) → column.nullable ≡ nullable → length front ≡ n → (value_fits column.ty value && types_fit columns row) ≡ true
    → null_refusal (cond nullable (required_from (suc n) columns) (n ∷ required_from (suc n) columns)) (front ++ value ∷ row) ≡ None
    → (null_refusal (required_from (suc n) columns) (front ++ value ∷ row) ≡ None → row_fits columns row ≡ true) → row_fits (column ∷ columns) (value ∷ row) ≡ true
fits_one true n front column columns value row may e fit free others =
    let a = first_true (value_fits column.ty value) (types_fit columns row) fit in
    let b = others free in
    rw (a, may, b) refl
fits_one false n front column columns value row may e fit free others =
    let parts = no_code (is_null (cell n (front ++ value ∷ row))) _ (null_refusal (required_from (suc n) columns) (front ++ value ∷ row)) free in
    let known : is_null value ≡ false = ap is_null (sym (cell_at front value row) ∙ ap (λ k. cell k (front ++ value ∷ row)) e) ∙ parts.0 in
    let a = first_true (value_fits column.ty value) (types_fit columns row) fit in
    let b = others parts.1 in
    rw (a, may, known, b) refl

fits_from : (n : ℕ) (front : Row) (columns : List ColTy) (row : Row) → length front ≡ n → types_fit columns row ≡ true → null_refusal (required_from n columns) (front ++ row) ≡ None → row_fits columns row ≡ true
fits_from n front [] [] e fit free = refl
fits_from n front [] (value ∷ row) e fit free = absurd (cc (fit))
fits_from n front (column ∷ columns) [] e fit free = absurd (cc (fit))
fits_from n front (column ∷ columns) (value ∷ row) e fit free =
    fits_one column.nullable n front column columns value row refl e fit free (λ rest.
    fits_from (suc n) (front ++ value ∷ []) columns row (longer n front value e) (second_true (value_fits column.ty value) (types_fit columns row) fit)
    (ap (null_refusal (required_from (suc n) columns)) (append_assoc front (value ∷ []) row) ∙ rest))

pub row_of_types : (columns : List ColTy) (row : Row) → types_fit columns row ≡ true → null_refusal (required_from 0 columns) row ≡ None → row_fits columns row ≡ true
row_of_types columns row fit free = fits_from 0 [] columns row refl fit free

-- ---- a change that tells its key alone

free_rest : (test : Bool) (k : ℕ) (rest : List ℕ) (row : Row) → null_refusal (cond test (k ∷ rest) rest) row ≡ None → null_refusal rest row ≡ None
free_rest true k rest row e = (no_code (is_null (cell k row)) (NullNotAllowed (k + 1)) (null_refusal rest row) e).1
free_rest false k rest row e = e

-- each column of the key in which NULL may not stand has a value
known-asked : (required key : List ℕ) (row : Row) → null_refusal (filter (is_among required) key) row ≡ None → (c : ℕ) → is_among key c ≡ true → is_among required c ≡ true → is_null (cell c row) ≡ false
known-asked required [] row free c e h = absurd (cc (e))
known-asked required (k ∷ key) row free c e h =
    let rest = filter (is_among required) key in
    elim (k == c) as (λ b. (k == c) ≡ b → (b || is_among key c) ≡ true → is_null (cell c row) ≡ false) [
      | true ↦ λ same found.
          let is : k ≡ c = eqb-true k c same in
          let first : is_among required k ≡ true = ap (is_among required) is ∙ h in
          let asked : null_refusal (k ∷ rest) row ≡ None = sym (ap (λ t. null_refusal (cond t (k ∷ rest) rest) row) first) ∙ free in
          subst (λ n. is_null (cell n row) ≡ false) is (no_code (is_null (cell k row)) (NullNotAllowed (k + 1)) (null_refusal rest row) asked).0
      | false ↦ λ other found. known-asked required key row (free_rest (is_among required k) k rest row free) c found h
    ] refl e

more_required : (nullable : Bool) (n : ℕ) (rest : List ℕ) (c : ℕ) → is_among rest c ≡ true → is_among (cond nullable rest (n ∷ rest)) c ≡ true
more_required true n rest c h = h
more_required false n rest c h = elim (n == c) as (λ b. (b || is_among rest c) ≡ true) [ true ↦ refl | false ↦ h ]

own_required : (nullable : Bool) (n : ℕ) (rest : List ℕ) → nullable ≡ false → is_among (cond nullable rest (n ∷ rest)) n ≡ true
own_required true n rest e = absurd (cc (e))
own_required false n rest e = ap (λ b. b || is_among rest n) (eq-eqb n n refl)

may_stand : (nullable among null : Bool) → (nullable ≡ false → among ≡ true → null ≡ false) → ((nullable || not among) || not null) ≡ true
may_stand true among null known = refl
may_stand false false null known = refl
may_stand false true null known = ap not (known refl refl)

told_from : (key : List ℕ) (n : ℕ) (front : Row) (columns : List ColTy) (row : Row) → length front ≡ n → types_fit columns row ≡ true
    → ((c : ℕ) → is_among key c ≡ true → is_among (required_from n columns) c ≡ true → is_null (cell c (front ++ row)) ≡ false) → row_fits (nullable_outside key n columns) row ≡ true
told_from key n front [] [] e fit known = refl
told_from key n front [] (value ∷ row) e fit known = absurd (cc (fit))
told_from key n front (column ∷ columns) [] e fit known = absurd (cc (fit))
told_from key n front (column ∷ columns) (value ∷ row) e fit known =
    let rest = required_from (suc n) columns in
    let here : is_null (cell n (front ++ value ∷ row)) ≡ is_null value = ap is_null (ap (λ k. cell k (front ++ value ∷ row)) (sym e) ∙ cell_at front value row) in
    let own = first_true (value_fits column.ty value) (types_fit columns row) fit in
    let stands = may_stand column.nullable (is_among key n) (is_null value) (λ may told. sym here ∙ known n told (own_required column.nullable n rest may)) in
    let more = told_from key (suc n) (front ++ value ∷ []) columns row (longer n front value e) (second_true (value_fits column.ty value) (types_fit columns row) fit)
    (λ c told asked. ap (λ (r : Row). is_null (cell c r)) (append_assoc front (value ∷ []) row) ∙ known c told (more_required column.nullable n rest c asked)) in
    both_true _ _ (both_true _ _ own stands) more

-- a row with values of its columns' types, which tells no more than its change does, and no NULL where none may stand, has its columns
pub told_of_types : (columns : List ColTy) (told : Option (List ℕ)) (row : Row) → types_fit columns row ≡ true → is_told told row ≡ true → null_refusal (asked_of (required_from 0 columns) told) row ≡ None → told_fits told columns row ≡ true
told_of_types columns None row fit is free = row_of_types columns row fit free
told_of_types columns (Some key) row fit is free = both_true _ _ (told_from key 0 [] columns row refl fit (known-asked (required_from 0 columns) key row free)) is
