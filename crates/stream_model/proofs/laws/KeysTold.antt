-- Which changes tell their key alone, and that such a row is a key row.
use Rattle.std.proofs.Common.{◌≡◌, ℕ, suc, true, false, List, [], ◌∷◌, map, Option, Some, None, refl, sym, ap, ◌∙◌}
use Rattle.ct_value.specs.declared.ty.ColTy.{ColTy}
use Rattle.ct_value.specs.declared.row.Row.{Row}
use Rattle.ct_field.specs.Typed.{row_fits}
use Rattle.ct_field.proofs.laws.Numbers.{first_true, second_true}
use Rattle.ct_change.specs.declared.kind.Kind.{Kind}
use Rattle.ct_change.specs.declared.kind.Kind.TheVariants.{I, UB, UA, D}
use Rattle.ct_change.specs.declared.change.Change.{Change}
use Rattle.ct_change.specs.Changelog.{Mode, append, retract, upsert, adds, admits, same_row}
use Rattle.ct_change.specs.KeyRows.{IsKeyed, IsKeyRow, key_row}
use Rattle.ct_change.proofs.laws.Meanings.{same_row-itself, same_row-true}
use Rattle.op_rules.specs.Values.{types_fit, values_fit}
use Rattle.op_rules.proofs.laws.Values.{types_of_row}
use Rattle.stream_model.specs.KeysTold.{is_told, nullable_outside, told_by, told_fits, told_key}
use Rattle.stream_model.specs.Tables.{asked_of}

-- a row that comes is told whole
pub told-added : (key : Option (List ℕ)) (kind : Kind) → adds kind ≡ true → told_by key kind ≡ None
told-added None kind a = refl
told-added (Some key) I a = refl
told-added (Some key) UB a = absurd (cc (a))
told-added (Some key) UA a = refl
told-added (Some key) D a = absurd (cc (a))

pub asked-added : (required : List ℕ) (key : Option (List ℕ)) (kind : Kind) → adds kind ≡ true → asked_of required (told_by key kind) ≡ required
asked-added required key kind a = ap (asked_of required) (told-added key kind a)

-- a row that tells a key alone is a key row
pub key_row-told : (key : List ℕ) (row : Row) → is_told (Some key) row ≡ true → IsKeyRow key row
key_row-told key row e = same_row-true (key_row key row) row e

pub told-key_row : (key : List ℕ) (row : Row) → IsKeyRow key row → is_told (Some key) row ≡ true
told-key_row key row e = ap (λ (x : Row). same_row x row) e ∙ same_row-itself row

-- so a removal that a mode takes is keyed
keyed-removal : (key : List ℕ) (kind : Kind) (row : Row) → admits (upsert key) kind ≡ true → is_told (told_by (Some key) kind) row ≡ true → adds kind ≡ false → IsKeyRow key row
keyed-removal key I row a told e = absurd (cc (e))
keyed-removal key UB row a told e = absurd (cc (a))
keyed-removal key UA row a told e = absurd (cc (e))
keyed-removal key D row a told e = key_row-told key row told

pub keyed-told : (mode : Mode) (change : Change) → admits mode change.kind ≡ true → is_told (told_key mode change.kind) change.row ≡ true → IsKeyed mode change
keyed-told append change a told = tt
keyed-told retract change a told = tt
keyed-told (upsert key) change a told = λ e. keyed-removal key change.kind change.row a told e

-- ---- columns

same_types : (key : List ℕ) (n : ℕ) (columns : List ColTy) → map (λ c. c.ty) (nullable_outside key n columns) ≡ map (λ c. c.ty) columns
same_types key n [] = refl
same_types key n (column ∷ columns) = ap (λ tys. column.ty ∷ tys) (same_types key (suc n) columns)

-- a row that is told so has values of its columns' types, and tells no more
pub told-types : (key : Option (List ℕ)) (columns : List ColTy) (row : Row) → told_fits key columns row ≡ true → types_fit columns row ≡ true
told-types None columns row e = types_of_row columns row e
told-types (Some key) columns row e =
    sym (ap (λ tys. values_fit tys row) (same_types key 0 columns)) ∙ types_of_row (nullable_outside key 0 columns) row (first_true (row_fits (nullable_outside key 0 columns) row) (is_told (Some key) row) e)

pub told-is : (key : Option (List ℕ)) (columns : List ColTy) (row : Row) → told_fits key columns row ≡ true → is_told key row ≡ true
told-is None columns row e = refl
told-is (Some key) columns row e = second_true (row_fits (nullable_outside key 0 columns) row) (is_told (Some key) row) e
