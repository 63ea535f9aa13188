-- Changes that tell the key of their row alone, and which rows are those of such a change.
use Rattle.std.specs.Prelude.{ℕ, suc, Bool, true, ◌&&◌, ◌||◌, not, List, [], ◌∷◌, Option, Some, None}
use Rattle.ct_value.specs.declared.row.Row.{Row}
use Rattle.ct_value.specs.declared.ty.ColTy.{ColTy}
use Rattle.ct_field.specs.Typed.{row_fits}
use Rattle.ct_change.specs.declared.kind.Kind.{Kind}
use Rattle.ct_change.specs.declared.kind.Kind.TheVariants.{I, UB, UA, D}
use Rattle.ct_change.specs.declared.change.Change.{Change}
use Rattle.ct_change.specs.Changelog.{Mode, append, retract, upsert, same_row}
use Rattle.ct_change.specs.KeyRows.{is_among, key_row}
use Rattle.op_rules.specs.Values.{types_fit}

-- the key of an upsert table
abbrev pub upsert_key : Mode → Option (List ℕ)
upsert_key append = None
upsert_key retract = None
upsert_key (upsert key) = Some key

-- where a table has such a key, a `-D` tells that alone
abbrev pub told_by : Option (List ℕ) → Kind → Option (List ℕ)
told_by None kind = None
told_by (Some key) I = None
told_by (Some key) UB = None
told_by (Some key) UA = None
told_by (Some key) D = Some key

-- the key that a change of this kind tells alone, where it does
abbrev pub told_key : Mode → Kind → Option (List ℕ)
told_key mode kind = told_by (upsert_key mode) kind

-- whether a row tells no more than such a key
abbrev pub is_told : Option (List ℕ) → Row → Bool
is_told None row = true
is_told (Some key) row = same_row (key_row key row) row

-- whether a change of a mode has a row for these columns, each of its values NULL or of its column's type
abbrev pub is_typed : Mode → List ColTy → Change → Bool
is_typed mode columns change = types_fit columns change.row && is_told (told_key mode change.kind) change.row

-- the columns, from this one on, NULL allowed in each that isn't one of the key's
abbrev pub nullable_outside : List ℕ → ℕ → List ColTy → List ColTy
nullable_outside key column [] = []
nullable_outside key column (ty ∷ types) = record { ty = ty.ty; nullable = ty.nullable || not (is_among key column) } ∷ nullable_outside key (suc column) types

-- whether a row has these columns, NULL only where it may stand; one that tells a key alone, the columns of that
abbrev pub told_fits : Option (List ℕ) → List ColTy → Row → Bool
told_fits None columns row = row_fits columns row
told_fits (Some key) columns row = row_fits (nullable_outside key 0 columns) row && is_told (Some key) row
