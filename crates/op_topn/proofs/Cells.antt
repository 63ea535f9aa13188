-- The value of a column, by look-up.
use Rattle.std.proofs.Common.{◌≡◌, ℕ, zero, suc, [], ◌∷◌, refl}
use Rattle.std.specs.Prelude.{slice_get}
use Rattle.ct_value.specs.declared.row.Row.{Row}
use Rattle.ct_field.specs.Typed.{cell}
use Rattle.op_topn.specs.Keys.{or_null}

pub cell_got : (row : Row) (n : ℕ) → or_null (slice_get row n) ≡ cell n row
cell_got [] n = refl
cell_got (value ∷ row) zero = refl
cell_got (value ∷ row) (suc n) = cell_got row n
