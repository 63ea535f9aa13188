-- The value of a column.
use Rattle.std.proofs.Common.{◌≡◌, ℕ}
use Rattle.std.specs.Prelude.{slice_get}
use Rattle.std.specs.Option.{unwrap_or}
use Rattle.std.proofs.lemmas.Option.{unwrap_or-slice_get}
use Rattle.ct_value.specs.declared.row.Row.{Row}
use Rattle.ct_value.specs.declared.value.Value.TheVariants.{Null}
use Rattle.ct_field.specs.Typed.{cell}

pub unwrapped : (row : Row) (column : ℕ) → unwrap_or (slice_get row column) Null ≡ cell column row
unwrapped row column = unwrap_or-slice_get row column Null
