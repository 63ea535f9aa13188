-- What may come first.
use Rattle.std.proofs.Common.{refl}
use Rattle.ct_change.specs.declared.kind.Kind.TheVariants.{I}
use Rattle.ct_change.specs.Changelog.{Mode, append, retract, upsert, Rows, MayCome}
use Rattle.ct_value.specs.declared.row.Row.{Row}

-- a row may come as an insertion in each mode
pub first_may : (mode : Mode) (rows : Rows) (row : Row) → MayCome mode rows (record { kind = I; row = row })
first_may append rows row = refl
first_may retract rows row = λ e. absurd (cc)
first_may (upsert key) rows row = refl
