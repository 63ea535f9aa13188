-- Which columns go into those of a sink.
use Rattle.std.specs.Prelude.{◌==◌, nat_le, Bool, true, false, ◌&&◌, ◌||◌, List, [], ◌∷◌}
use Rattle.ct_value.specs.declared.ty.ColTy.{ColTy}
use Rattle.ct_value.specs.declared.ty.Ty.{Ty}
use Rattle.ct_value.specs.declared.ty.Ty.TheVariants.{Int, BigInt, Decimal}
use Rattle.ct_expr.specs.Types.{same_ty}

-- INT into BIGINT, and a decimal into one of the same scale and no smaller precision
abbrev pub widens : Ty → Ty → Bool
widens Int BigInt = true
widens (Decimal p s) (Decimal q u) = nat_le p q && (s == u)
widens _ _ = false

-- a column's values may go into a column of the sink
abbrev pub goes_into : ColTy → ColTy → Bool
goes_into column sink = same_ty column.ty sink.ty || widens column.ty sink.ty

-- column by column, equally many
abbrev pub go_into : List ColTy → List ColTy → Bool
go_into [] [] = true
go_into [] (sink ∷ sinks) = false
go_into (column ∷ columns) [] = false
go_into (column ∷ columns) (sink ∷ sinks) = goes_into column sink && go_into columns sinks
