-- The value that a row has for a call.
use Rattle.std.specs.Prelude.{cond, Option, Some, None}
use Rattle.ct_value.specs.declared.row.Row.{Row}
use Rattle.ct_value.specs.declared.value.Value.{Value}
use Rattle.rel_algebra.specs.declared.agg.Agg.{Agg}
use Rattle.rel_algebra.specs.Aggregates.{argument, passes}

-- none where there is no row, or it doesn't count
abbrev pub picked : Agg → Option Row → Option Value
picked agg None = None
picked agg (Some row) = cond (passes agg.filter row) (Some (argument agg.arg row)) None
