-- The result of a call from the partial of all its values.
use Rattle.std.specs.Prelude.{◌==◌, unsigned_abs, Bool, true, cond, List, Option, Some, None}
use Rattle.ct_value.specs.Order.{number_of}
use Rattle.ct_value.specs.declared.ty.Ty.{Ty}
use Rattle.ct_value.specs.declared.ty.Ty.TheVariants.{BigInt}
use Rattle.ct_value.specs.declared.value.Value.{Value}
use Rattle.ct_value.specs.declared.value.Value.TheVariants.{Null}
use Rattle.ct_field.specs.Numbers.{in_range, has_38_digits}
use Rattle.ct_field.specs.Typed.{cell}
use Rattle.rel_algebra.specs.declared.agg.AggCall.{AggCall}
use Rattle.rel_algebra.specs.declared.agg.AggCall.TheVariants.{CountAll, Count, CountDistinct, Sum, Min, Max, Avg}
use Rattle.rel_algebra.specs.Aggregates.{in_type, sum_type, average}

-- NULL where there are no values
abbrev pub unless_no_values : List Value → Option Value → Option Value
unless_no_values partial result = cond (unsigned_abs (number_of (cell 0 partial)) == 0) (Some Null) result

-- the value of a call on values of a type with this partial, or out of range; none where a call has no partial
abbrev pub result_of : AggCall → Ty → List Value → Option Value
result_of CountAll ty partial = in_type BigInt (number_of (cell 0 partial))
result_of Count ty partial = in_type BigInt (number_of (cell 0 partial))
result_of CountDistinct ty partial = None
result_of Sum ty partial = unless_no_values partial (in_type (sum_type ty) (number_of (cell 1 partial)))
result_of Min ty partial = Some (cell 0 partial)
result_of Max ty partial = Some (cell 0 partial)
result_of Avg ty partial = unless_no_values partial (average ty (number_of (cell 1 partial)) (unsigned_abs (number_of (cell 0 partial))))

-- whether the sum in it is within the limit of the call's own sum
abbrev pub result_fits : AggCall → Ty → List Value → Bool
result_fits CountAll ty partial = true
result_fits Count ty partial = true
result_fits CountDistinct ty partial = true
result_fits Sum ty partial = in_range (sum_type ty) (number_of (cell 1 partial))
result_fits Min ty partial = true
result_fits Max ty partial = true
result_fits Avg ty partial = has_38_digits (number_of (cell 1 partial))
