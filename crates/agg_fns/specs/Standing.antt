-- What an accumulator keeps of the values put in, by its call.
use Rattle.std.specs.Prelude.{◌≡◌, Bool, true, false, cond, List, [], ◌∷◌, Option, Some, None}
use Rattle.ct_value.specs.Bag.{items, add, remove}
use Rattle.std.specs.Ordering.{is_lt, is_gt}
use Rattle.ct_value.specs.Order.{value_cmp}
use Rattle.ct_value.specs.declared.ty.Ty.{Ty}
use Rattle.ct_value.specs.declared.value.Value.{Value}
use Rattle.ct_field.specs.Numbers.{has_38_digits}
use Rattle.ct_field.specs.Typed.{is_null}
use Rattle.rel_algebra.specs.declared.agg.AggCall.{AggCall}
use Rattle.rel_algebra.specs.declared.agg.AggCall.TheVariants.{CountAll, Count, CountDistinct, Sum, Min, Max, Avg}
use Rattle.rel_algebra.specs.Aggregates.{Values, size, known, sum_of}
use Rattle.rel_algebra.specs.Sums.{distinct}
use Rattle.agg_fns.specs.declared.acc.Acc.{Acc}
use Rattle.agg_fns.specs.declared.numbers.Numbers.{Numbers}
use Rattle.agg_fns.specs.declared.acc.Acc.TheVariants.{RowCount, ValueCount, DistinctCount, Total, Average, Least, Greatest, LeastOf, GreatestOf}

abbrev pub first_item : List Value → Option Value
first_item [] = None
first_item (value ∷ values) = Some value

abbrev pub last_item : List Value → Option Value
last_item [] = None
last_item (value ∷ []) = Some value
last_item (value ∷ other ∷ values) = last_item (other ∷ values)

-- whether a value takes the place of the least so far
abbrev pub is_below : Value → Option Value → Bool
is_below value None = true
is_below value (Some least) = is_lt (value_cmp value least)

-- whether a value takes the place of the greatest so far
abbrev pub is_above : Value → Option Value → Bool
is_above value None = true
is_above value (Some greatest) = is_gt (value_cmp value greatest)

-- with a value more, if it isn't NULL
abbrev pub gained : Values → Value → Values
gained values value = cond (is_null value) values (add values value)

-- with a value less, if it isn't NULL
abbrev pub lost : Values → Value → Values
lost values value = cond (is_null value) values (remove values value)

-- how many values of the type aren't NULL, and their sum
abbrev pub IsSumOf : Ty → Numbers → Values → Type 0
IsSumOf ty numbers values = (numbers.ty ≡ ty) × (numbers.count ≡ size (known values)) × (numbers.sum ≡ sum_of (known values))

-- an accumulator of a call on a type stands for values: it keeps their numbers, their least or greatest, or all that aren't NULL
abbrev pub StandsFor : AggCall → Ty → Acc → Values → Type 0
StandsFor call ty (RowCount count) values = (call ≡ CountAll) × (count ≡ size values)
StandsFor call ty (ValueCount count) values = (call ≡ Count) × (count ≡ size (known values))
StandsFor call ty (DistinctCount different) values = (call ≡ CountDistinct) × (different.kept ≡ known values) × (different.count ≡ size (distinct (known values)))
StandsFor call ty (Total numbers) values = (call ≡ Sum) × IsSumOf ty numbers values
StandsFor call ty (Average numbers) values = (call ≡ Avg) × IsSumOf ty numbers values × (has_38_digits numbers.sum ≡ true)
StandsFor call ty (Least kept) values = (call ≡ Min) × (kept ≡ first_item (items (known values)))
StandsFor call ty (Greatest kept) values = (call ≡ Max) × (kept ≡ last_item (items (known values)))
StandsFor call ty (LeastOf kept) values = (call ≡ Min) × (kept ≡ known values)
StandsFor call ty (GreatestOf kept) values = (call ≡ Max) × (kept ≡ known values)

-- whether values can be removed again: a least or greatest value alone forgets the others
abbrev pub retracts : Acc → Bool
retracts (RowCount count) = true
retracts (ValueCount count) = true
retracts (DistinctCount different) = true
retracts (Total numbers) = true
retracts (Average numbers) = true
retracts (Least kept) = false
retracts (Greatest kept) = false
retracts (LeastOf kept) = true
retracts (GreatestOf kept) = true
