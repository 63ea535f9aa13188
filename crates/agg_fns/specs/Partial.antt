-- Partials: what values come and gone amount to, so that it can be merged into what is kept of other values.
use Rattle.std.specs.Prelude.{ℕ, ℤ, pos, ◌-ℤ◌, Bool, true, false, List, [], ◌∷◌, map}
use Rattle.ct_value.specs.Bag.{items, bag_of}
use Rattle.ct_value.specs.declared.ty.ColTy.{ColTy}
use Rattle.ct_value.specs.declared.ty.Ty.{Ty}
use Rattle.ct_value.specs.declared.ty.Ty.TheVariants.{Bool as Truths, Int, BigInt, Decimal, Text as Texts}
use Rattle.ct_value.specs.declared.value.Value.{Value}
use Rattle.ct_value.specs.declared.value.Value.TheVariants.{Num}
use Rattle.ct_field.specs.Numbers.{has_38_digits}
use Rattle.ct_field.specs.Typed.{cell}
use Rattle.rel_algebra.specs.declared.agg.AggCall.{AggCall}
use Rattle.rel_algebra.specs.declared.agg.AggCall.TheVariants.{CountAll, Count, CountDistinct, Sum, Min, Max, Avg}
use Rattle.rel_algebra.specs.Aggregates.{Values, size, known, sum_of, first_value, last_value, count_column}

-- whether values of a call can be taken in two phases: how many different ones two bags have together can't be told from how many
-- each has
abbrev pub has_partial : AggCall → Bool
has_partial CountAll = true
has_partial Count = true
has_partial CountDistinct = false
has_partial Sum = true
has_partial Min = true
has_partial Max = true
has_partial Avg = true

-- whether values can also go before the partial is made: the least and the greatest value don't tell what is left without them
abbrev pub is_signed : AggCall → Bool
is_signed CountAll = true
is_signed Count = true
is_signed CountDistinct = false
is_signed Sum = true
is_signed Min = false
is_signed Max = false
is_signed Avg = true

-- how many more have come than gone, below 0 where more have gone
abbrev pub net : ℕ → ℕ → ℤ
net come gone = pos come -ℤ pos gone

-- how many more values that aren't NULL have come than gone
abbrev pub net_known : Values → Values → ℤ
net_known come gone = net (size (known come)) (size (known gone))

-- the sum of the values come, less the sum of those gone
abbrev pub net_sum : Values → Values → ℤ
net_sum come gone = sum_of (known come) -ℤ sum_of (known gone)

-- the partial of a call on values come and gone
abbrev pub partial_of : AggCall → Values → Values → List Value
partial_of CountAll come gone = Num (net (size come) (size gone)) ∷ []
partial_of Count come gone = Num (net_known come gone) ∷ []
partial_of CountDistinct come gone = []
partial_of Sum come gone = Num (net_known come gone) ∷ Num (net_sum come gone) ∷ []
partial_of Min come gone = first_value (items (known come)) ∷ []
partial_of Max come gone = last_value (items (known come)) ∷ []
partial_of Avg come gone = Num (net_known come gone) ∷ Num (net_sum come gone) ∷ []

-- whether the sum in a call's partial has at most 38 digits
abbrev pub partial_fits : AggCall → Values → Values → Bool
partial_fits CountAll come gone = true
partial_fits Count come gone = true
partial_fits CountDistinct come gone = true
partial_fits Sum come gone = has_38_digits (net_sum come gone)
partial_fits Min come gone = true
partial_fits Max come gone = true
partial_fits Avg come gone = has_38_digits (net_sum come gone)

-- the values in a column of rows
abbrev pub column_of : ℕ → List (List Value) → Values
column_of n rows = bag_of (map (λ row. cell n row) rows)

-- the column-wise sum of partials of a call, in MIN and MAX the least or greatest value
abbrev pub partials_sum : AggCall → List (List Value) → List Value
partials_sum CountAll rows = Num (sum_of (column_of 0 rows)) ∷ []
partials_sum Count rows = Num (sum_of (column_of 0 rows)) ∷ []
partials_sum CountDistinct rows = []
partials_sum Sum rows = Num (sum_of (column_of 0 rows)) ∷ Num (sum_of (column_of 1 rows)) ∷ []
partials_sum Min rows = first_value (items (known (column_of 0 rows))) ∷ []
partials_sum Max rows = last_value (items (known (column_of 0 rows))) ∷ []
partials_sum Avg rows = Num (sum_of (column_of 0 rows)) ∷ Num (sum_of (column_of 1 rows)) ∷ []

-- the decimals of a sum
abbrev pub sum_scale : Ty → ℕ
sum_scale (Decimal p s) = s
sum_scale Truths = 0
sum_scale Int = 0
sum_scale BigInt = 0
sum_scale Texts = 0

-- the column of a partial's sum
abbrev pub sum_column : Ty → ColTy
sum_column ty = record { ty = Decimal 38 (sum_scale ty); nullable = false }

-- the column of a partial's least or greatest value, NULL where there is none
abbrev pub extreme_column : Ty → ColTy
extreme_column ty = record { ty = ty; nullable = true }

-- the columns of the partial of a call on values of a type
abbrev pub partial_columns : AggCall → Ty → List ColTy
partial_columns CountAll ty = count_column ∷ []
partial_columns Count ty = count_column ∷ []
partial_columns CountDistinct ty = []
partial_columns Sum ty = count_column ∷ sum_column ty ∷ []
partial_columns Min ty = extreme_column ty ∷ []
partial_columns Max ty = extreme_column ty ∷ []
partial_columns Avg ty = count_column ∷ sum_column ty ∷ []
