-- Aggregates: the value of a call on values of one type, or out of range, and the type of the call.
use Rattle.std.specs.Prelude.{ℕ, ◌-◌, ◌/◌, ◌==◌, max, ℤ, pos, ◌+ℤ◌, unsigned_abs, Bool, true, false, cond, not, ◌||◌, ◌&&◌, List, [], ◌∷◌, map, slice_get, Option, Some, None, option_map, is_some}
use Rattle.std.specs.Int.{is_negative}
use Rattle.ct_value.specs.Bag.{Bag, items, total}
use Rattle.ct_value.specs.Order.{value_cmp, number_of}
use Rattle.ct_value.specs.declared.row.Row.{Row}
use Rattle.ct_value.specs.declared.ty.Ty.{Ty}
use Rattle.ct_value.specs.declared.ty.Ty.TheVariants.{Bool as Truths, Int, BigInt, Decimal, Text as Texts}
use Rattle.ct_value.specs.declared.ty.ColTy.{ColTy}
use Rattle.ct_value.specs.declared.value.Value.{Value}
use Rattle.ct_value.specs.declared.value.Value.TheVariants.{Null, Num}
use Rattle.ct_change.specs.Changelog.{Rows}
use Rattle.ct_field.specs.Numbers.{in_range, has_38_digits, raised, signed, nearest_magnitude}
use Rattle.rel_algebra.specs.declared.agg.Agg.{Agg}
use Rattle.rel_algebra.specs.declared.agg.AggCall.{AggCall}
use Rattle.rel_algebra.specs.declared.agg.AggCall.TheVariants.{CountAll, Count, CountDistinct, Sum, Min, Max, Avg}
use Rattle.rel_algebra.specs.Sums.{gather, restrict, distinct, mapped}
use Rattle.rel_algebra.specs.Clauses.{collect}
use Rattle.ct_field.specs.Typed.{is_null, is_number, is_truths, is_true, cell}

abbrev pub Values : Type 0
Values = Bag value_cmp

-- ---- numbers of values

-- each copy counts
abbrev pub size : Values → ℕ
size values = total (λ _. 1) values

-- the values that aren't NULL
abbrev pub known : Values → Values
known values = restrict (λ value. not (is_null value)) values

-- the sum of numbers
unfoldable pub sum_of : Values → ℤ
sum_of values = gather (λ value sum. number_of value +ℤ sum) (pos 0) (items values)

-- toward zero
abbrev pub truncated : ℤ → ℕ → ℤ
truncated n count = signed (is_negative n) (unsigned_abs n / count)

-- to the nearest, and of two equally near ones away from zero
abbrev pub rounded : ℤ → ℕ → ℤ
rounded n count = signed (is_negative n) (nearest_magnitude (unsigned_abs n) count)

-- ---- results

-- a number of the type, or out of range
abbrev pub in_type : Ty → ℤ → Option Value
in_type ty n = cond (in_range ty n) (Some (Num n)) None

-- a count is a BIGINT
abbrev pub count_value : ℕ → Option Value
count_value n = in_type BigInt (pos n)

-- NULL where there is no value
abbrev pub unless_none : Values → Option Value → Option Value
unless_none values result = cond (size values == 0) (Some Null) result

abbrev pub first_value : List Value → Value
first_value [] = Null
first_value (value ∷ values) = value

abbrev pub last_value : List Value → Value
last_value [] = Null
last_value (value ∷ []) = value
last_value (value ∷ other ∷ values) = last_value (other ∷ values)

-- the type in which a sum of values of a type stands
abbrev pub sum_type : Ty → Ty
sum_type (Decimal p s) = Decimal 38 s
sum_type Truths = Truths
sum_type Int = Int
sum_type BigInt = BigInt
sum_type Texts = Texts

-- the decimals of an average, at least 6
abbrev pub avg_scale : ℕ → ℕ
avg_scale s = max 6 s

abbrev pub avg_type : Ty → Ty
avg_type (Decimal p s) = Decimal 38 (avg_scale s)
avg_type Truths = Truths
avg_type Int = Int
avg_type BigInt = BigInt
avg_type Texts = Texts

-- the average of so many numbers with this sum: a whole number is truncated; a decimal is rounded, and out of range where
-- the sum, or the sum with the decimals of the average, has more than 38 digits
abbrev pub average : Ty → ℤ → ℕ → Option Value
average (Decimal p s) sum count = cond (has_38_digits sum) (option_map (λ n. Num (rounded n count)) (raised sum (avg_scale s - s))) None
average Truths sum count = Some (Num (truncated sum count))
average Int sum count = Some (Num (truncated sum count))
average BigInt sum count = Some (Num (truncated sum count))
average Texts sum count = Some (Num (truncated sum count))

-- the value of a call on values that are NULL or of this type, or out of range
abbrev pub agg_value : AggCall → Ty → Values → Option Value
agg_value CountAll ty values = count_value (size values)
agg_value Count ty values = count_value (size (known values))
agg_value CountDistinct ty values = count_value (size (distinct (known values)))
agg_value Sum ty values = unless_none (known values) (in_type (sum_type ty) (sum_of (known values)))
agg_value Min ty values = Some (first_value (items (known values)))
agg_value Max ty values = Some (last_value (items (known values)))
agg_value Avg ty values = unless_none (known values) (average ty (sum_of (known values)) (size (known values)))

-- ---- calls over the rows of a group

-- the value that a call takes of a row; `COUNT(*)` looks at none
abbrev pub argument : Option ℕ → Row → Value
argument None row = Null
argument (Some column) row = cell column row

-- whether a row counts: the filter's column, if there is one, is TRUE
abbrev pub passes : Option ℕ → Row → Bool
passes None row = true
passes (Some column) row = is_true (cell column row)

abbrev pub values_of : Agg → Rows → Values
values_of agg rows = mapped (argument agg.arg) (restrict (passes agg.filter) rows)

-- the type of the argument's column
abbrev pub type_in : List ColTy → Option ℕ → Option ColTy
type_in columns None = None
type_in columns (Some column) = slice_get columns column

abbrev pub ty_or_bigint : Option ColTy → Ty
ty_or_bigint None = BigInt
ty_or_bigint (Some column) = column.ty

-- the result of a call over the rows of a group
abbrev pub agg_result : List ColTy → Rows → Agg → Option Value
agg_result columns rows agg = agg_value agg.call (ty_or_bigint (type_in columns agg.arg)) (values_of agg rows)

-- the results of all calls; every one is evaluated
abbrev pub agg_results : List ColTy → List Agg → Rows → Option Row
agg_results columns aggs rows = collect (map (agg_result columns rows) aggs)

-- ---- types

-- a count's column
abbrev pub count_column : ColTy
count_column = record { ty = BigInt; nullable = false }

abbrev pub column_if : Bool → ColTy → Option ColTy
column_if true column = Some column
column_if false column = None

-- the column of a call on an argument's column; `gaps` where there may be no value even of an argument that is never NULL
abbrev pub call_type : Bool → AggCall → Option ColTy → Option ColTy
call_type gaps CountAll None = Some count_column
call_type gaps Count (Some arg) = Some count_column
call_type gaps CountDistinct (Some arg) = Some count_column
call_type gaps Sum (Some arg) = column_if (is_number arg.ty) (record { ty = sum_type arg.ty; nullable = arg.nullable || gaps })
call_type gaps Min (Some arg) = Some (record { ty = arg.ty; nullable = arg.nullable || gaps })
call_type gaps Max (Some arg) = Some (record { ty = arg.ty; nullable = arg.nullable || gaps })
call_type gaps Avg (Some arg) = column_if (is_number arg.ty) (record { ty = avg_type arg.ty; nullable = arg.nullable || gaps })
call_type gaps call arg = None

abbrev pub column_is_truth : Option ColTy → Bool
column_is_truth None = false
column_is_truth (Some column) = is_truths column.ty

-- an argument's column is there
abbrev pub arg_fits : List ColTy → Option ℕ → Bool
arg_fits columns None = true
arg_fits columns (Some column) = is_some (slice_get columns column)

-- a filter's column is there, and BOOLEAN
abbrev pub filter_fits : List ColTy → Option ℕ → Bool
filter_fits columns None = true
filter_fits columns (Some column) = column_is_truth (slice_get columns column)

-- the column of a call over the rows of a group, or of all rows where there is no group; none where it has no type
abbrev pub agg_type : List ColTy → Bool → Agg → Option ColTy
agg_type columns global agg = cond (filter_fits columns agg.filter && arg_fits columns agg.arg) (call_type (global || is_some agg.filter) agg.call (type_in columns agg.arg)) None

abbrev pub column_before : Option ColTy → Option (List ColTy) → Option (List ColTy)
column_before None columns = None
column_before (Some column) columns = option_map (λ others. column ∷ others) columns

-- the columns of all calls, where each has a type
abbrev pub agg_types : List ColTy → Bool → List Agg → Option (List ColTy)
agg_types columns global [] = Some []
agg_types columns global (agg ∷ aggs) = column_before (agg_type columns global agg) (agg_types columns global aggs)

-- whether the sum that a call keeps of values is within its limit: a SUM in its type, an AVG's sum within 38 digits
abbrev pub sum_fits : AggCall → Ty → Values → Bool
sum_fits CountAll ty values = true
sum_fits Count ty values = true
sum_fits CountDistinct ty values = true
sum_fits Sum ty values = in_range (sum_type ty) (sum_of (known values))
sum_fits Min ty values = true
sum_fits Max ty values = true
sum_fits Avg ty values = has_38_digits (sum_of (known values))
