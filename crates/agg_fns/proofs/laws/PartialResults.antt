-- The result from the partial of all values is the value of the call on them.
use Rattle.std.proofs.Common.{◌≡◌, ℕ, ◌==◌, true, cond, Option, Some, refl, ap, arith}
use Rattle.std.specs.Prelude.{ℤ, pos, ◌-ℤ◌, unsigned_abs}
use Rattle.std.proofs.lemmas.Int.{ints}
use Rattle.ct_value.specs.Bag.{none}
use Rattle.ct_value.specs.declared.ty.Ty.{Ty}
use Rattle.ct_value.specs.declared.ty.Ty.TheVariants.{BigInt}
use Rattle.ct_value.specs.declared.value.Value.{Value}
use Rattle.ct_value.specs.declared.value.Value.TheVariants.{Null}
use Rattle.ct_field.specs.Numbers.{in_range, has_38_digits}
use Rattle.rel_algebra.specs.declared.agg.AggCall.{AggCall}
use Rattle.rel_algebra.specs.declared.agg.AggCall.TheVariants.{CountAll, Count, CountDistinct, Sum, Min, Max, Avg}
use Rattle.rel_algebra.specs.Aggregates.{Values, size, known, sum_of, in_type, sum_type, average, agg_value, sum_fits}
use Rattle.agg_fns.specs.Partial.{has_partial, net, net_known, net_sum, partial_of}
use Rattle.agg_fns.specs.PartialResults.{result_of, result_fits}
use Rattle.agg_fns.proofs.Stands.{size_none, known_size_none, known_sum_none}

whole : (n z : ℕ) → 0 ≡ z → net n z ≡ pos n
whole n z e = omega (arith, ints)

same : (a z : ℤ) → pos 0 ≡ z → a -ℤ z ≡ a
same a z e = omega (arith, ints)

all_rows : (values : Values) → net (size values) (size none) ≡ pos (size values)
all_rows values = whole (size values) (size none) size_none

all_known : (values : Values) → net_known values none ≡ pos (size (known values))
all_known values = whole (size (known values)) (size (known none)) known_size_none

all_sum : (values : Values) → net_sum values none ≡ sum_of (known values)
all_sum values = same (sum_of (known values)) (sum_of (known none)) known_sum_none

pub result_whole : (call : AggCall) → has_partial call ≡ true → (ty : Ty) (values : Values) → result_of call ty (partial_of call values none) ≡ agg_value call ty values
result_whole CountAll h ty values = ap (in_type BigInt) (all_rows values)
result_whole Count h ty values = ap (in_type BigInt) (all_known values)
result_whole CountDistinct h ty values = absurd (cc)
result_whole Sum h ty values = λ i. cond (unsigned_abs (all_known values i) == 0) (let r : Option Value = Some Null in r) (in_type (sum_type ty) (all_sum values i))
result_whole Min h ty values = refl
result_whole Max h ty values = refl
result_whole Avg h ty values = λ i. cond (unsigned_abs (all_known values i) == 0) (let r : Option Value = Some Null in r) (average ty (all_sum values i) (unsigned_abs (all_known values i)))

pub fits_whole : (call : AggCall) (ty : Ty) (values : Values) → result_fits call ty (partial_of call values none) ≡ sum_fits call ty values
fits_whole CountAll ty values = refl
fits_whole Count ty values = refl
fits_whole CountDistinct ty values = refl
fits_whole Sum ty values = ap (in_range (sum_type ty)) (all_sum values)
fits_whole Min ty values = refl
fits_whole Max ty values = refl
fits_whole Avg ty values = ap has_38_digits (all_sum values)
