-- What each kind of accumulator stands for with a value more, and with one less.
use Rattle.std.proofs.Common.{◌≡◌, ℕ, ◌+◌, ◌<◌, ◌≤◌, cond, List, [], ◌∷◌, None, refl, sym, ap, ◌∙◌, arith}
use Rattle.std.specs.Prelude.{ℤ, pos, ◌+ℤ◌, ◌-ℤ◌}
use Rattle.std.specs.Option.{unwrap_or}
use Rattle.std.proofs.lemmas.Int.{ints}
use Rattle.ct_value.specs.Bag.{items, none, remove, copies}
use Rattle.ct_value.proofs.laws.Bags.{items-none, total-none, add-remove}
use Rattle.ct_value.specs.Order.{value_cmp, value_total, value_exact, number_of}
use Rattle.ct_value.specs.declared.ty.Ty.{Ty}
use Rattle.ct_value.specs.declared.value.Value.{Value}
use Rattle.ct_value.specs.declared.value.Value.TheVariants.{Null}
use Rattle.ct_field.specs.Typed.{is_null}
use Rattle.rel_algebra.specs.declared.agg.AggCall.{AggCall}
use Rattle.rel_algebra.specs.Sums.{distinct}
use Rattle.rel_algebra.specs.Aggregates.{Values, size, known, sum_of, first_value, last_value}
use Rattle.rel_algebra.proofs.laws.Aggregates.{sum_of-none}
use Rattle.rel_algebra.proofs.laws.Bags.{distinct-none}
use Rattle.agg_fns.specs.Standing.{first_item, last_item, StandsFor}
use Rattle.agg_fns.specs.declared.numbers.Numbers.{Numbers}
use Rattle.agg_fns.specs.declared.acc.Acc.TheVariants.{RowCount, ValueCount, Total, Average}
use Rattle.agg_fns.proofs.Added.{size_add, known-none, known_size_add, known_sum_add}

-- ---- of no values

pub size_none : 0 ≡ size none
size_none = sym (total-none {R = value_cmp} value_total (λ _. 1))

pub known_none : none ≡ known none
known_none = sym known-none

pub known_size_none : 0 ≡ size (known none)
known_size_none = size_none ∙ ap size known_none

pub distinct_size_none : 0 ≡ size (distinct (known none))
distinct_size_none = size_none ∙ ap size (sym (ap distinct known-none ∙ distinct-none {R = value_cmp} value_total value_exact))

pub known_sum_none : pos 0 ≡ sum_of (known none)
known_sum_none = sym (ap sum_of known-none ∙ sum_of-none)

pub first_none : None ≡ first_item (items (known none))
first_none = sym (ap (λ b. first_item (items b)) known-none ∙ ap first_item (items-none value_cmp))

pub last_none : None ≡ last_item (items (known none))
last_none = sym (ap (λ b. last_item (items b)) known-none ∙ ap last_item (items-none value_cmp))

-- ---- of a value less

pub size_remove : (values : Values) (value : Value) → 0 < copies values value → 1 + size (remove values value) ≡ size values
size_remove values value some = sym (size_add (remove values value) value) ∙ ap size (add-remove value_total value_exact values value some)

pub known_size_remove : (values : Values) (value : Value) → 0 < copies values value → cond (is_null value) 0 1 + size (known (remove values value)) ≡ size (known values)
known_size_remove values value some = sym (known_size_add (remove values value) value) ∙ ap (λ b. size (known b)) (add-remove value_total value_exact values value some)

minus : (a b c : ℤ) → b +ℤ a ≡ c → a ≡ c -ℤ b
minus a b c e = omega (arith, ints)

pub known_sum_remove : (values : Values) (value : Value) → 0 < copies values value → sum_of (known (remove values value)) ≡ sum_of (known values) -ℤ number_of value
known_sum_remove values value some = minus _ (number_of value) _ (sym (known_sum_add (remove values value) value) ∙ ap (λ b. sum_of (known b)) (add-remove value_total value_exact values value some))

-- ---- results

pub first_unwrapped : (xs : List Value) → unwrap_or (first_item xs) Null ≡ first_value xs
first_unwrapped [] = refl
first_unwrapped (x ∷ xs) = refl

pub last_unwrapped : (xs : List Value) → unwrap_or (last_item xs) Null ≡ last_value xs
last_unwrapped [] = refl
last_unwrapped (x ∷ []) = refl
last_unwrapped (x ∷ y ∷ ys) = last_unwrapped (y ∷ ys)

-- ---- what holds a value counts it

pub row_counted : (call : AggCall) (ty : Ty) (count : ℕ) (values : Values) (value : Value) → StandsFor call ty (RowCount count) values → 0 < copies values value → 1 ≤ count
row_counted call ty count values value (is, count_is) some = let a = size_remove values value some in omega arith

pub value_counted : (call : AggCall) (ty : Ty) (count : ℕ) (values : Values) (value : Value) → StandsFor call ty (ValueCount count) values → 0 < copies values value → cond (is_null value) 0 1 ≤ count
value_counted call ty count values value (is, count_is) some = let a = known_size_remove values value some in omega arith

pub total_counted : (call : AggCall) (ty : Ty) (numbers : Numbers) (values : Values) (value : Value) → StandsFor call ty (Total numbers) values → 0 < copies values value → cond (is_null value) 0 1 ≤ numbers.count
total_counted call ty numbers values value (is, (ty_is, count_is, sum_is)) some = let a = known_size_remove values value some in omega arith

pub average_counted : (call : AggCall) (ty : Ty) (numbers : Numbers) (values : Values) (value : Value) → StandsFor call ty (Average numbers) values → 0 < copies values value → cond (is_null value) 0 1 ≤ numbers.count
average_counted call ty numbers values value (is, (ty_is, count_is, sum_is), digits) some = let a = known_size_remove values value some in omega arith
