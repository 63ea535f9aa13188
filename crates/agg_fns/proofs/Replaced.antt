-- What a bag of values is with one value in the place of another.
use Rattle.std.proofs.Common.{◌≡◌, ℕ, ◌+◌, ◌-◌, ◌<◌, ◌≤◌, ◌^◌, true, false, cond, refl, sym, ap, ◌∙◌, arith}
use Rattle.std.specs.Prelude.{◌+ℤ◌, ◌-ℤ◌}
use Rattle.ct_value.specs.Bag.{add, remove, copies}
use Rattle.ct_value.proofs.laws.Bags.{copies-add, add-remove, remove-add, same_bag}
use Rattle.ct_value.specs.Order.{value_total, value_exact, number_of}
use Rattle.ct_value.specs.declared.value.Value.{Value}
use Rattle.ct_field.specs.Typed.{is_null}
use Rattle.rel_algebra.specs.Aggregates.{Values, size, known, sum_of}
use Rattle.ct_value.specs.declared.ty.Ty.{Ty}
use Rattle.rel_algebra.specs.declared.agg.AggCall.{AggCall}
use Rattle.agg_fns.specs.Standing.{gained, lost, StandsFor}
use Rattle.agg_fns.specs.declared.distinct.Distinct.{Distinct}
use Rattle.agg_fns.specs.declared.numbers.Numbers.{Numbers}
use Rattle.agg_fns.specs.declared.acc.Acc.TheVariants.{ValueCount, DistinctCount, Total, Average, LeastOf, GreatestOf}
use Rattle.agg_fns.proofs.Added.{size_add, known_add, known_remove, known_size_add, known_sum_add, copies_known, known_few}
use Rattle.agg_fns.proofs.Stands.{size_remove, known_size_remove, known_sum_remove}

add-swap : (values : Values) (x y : Value) → add (add values x) y ≡ add (add values y) x
add-swap values x y = same_bag value_total value_exact _ _ (λ z. omega (arith, copies-add value_total (add values x) y z, copies-add value_total values x z, copies-add value_total (add values y) x z, copies-add value_total values y z))

remove-swap : (values : Values) (old fresh : Value) → 0 < copies values old → remove (add values fresh) old ≡ add (remove values old) fresh
remove-swap values old fresh some =
    ap (λ b. remove (add b fresh) old) (sym (add-remove value_total value_exact values old some))
    ∙ ap (λ b. remove b old) (add-swap (remove values old) old fresh)
    ∙ remove-add value_total value_exact (add (remove values old) fresh) old

pub still_there : (values : Values) (old fresh : Value) → 0 < copies values old → 0 < copies (gained values fresh) old
still_there values old fresh some = elim (is_null fresh) as (λ b. 0 < copies (cond b values (add values fresh)) old) [ true ↦ some | false ↦ omega (arith, copies-add value_total values fresh old) ]

pub gained_lost : (values : Values) (old fresh : Value) → (is_null old ≡ false → 0 < copies values old) → lost (gained values fresh) old ≡ gained (lost values old) fresh
gained_lost values old fresh some =
    elim (is_null old) as (λ b. is_null old ≡ b → cond b (gained values fresh) (remove (gained values fresh) old) ≡ gained (cond b values (remove values old)) fresh) [
      | true ↦ λ e. refl
      | false ↦ λ e. elim (is_null fresh) as (λ b. remove (cond b values (add values fresh)) old ≡ cond b (remove values old) (add (remove values old) fresh)) [
        | true ↦ refl
        | false ↦ remove-swap values old fresh (some e)
      ]
    ] refl

module _ (values : Values) (old fresh : Value) (some : 0 < copies values old) where
  pub size_replaced : size (add (remove values old) fresh) ≡ size values
  size_replaced = let a = size_add (remove values old) fresh in let b = size_remove values old some in omega arith

  pub known_size_replaced : cond (is_null old) 0 1 + size (known (add (remove values old) fresh)) ≡ cond (is_null fresh) 0 1 + size (known values)
  known_size_replaced = let a = known_size_add (remove values old) fresh in let b = known_size_remove values old some in omega arith

  pub known_replaced : known (add (remove values old) fresh) ≡ gained (lost (known values) old) fresh
  known_replaced = known_add (remove values old) fresh ∙ ap (λ k. gained k fresh) (known_remove values old some)

  pub known_sum_replaced : sum_of (known (add (remove values old) fresh)) ≡ number_of fresh +ℤ (sum_of (known values) -ℤ number_of old)
  known_sum_replaced = known_sum_add (remove values old) fresh ∙ ap (λ s. number_of fresh +ℤ s) (known_sum_remove values old some)

-- ---- what holds a value of which one stands has room for another

module _ (call : AggCall) (ty : Ty) (values : Values) (few : size values + 1 < 2 ^ 63) where
  known_room : size (known values) + 1 < 2 ^ 63
  known_room = let a = known_few values in omega arith

  pub value_room : (count : ℕ) → StandsFor call ty (ValueCount count) values → count + 1 < 2 ^ 63
  value_room count (is, count_is) = let a = known_room in omega arith

  pub total_room : (numbers : Numbers) → StandsFor call ty (Total numbers) values → numbers.count + 1 < 2 ^ 64
  total_room numbers (is, (ty_is, count_is, sum_is)) = let a = known_room in omega arith

  pub average_room : (numbers : Numbers) → StandsFor call ty (Average numbers) values → numbers.count + 1 < 2 ^ 64
  average_room numbers (is, (ty_is, count_is, sum_is), digits) = let a = known_room in omega arith

  room_in : (kept : Values) → kept ≡ known values → size kept + 1 < 2 ^ 64
  room_in kept is = let a = known_room in let b = ap size is in omega arith

  pub distinct_room : (distinct : Distinct) → StandsFor call ty (DistinctCount distinct) values → size distinct.kept + 1 < 2 ^ 64
  distinct_room distinct (is, kept_is, count_is) = room_in distinct.kept kept_is

  pub least_room : (kept : Values) → StandsFor call ty (LeastOf kept) values → size kept + 1 < 2 ^ 64
  least_room kept (is, kept_is) = room_in kept kept_is

  pub greatest_room : (kept : Values) → StandsFor call ty (GreatestOf kept) values → size kept + 1 < 2 ^ 64
  greatest_room kept (is, kept_is) = room_in kept kept_is

module _ (call : AggCall) (ty : Ty) (values : Values) (value : Value) (some : 0 < copies values value) where
  there_in : (kept : Values) → kept ≡ known values → is_null value ≡ false → 0 < copies kept value
  there_in kept is known_one = let a = copies_known values value known_one in let b = ap (λ k. copies k value) is in omega arith

  pub distinct_there : (distinct : Distinct) → StandsFor call ty (DistinctCount distinct) values → is_null value ≡ false → 0 < copies distinct.kept value
  distinct_there distinct (is, kept_is, count_is) = there_in distinct.kept kept_is

  pub least_there : (kept : Values) → StandsFor call ty (LeastOf kept) values → is_null value ≡ false → 0 < copies kept value
  least_there kept (is, kept_is) = there_in kept kept_is

  pub greatest_there : (kept : Values) → StandsFor call ty (GreatestOf kept) values → is_null value ≡ false → 0 < copies kept value
  greatest_there kept (is, kept_is) = there_in kept kept_is

-- a count of values with one in the place of another
pub count_replaced : (values : Values) (old fresh : Value) (count gone come : ℕ) → 0 < copies values old → count ≡ size (known values) → gone ≡ cond (is_null old) 0 1 → come ≡ cond (is_null fresh) 0 1 → gone ≤ count
    → count - gone + come ≡ size (known (add (remove values old) fresh))
count_replaced values old fresh count gone come some is was now held = let a = known_size_replaced values old fresh some in omega arith
