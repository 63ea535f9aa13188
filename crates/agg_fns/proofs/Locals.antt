-- What each kind of local accumulator stands for with a value come, and with one gone.
use Rattle.std.proofs.Common.{◌≡◌, ℕ, ◌+◌, ◌<◌, ◌^◌, cond, arith}
use Rattle.std.specs.Prelude.{ℤ, pos, neg_ℤ, ◌+ℤ◌, ◌-ℤ◌, ◌<ℤ◌, ◌≤ℤ◌}
use Rattle.std.proofs.lemmas.Int.{ints}
use Rattle.ct_value.specs.Bag.{none, add}
use Rattle.ct_value.specs.Order.{number_of}
use Rattle.ct_value.specs.declared.value.Value.{Value}
use Rattle.ct_field.specs.Typed.{is_null}
use Rattle.rel_algebra.specs.declared.agg.AggCall.{AggCall}
use Rattle.rel_algebra.specs.Aggregates.{Values, size, known, sum_of}
use Rattle.agg_fns.specs.ComeAndGone.{StandsForBoth}
use Rattle.agg_fns.specs.Partial.{net, net_known, net_sum}
use Rattle.agg_fns.specs.declared.local_acc.LocalAcc.TheVariants.{RowCount, ValueCount, Total, Average}
use Rattle.agg_fns.specs.declared.net_numbers.NetNumbers.{NetNumbers}
use Rattle.agg_fns.proofs.Added.{size_add, known_size_add, known_sum_add, known_few}

-- ---- of no values

nothing : (n : ℕ) → pos 0 ≡ net n n
nothing n = omega (arith, ints)

pub net_none : pos 0 ≡ net (size none) (size none)
net_none = nothing (size none)

pub net_known_none : pos 0 ≡ net_known none none
net_known_none = nothing (size (known none))

same_sum : (z : ℤ) → pos 0 ≡ z -ℤ z
same_sum z = omega (arith, ints)

pub net_sum_none : pos 0 ≡ net_sum none none
net_sum_none = same_sum (sum_of (known none))

-- ---- with a value more

one_come : (a b c d : ℕ) → a ≡ d + b → net a c ≡ pos d +ℤ net b c
one_come a b c d e = omega (arith, ints)

one_gone : (a b c d : ℕ) → a ≡ d + b → net c a ≡ net c b -ℤ pos d
one_gone a b c d e = omega (arith, ints)

pub net_come : (come gone : Values) (value : Value) → net (size (add come value)) (size gone) ≡ pos 1 +ℤ net (size come) (size gone)
net_come come gone value = one_come _ _ _ _ (size_add come value)

pub net_gone : (come gone : Values) (value : Value) → net (size come) (size (add gone value)) ≡ net (size come) (size gone) -ℤ pos 1
net_gone come gone value = one_gone _ _ _ _ (size_add gone value)

pub net_known_come : (come gone : Values) (value : Value) → net_known (add come value) gone ≡ pos (cond (is_null value) 0 1) +ℤ net_known come gone
net_known_come come gone value = one_come _ _ _ _ (known_size_add come value)

pub net_known_gone : (come gone : Values) (value : Value) → net_known come (add gone value) ≡ net_known come gone -ℤ pos (cond (is_null value) 0 1)
net_known_gone come gone value = one_gone _ _ _ _ (known_size_add gone value)

sum_come : (a b c d : ℤ) → a ≡ d +ℤ b → a -ℤ c ≡ d +ℤ (b -ℤ c)
sum_come a b c d e = omega (arith, ints)

sum_gone : (a b c d : ℤ) → a ≡ d +ℤ b → c -ℤ a ≡ (c -ℤ b) -ℤ d
sum_gone a b c d e = omega (arith, ints)

pub net_sum_come : (come gone : Values) (value : Value) → net_sum (add come value) gone ≡ number_of value +ℤ net_sum come gone
net_sum_come come gone value = sum_come _ _ _ _ (known_sum_add come value)

pub net_sum_gone : (come gone : Values) (value : Value) → net_sum come (add gone value) ≡ net_sum come gone -ℤ number_of value
net_sum_gone come gone value = sum_gone _ _ _ _ (known_sum_add gone value)

-- ---- room for one more

above : (a b : ℕ) (z : ℤ) → z ≡ net a b → a + b + 1 < 2 ^ 63 → (z +ℤ pos 1) <ℤ pos (2 ^ 63)
above a b z e h = omega (arith, ints)

below : (a b : ℕ) (z : ℤ) → z ≡ net a b → a + b + 1 < 2 ^ 63 → neg_ℤ (pos (2 ^ 63)) ≤ℤ (z -ℤ pos 1)
below a b z e h = omega (arith, ints)

module _ (call : AggCall) (come gone : Values) (room : size come + size gone + 1 < 2 ^ 63) where
  known_room : size (known come) + size (known gone) + 1 < 2 ^ 63
  known_room = let a = known_few come in let b = known_few gone in omega arith

  pub rows_above : (count : ℤ) → StandsForBoth call (RowCount count) come gone → (count +ℤ pos 1) <ℤ pos (2 ^ 63)
  rows_above count (is, count_is) = above _ _ count count_is room

  pub rows_below : (count : ℤ) → StandsForBoth call (RowCount count) come gone → neg_ℤ (pos (2 ^ 63)) ≤ℤ (count -ℤ pos 1)
  rows_below count (is, count_is) = below _ _ count count_is room

  pub values_above : (count : ℤ) → StandsForBoth call (ValueCount count) come gone → (count +ℤ pos 1) <ℤ pos (2 ^ 63)
  values_above count (is, count_is) = above _ _ count count_is known_room

  pub values_below : (count : ℤ) → StandsForBoth call (ValueCount count) come gone → neg_ℤ (pos (2 ^ 63)) ≤ℤ (count -ℤ pos 1)
  values_below count (is, count_is) = below _ _ count count_is known_room

  pub total_above : (numbers : NetNumbers) → StandsForBoth call (Total numbers) come gone → (numbers.count +ℤ pos 1) <ℤ pos (2 ^ 63)
  total_above numbers (is, (count_is, sum_is, digits)) = above _ _ numbers.count count_is known_room

  pub total_below : (numbers : NetNumbers) → StandsForBoth call (Total numbers) come gone → neg_ℤ (pos (2 ^ 63)) ≤ℤ (numbers.count -ℤ pos 1)
  total_below numbers (is, (count_is, sum_is, digits)) = below _ _ numbers.count count_is known_room

  pub average_above : (numbers : NetNumbers) → StandsForBoth call (Average numbers) come gone → (numbers.count +ℤ pos 1) <ℤ pos (2 ^ 63)
  average_above numbers (is, (count_is, sum_is, digits)) = above _ _ numbers.count count_is known_room

  pub average_below : (numbers : NetNumbers) → StandsForBoth call (Average numbers) come gone → neg_ℤ (pos (2 ^ 63)) ≤ℤ (numbers.count -ℤ pos 1)
  average_below numbers (is, (count_is, sum_is, digits)) = below _ _ numbers.count count_is known_room
