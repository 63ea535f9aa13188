-- How the columns of partials are read: as numbers that are summed up, and as least and greatest values.
use Rattle.std.specs.Prelude.{◌≡◌, ℤ, pos, ◌+ℤ◌, Bool, true, false, not, ◌&&◌, ◌||◌, List, [], ◌∷◌, drop}
use Rattle.std.specs.Ordering.{eq_by_cmp, is_gt}
use Rattle.ct_value.specs.Order.{value_cmp, number_of}
use Rattle.ct_value.specs.declared.value.Value.{Value}
use Rattle.ct_value.specs.declared.value.Value.TheVariants.{Num}
use Rattle.ct_field.specs.Typed.{cell, is_null}
use Rattle.rel_algebra.specs.declared.agg.AggCall.{AggCall}
use Rattle.rel_algebra.specs.declared.agg.AggCall.TheVariants.{CountAll, Count, CountDistinct, Sum, Min, Max, Avg}

-- what a column of a partial is read for: a number to be summed up, or the least or the greatest value
pub data Part : Type 0 where
  summed : Part
  lowest : Part
  highest : Part

abbrev pub parts_by : AggCall → List Part
parts_by CountAll = summed ∷ []
parts_by Count = summed ∷ []
parts_by CountDistinct = []
parts_by Sum = summed ∷ (summed ∷ [])
parts_by Min = lowest ∷ []
parts_by Max = highest ∷ []
parts_by Avg = summed ∷ (summed ∷ [])

-- what a value adds to a sum
abbrev pub adds_to_sum : Part → Value → ℤ
adds_to_sum summed value = number_of value
adds_to_sum lowest value = pos 0
adds_to_sum highest value = pos 0

-- whether a least value reaches down to a limit, or a greatest one up to it; NULL reaches none
abbrev pub reaches : Part → Value → Value → Bool
reaches summed value limit = false
reaches lowest value limit = not (is_null value) && not (is_gt (value_cmp value limit))
reaches highest value limit = not (is_null value) && not (is_gt (value_cmp limit value))

-- whether a value is worth nothing: the number 0, or NULL where the least or the greatest value stands
abbrev pub is_blank : Part → Value → Bool
is_blank summed value = eq_by_cmp value_cmp value (Num (pos 0))
is_blank lowest value = is_null value
is_blank highest value = is_null value

-- so it is in each of these columns
abbrev pub all_blank : List Part → List Value → Bool
all_blank [] values = true
all_blank (part ∷ parts) values = is_blank part (cell 0 values) && all_blank parts (drop 1 values)

-- two values are worth together what a third one is
pub record AddUp (part : Part) (x y z : Value) : Type 0 where
  pub sums : adds_to_sum part x +ℤ adds_to_sum part y ≡ adds_to_sum part z
  pub reached : (limit : Value) → (reaches part x limit || reaches part y limit) ≡ reaches part z limit

-- and so are those of each of these columns
abbrev pub AllAddUp : List Part → List Value → List Value → List Value → Type 0
AllAddUp [] xs ys zs = Unit {0}
AllAddUp (part ∷ parts) xs ys zs = AddUp part (cell 0 xs) (cell 0 ys) (cell 0 zs) × AllAddUp parts (drop 1 xs) (drop 1 ys) (drop 1 zs)
