-- The values that a call takes of rows with counts, and what they weigh together.
use Rattle.std.specs.Prelude.{ℕ, ◌*◌, ◌<◌, ◌^◌, cond, not, ◌&&◌, List, Option, Some, None, unsigned_abs}
use Rattle.std.specs.Int.{is_negative}
use Rattle.std.specs.List.{AllByRecursion}
use Rattle.ct_value.specs.Bag.{weigh}
use Rattle.ct_value.specs.Order.{number_of}
use Rattle.ct_value.specs.declared.row.Row.{Row}
use Rattle.ct_value.specs.declared.value.Value.{Value}
use Rattle.ct_value.specs.declared.value.Value.TheVariants.{Null}
use Rattle.ct_field.specs.Typed.{is_null}
use Rattle.rel_algebra.specs.declared.agg.Agg.{Agg}
use Rattle.rel_algebra.specs.Aggregates.{argument, passes}

-- each row has a copy, and so few that they can be counted
abbrev pub AreCounted : List (Row × ℕ) → Type 0
AreCounted entries = AllByRecursion (λ entry. (0 < entry.1) × (entry.1 < 2 ^ 64)) entries

-- the value that a call takes of a row; none where the row doesn't count or the value is NULL
abbrev pub taken : Agg → Row → Option Value
taken agg row = cond (passes agg.filter row && not (is_null (argument agg.arg row))) (Some (argument agg.arg row)) None

-- what a value weighs, and 0 where there is none
abbrev pub weight : (Value → ℕ) → Option Value → ℕ
weight w None = 0
weight w (Some value) = w value

-- what rows weigh together, each as often as it stands
abbrev pub together_weigh : (Row → ℕ) → List (Row × ℕ) → ℕ
together_weigh w entries = weigh (λ entry. entry.1 * w entry.0) entries

-- 1 for a row that counts
abbrev pub counts : Agg → Row → ℕ
counts agg row = cond (passes agg.filter row) 1 0

-- 1 for a row of which a value is taken
abbrev pub known_in : Agg → Row → ℕ
known_in agg row = weight (λ _. 1) (taken agg row)

-- a number above 0, and 0 for others
abbrev pub above : Value → ℕ
above value = cond (is_negative (number_of value)) 0 (unsigned_abs (number_of value))

-- how far a number lies below 0, and 0 for others
abbrev pub below : Value → ℕ
below value = cond (is_negative (number_of value)) (unsigned_abs (number_of value)) 0

abbrev pub above_in : Agg → Row → ℕ
above_in agg row = weight above (taken agg row)

abbrev pub below_in : Agg → Row → ℕ
below_in agg row = weight below (taken agg row)

-- NULL where there is no value
abbrev pub or_null : Option Value → Value
or_null None = Null
or_null (Some value) = value

-- the value, where it isn't NULL
abbrev pub unless_null : Option Value → Option Value
unless_null None = None
unless_null (Some value) = cond (is_null value) None (Some value)
