-- Rows with the values of their sort columns, which compare as the rows do in rank order.
use Rattle.std.specs.Prelude.{ℕ, ◌-◌, ◌/◌, ◌^◌, Bool, true, false, List, [], ◌∷◌, ◌++◌, map, replicate, Option}
use Rattle.std.specs.Option.{unwrap_or}
use Rattle.std.specs.declared.cmp.Ordering.{Ordering}
use Rattle.std.specs.Ordering.{then_cmp, on, flip_args, bool_cmp}
use Rattle.std.specs.Cmp.{IsTotalOrder, on_total, then_total, back_total, bool_cmp_total}
use Rattle.std.specs.Cmp.Lexicographic.{slice_cmp, lists_total}
use Rattle.ct_value.specs.Abbreviations.{value_abbreviation}
use Rattle.ct_value.specs.Order.{value_cmp, value_total, row_cmp, row_total}
use Rattle.ct_value.specs.declared.row.Row.{Row}
use Rattle.ct_value.specs.declared.value.Value.{Value}
use Rattle.ct_value.specs.declared.value.Value.TheVariants.{Null}
use Rattle.ct_field.specs.Typed.{cell}
use Rattle.rel_algebra.specs.declared.sort.SortCol.{SortCol}

-- the value of a sort column, and whether the column runs up or down; NULL stands lowest, so it comes first where the column runs up, and
-- last where it runs down
pub data Directed : Type 0 where
  Up : Value → Directed
  Down : Value → Directed

abbrev pub is_down : Directed → Bool
is_down (Up value) = false
is_down (Down value) = true

abbrev pub up_part : Directed → Value
up_part (Up value) = value
up_part (Down value) = Null

abbrev pub down_part : Directed → Value
down_part (Up value) = Null
down_part (Down value) = value

abbrev pub directed_cmp : Directed → Directed → Ordering
directed_cmp = then_cmp (on is_down bool_cmp) (then_cmp (on up_part value_cmp) (on down_part (flip_args value_cmp)))

pub directed_total : IsTotalOrder directed_cmp
directed_total = then_total (on_total is_down bool_cmp_total) (then_total (on_total up_part value_total) (on_total down_part (back_total value_total)))

-- a row behind the values of its sort columns
abbrev pub Key : Type 0
Key = List Directed × Row

abbrev pub key_cmp : Key → Key → Ordering
key_cmp = then_cmp (on (λ k. k.0) (slice_cmp directed_cmp)) (on (λ k. k.1) row_cmp)

pub key_total : IsTotalOrder key_cmp
key_total = then_total (on_total (λ k. k.0) (lists_total directed_total)) (on_total (λ k. k.1) row_total)

-- ---- a number by which most keys are told apart: of two keys that differ in it the one with the less stands first

-- the half of the value's, and the other way round from above where the column runs down
abbrev pub directed_abbreviation : Directed → ℕ
directed_abbreviation (Up value) = value_abbreviation value / 2
directed_abbreviation (Down value) = 2 ^ 64 - 1 - value_abbreviation value / 2

-- that of the first sort column
abbrev pub first_abbreviation : List Directed → ℕ
first_abbreviation [] = 0
first_abbreviation (value ∷ values) = directed_abbreviation value

-- the rows of keys with counts, each copy by itself
abbrev pub rows_in : List (Key × ℕ) → List Row
rows_in [] = []
rows_in (entry ∷ entries) = replicate entry.1 entry.0.1 ++ rows_in entries

-- the value of a sort column, with its direction
abbrev pub directed_of : Bool → Value → Directed
directed_of true value = Down value
directed_of false value = Up value

-- a row's key
abbrev pub rank_key : List SortCol → Row → Key
rank_key order row = (map (λ sort. directed_of sort.desc (cell sort.col row)) order, row)

-- NULL where there is no value
abbrev pub or_null : Option Value → Value
or_null value = unwrap_or value Null
