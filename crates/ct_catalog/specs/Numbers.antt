-- Numbers as they are written in types and settings.
use Rattle.std.specs.Prelude.{ℕ, ◌+◌, ◌-◌, ◌*◌, ◌&&◌, ◌==◌, nat_le, List, [], ◌∷◌, Option, Some, None, slice_index, if◌then◌else◌}
use Rattle.std.specs.Str.{all_ascii_digits, byte}

-- the number that these digits write behind that one
abbrev pub number_from : ℕ → List ℕ → ℕ
number_from n [] = n
number_from n (d ∷ ds) = number_from (n * 10 + (d - 48)) ds

-- the number of these digits, where they are digits and it is no larger than the most
abbrev pub number_up_to : ℕ → List ℕ → Option ℕ
number_up_to most [] = None
number_up_to most (d ∷ ds) =
    let n = number_from 0 (d ∷ ds) in
    if all_ascii_digits (d ∷ ds) && nat_le n most then Some n else None

-- a number from 1 up, without leading zeros
abbrev pub count_up_to : ℕ → List ℕ → Option ℕ
count_up_to most text = if slice_index text 0 == byte "0" then None else number_up_to most text
