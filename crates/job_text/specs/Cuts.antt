-- How a line of an order file is read from its front.
use Rattle.std.specs.Prelude.{ℕ, suc, ◌==◌, ◌||◌, Bool, true, false, List, [], ◌∷◌, ◌++◌, Option, Some, None, Result, Ok, Err}
use Rattle.std.specs.List.{slice_split}
use Rattle.job_text.specs.declared.orders.OrderLine.{OrderLine}

-- the parts that are left behind a cut, none where there was no cut
abbrev pub parts_left : ℕ → Option (List ℕ) → List (List ℕ)
parts_left byte None = []
parts_left byte (Some text) = slice_split (λ b. b == byte) text

-- the words that are left of a line
abbrev pub words_left : Option (List ℕ) → List (List ℕ)
words_left text = parts_left 32 text

-- whether the first word is no number, or there is none
abbrev pub is_without : Option (List ℕ) → Bool
is_without None = true
is_without (Some []) = true
is_without (Some (number ∷ numbers)) = false

-- whether a sign or a leading zero stands before digits
abbrev pub is_padded : List ℕ → Bool
is_padded [] = false
is_padded (first ∷ []) = first == 43
is_padded (first ∷ next ∷ bytes) = (first == 43) || (first == 48)

-- the one number that there is
abbrev pub sole_number : List ℕ → Option ℕ
sole_number (number ∷ []) = Some number
sole_number numbers = None

-- the same, of which there is one at least
abbrev pub sole_count : List ℕ → Option ℕ
sole_count (suc count ∷ []) = Some (suc count)
sole_count numbers = None

-- orders before the orders of the lines that are left
abbrev pub orders_behind : List OrderLine → Result (List OrderLine) ℕ → Result (List OrderLine) ℕ
orders_behind orders (Err line) = Err line
orders_behind orders (Ok others) = Ok (orders ++ others)
