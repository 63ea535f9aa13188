-- Where columns stand in a row that is made of other rows.
use Rattle.std.specs.Prelude.{ℕ, ◌+◌, ◌==◌, Bool, false, cond, List, [], ◌∷◌, map, Option, Some, None, option_map}
use Rattle.std.specs.List.{range_with_len}
use Rattle.column_sets.specs.Sets.{set_of}

-- so many columns, from the first on
abbrev pub first_columns : ℕ → List ℕ
first_columns count = range_with_len 0 count

-- columns of a row behind so many others
abbrev pub shift : ℕ → List ℕ → List ℕ
shift by cols = map (λ col. col + by) cols

abbrev pub shifted : ℕ → List (List ℕ) → List (List ℕ)
shifted by sets = map (shift by) sets

-- ---- columns that items hand on, each the column of its input that it is, or none

abbrev pub is_column : Option ℕ → ℕ → Bool
is_column None col = false
is_column (Some item) col = item == col

-- the first place of a column among items, of which the first has this place
abbrev pub place_from : ℕ → ℕ → List (Option ℕ) → Option ℕ
place_from place col [] = None
place_from place col (item ∷ items) = cond (is_column item col) (Some place) (place_from (place + 1) col items)

abbrev pub place_of : List (Option ℕ) → ℕ → Option ℕ
place_of items col = place_from 0 col items

abbrev pub with_place : Option ℕ → Option (List ℕ) → Option (List ℕ)
with_place None places = None
with_place (Some place) places = option_map (λ others. place ∷ others) places

-- the first places of columns, where each of them stays
abbrev pub places_of : List (Option ℕ) → List ℕ → Option (List ℕ)
places_of items [] = Some []
places_of items (col ∷ cols) = with_place (place_of items col) (places_of items cols)

-- the image of a set, where each of its columns stays
abbrev pub image : List (Option ℕ) → List ℕ → Option (List ℕ)
image items cols = option_map set_of (places_of items cols)

abbrev pub with_set : Option (List ℕ) → List (List ℕ) → List (List ℕ)
with_set None sets = sets
with_set (Some set) sets = set ∷ sets

-- the images of those sets that have one
abbrev pub images : List (Option ℕ) → List (List ℕ) → List (List ℕ)
images items [] = []
images items (set ∷ sets) = with_set (image items set) (images items sets)
