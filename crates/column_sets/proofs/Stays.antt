-- One column more of those that items hand on.
use Rattle.std.proofs.Common.{◌≡◌, ◌+◌, ◌<◌, ◌∙◌, ℕ, List, [], ◌∷◌, ◌++◌, length, get_or, drop, sym, ap, refl, append_assoc}
use Rattle.std.specs.Prelude.{Option, Some, None, option_map}
use Rattle.std.proofs.lemmas.List.{at_drop_more}
use Rattle.column_sets.specs.Places.{place_of, places_of, with_place}

from_here : (items : List (Option ℕ)) (cols : List ℕ) (i : ℕ) → i < length cols → places_of items (drop i cols) ≡ with_place (place_of items (get_or cols i 0)) (places_of items (drop (i + 1) cols))
from_here items cols i h = at_drop_more (places_of items) cols i 0 h

-- one that doesn't stay
pub lost : (items : List (Option ℕ)) (cols : List ℕ) (i : ℕ) (found : List ℕ) → i < length cols → place_of items (get_or cols i 0) ≡ None → option_map (λ others. found ++ others) (places_of items (drop i cols)) ≡ places_of items cols → None ≡ places_of items cols
lost items cols i found h e so_far =
    let Joined : Option (List ℕ) → Option (List ℕ) = λ places. option_map (λ others. found ++ others) places in
    sym (ap Joined (from_here items cols i h ∙ ap (λ place. with_place place (places_of items (drop (i + 1) cols))) e)) ∙ so_far

joined : (place : ℕ) (found : List ℕ) (places : Option (List ℕ)) → option_map (λ others. (found ++ place ∷ []) ++ others) places ≡ option_map (λ others. found ++ others) (with_place (Some place) places)
joined place found None = refl
joined place found (Some others) = ap (λ all. Some all) (append_assoc found (place ∷ []) others)

-- one that stays
pub stayed : (items : List (Option ℕ)) (cols : List ℕ) (i place : ℕ) (found : List ℕ) → i < length cols → place_of items (get_or cols i 0) ≡ Some place → option_map (λ others. found ++ others) (places_of items (drop i cols)) ≡ places_of items cols → option_map (λ others. (found ++ place ∷ []) ++ others) (places_of items (drop (i + 1) cols)) ≡ places_of items cols
stayed items cols i place found h e so_far =
    let Joined : Option (List ℕ) → Option (List ℕ) = λ places. option_map (λ others. found ++ others) places in
    joined place found (places_of items (drop (i + 1) cols)) ∙ sym (ap Joined (from_here items cols i h ∙ ap (λ place. with_place place (places_of items (drop (i + 1) cols))) e)) ∙ so_far
