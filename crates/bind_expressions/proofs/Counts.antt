-- How many calls were found.
use Rattle.std.proofs.Common.{◌≡◌, suc, List, [], ◌∷◌, ◌++◌, map, length, refl, sym, ap, ◌∙◌}
use Rattle.query_answer.specs.Calls.{Call}
use Rattle.bind_names.specs.declared.calls.CallRef.{CallRef}
use Rattle.bind_names.specs.Calls.{call_view}

same_length : (xs : List CallRef) → length (map call_view xs) ≡ length xs
same_length [] = refl
same_length (x ∷ xs) = ap suc (same_length xs)

pub seen : (xs : List CallRef) (cs : List Call) → map call_view xs ≡ [] ++ cs → length xs ≡ length cs
seen xs cs e = sym (same_length xs) ∙ ap length e
