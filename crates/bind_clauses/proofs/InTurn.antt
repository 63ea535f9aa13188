-- What a select list without groups lists, as far as a loop has come.
use Rattle.std.proofs.Common.{◌≡◌, ℕ, ◌+◌, List, [], ◌∷◌, length, Ok, refl}
use Rattle.query_answer.specs.Answer.{Entry, Listed, Placed, Written, NoSource, listed_calls}
use Rattle.query_answer.specs.Names.{Scope}
use Rattle.binding.specs.Checked.{◌>>=◌}
use Rattle.binding.specs.Queries.{in_turn, plain_listed}
use Rattle.bind_clauses.specs.Lists.{each_listed, one_listed}

unnumbered : (scope : Scope) (n : ℕ) (x : Listed) → plain_listed scope n x ≡ one_listed scope x
unnumbered scope n (Placed m) = refl
unnumbered scope n (Written x) = refl
unnumbered scope n NoSource = refl

pub from_first : (scope : Scope) (n : ℕ) (es : List Entry) → in_turn (plain_listed scope) n es ≡ each_listed scope es
from_first scope n [] = refl
from_first scope n (e ∷ es) =
    (λ j. unnumbered scope n e.listed j >>= λ x. from_first scope (n + length (listed_calls e.listed)) es j >>= λ xs. Ok (x ∷ xs))
