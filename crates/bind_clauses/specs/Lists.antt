-- What a select without groups lists: no entry of it has a number.
use Rattle.std.specs.Prelude.{List, [], ◌∷◌, Ok}
use Rattle.query_answer.specs.Answer.{Entry, Listed}
use Rattle.query_answer.specs.Names.{Scope}
use Rattle.binding.specs.Checked.{Checked, ◌>>=◌}
use Rattle.binding.specs.Nodes.{Bound}
use Rattle.binding.specs.Queries.{plain_listed}

abbrev pub one_listed : Scope → Listed → Checked Bound
one_listed scope x = plain_listed scope 0 x

abbrev pub each_listed : Scope → List Entry → Checked (List Bound)
each_listed scope [] = Ok []
each_listed scope (e ∷ es) = one_listed scope e.listed >>= λ x. each_listed scope es >>= λ xs. Ok (x ∷ xs)
