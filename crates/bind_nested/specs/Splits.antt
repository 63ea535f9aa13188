-- Conjuncts by what they are.
use Rattle.std.specs.Prelude.{List, [], ◌∷◌}
use Rattle.binding.specs.Queries.{Part, Own, Linked, Matched}

-- those with a subquery
abbrev pub subqueries : List Part → List Part
subqueries [] = []
subqueries (Own a ∷ ps) = subqueries ps
subqueries (Linked pair a ∷ ps) = subqueries ps
subqueries (Matched anti right pairs rest ∷ ps) = Matched anti right pairs rest ∷ subqueries ps
