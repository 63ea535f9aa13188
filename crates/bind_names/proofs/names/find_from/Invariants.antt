use Rattle.bind_names.proofs.Finds.{FoundFrom}
use Rattle.bind_names.proofs.names.find_from.Given as goal

-- what is found from the place on
abbrev pub invariant-columns : goal.invariant-columns
invariant-columns l = FoundFrom l.first l.place l.scope l.of l.name l.all

abbrev pub decreases-columns : goal.decreases-columns
decreases-columns l = l.place
