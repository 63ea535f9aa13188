-- What names stand for among the code's columns.
use Rattle.query_answer.specs.Names as q
use Rattle.query_answer.specs.Names.{find, find_linked}
use Rattle.bind_names.specs.declared.names.Lookup.{Lookup}
use Rattle.bind_names.specs.declared.names.Lookup.TheVariants as l

abbrev pub lookup_of : Lookup → q.Lookup
lookup_of (l.Own scope) = find scope.now
lookup_of (l.Linked outside own) = find_linked outside.now own.now
