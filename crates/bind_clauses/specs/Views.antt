-- Relations of the code, as the definitions see them.
use Rattle.rel_algebra.specs.View.{rel_view, rels_view}
use Rattle.binding.specs.Queries as q
use Rattle.bind_clauses.specs.declared.relation.Relation.{Relation}
use Rattle.bind_clauses.specs.declared.sets.Run.{Run}

abbrev pub relation_view : Relation → q.Relation
relation_view x = record { rel = rel_view x.rel; scope = x.scope }

abbrev pub run_view : Run → q.Run
run_view x = record { first = rel_view x.first; others = rels_view x.others; scope = x.scope }
