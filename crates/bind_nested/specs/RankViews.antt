-- Lists with a rank as they are bound, as the definitions see them.
use Rattle.binding.specs.Queries as q
use Rattle.bind_nodes.specs.Views.{bounds_view}
use Rattle.bind_clauses.specs.Views.{relation_view}
use Rattle.bind_forms.specs.Views.{ranked_view}
use Rattle.bind_nested.specs.declared.sole.Framed.{Framed}
use Rattle.bind_nested.specs.declared.list.RankedList.{RankedList}

abbrev pub list_view : RankedList → q.RankedList
list_view x = record { list = ranked_view x.list; input = relation_view x.input; ahead = bounds_view x.ahead; partition = x.partition; order = x.order; behind = bounds_view x.behind }

abbrev pub framed_view : Framed → q.Framed
framed_view x = record { relation = relation_view x.relation; spent = x.spent }
