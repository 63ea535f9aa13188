-- Lists with a rank, conjuncts and bounds of the code, as the definitions see them.
use Rattle.sql_syntax.specs.Tree as t
use Rattle.sql_syntax.specs.View.{view, items_view, sorts_view, trees_view}
use Rattle.query_answer.specs.Ranks as q
use Rattle.bind_forms.specs.declared.conjuncts.Conjunct.{Conjunct}
use Rattle.bind_forms.specs.declared.ranked_lists.Ranked.{Ranked}
use Rattle.bind_forms.specs.declared.top.Top.{Top}

abbrev pub ranked_view : Ranked → q.Ranked
ranked_view x = record { ahead = t.items (items_view x.ahead.now); name = x.name.now; partition = t.trees (trees_view x.partition.now); order = t.sort_list (sorts_view x.order.now); behind = t.items (items_view x.behind.now) }

abbrev pub conjunct_view : Conjunct → t.Tree
conjunct_view c = view c.tree.now

abbrev pub top_view : Top → q.Top
top_view x = record { conjunct = x.conjunct; bound = x.bound }
