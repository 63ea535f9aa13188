use Rattle.std.proofs.Common.{◌≡◌, ◌++◌, drop}
use Rattle.sql_syntax.specs.Tree.{items as item_list}
use Rattle.sql_syntax.specs.View.{items_view}
use Rattle.query_answer.specs.Answer.{entries}
use Rattle.bind_names.specs.Entries.{entries_view}
use Rattle.bind_names.proofs.entries.entries_of.Given as goal

abbrev pub invariant-loop-item : goal.invariant-loop-item
invariant-loop-item l = entries_view l.found ++ entries l.scope (item_list (items_view (drop l.item-index l.items))) ≡ entries l.scope (item_list (items_view l.items))
