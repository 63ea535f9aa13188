use Rattle.std.proofs.Common.{◌≡◌, drop}
use Rattle.sql_syntax.specs.Tree.{items}
use Rattle.sql_syntax.specs.View.{items_view}
use Rattle.query_answer.specs.Ranks.{has_rank}
use Rattle.bind_forms.proofs.places.has_rank.Given as goal

abbrev pub invariant-loop-item : goal.invariant-loop-item
invariant-loop-item l = has_rank (items (items_view l.items)) ≡ has_rank (items (items_view (drop l.item-index l.items)))
