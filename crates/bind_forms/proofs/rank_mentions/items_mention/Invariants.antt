use Rattle.std.proofs.Common.{◌≡◌, drop}
use Rattle.sql_syntax.specs.Tree.{items}
use Rattle.sql_syntax.specs.View.{items_view}
use Rattle.query_answer.specs.Mentions.{in_items}
use Rattle.bind_names.specs.Sought.{reads}
use Rattle.bind_forms.proofs.rank_mentions.items_mention.Given as goal

abbrev pub invariant-loop-item : goal.invariant-loop-item
invariant-loop-item l = in_items (reads l.rank) (items (items_view l.items)) ≡ in_items (reads l.rank) (items (items_view (drop l.item-index l.item-items)))
