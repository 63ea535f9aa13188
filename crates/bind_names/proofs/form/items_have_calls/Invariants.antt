use Rattle.std.proofs.Common.{◌≡◌, drop}
use Rattle.sql_syntax.specs.Tree.{items}
use Rattle.sql_syntax.specs.View.{items_view}
use Rattle.query_answer.specs.Forms as q
use Rattle.bind_names.proofs.form.items_have_calls.Given as goal

abbrev pub invariant-loop-item : goal.invariant-loop-item
invariant-loop-item l = q.items_have_calls (items (items_view l.fn.items)) ≡ q.items_have_calls (items (items_view (drop l.item-index l.item-items)))
