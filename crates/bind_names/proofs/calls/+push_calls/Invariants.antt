use Rattle.std.proofs.Common.{◌≡◌, ◌<◌, ◌++◌, map}
use Rattle.sql_syntax.specs.Parts.{left}
use Rattle.sql_syntax.specs.View.{view}
use Rattle.sql_syntax.specs.Walks.{weight}
use Rattle.sql_syntax.proofs.laws.Walks.{weights}
use Rattle.query_answer.specs.Calls.{calls}
use Rattle.bind_names.specs.Calls.{call_view}
use Rattle.bind_names.proofs.CallLists.{of_parts}
use Rattle.bind_names.proofs.calls.+push_calls.Given as goal

abbrev pub decreases-push_calls : goal.decreases-push_calls
decreases-push_calls l = weight (view l.tree.now)

abbrev pub invariant-loop-part : goal.invariant-loop-part
invariant-loop-part l = record {
  same : map call_view l.found ++ of_parts (left l.part-iterator) ≡ map call_view l.fn.found ++ calls (view l.fn.tree);
  light : weights (left l.part-iterator) < weight (view l.fn.tree);
}
