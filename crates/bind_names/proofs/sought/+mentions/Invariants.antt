use Rattle.std.proofs.Common.{◌≡◌, ◌<◌}
use Rattle.sql_syntax.specs.Parts.{left}
use Rattle.sql_syntax.specs.View.{view}
use Rattle.sql_syntax.specs.Walks.{weight}
use Rattle.sql_syntax.proofs.laws.Walks.{weights}
use Rattle.query_answer.specs.Mentions as m
use Rattle.bind_names.specs.Sought.{is_sought}
use Rattle.bind_names.proofs.SoughtParts.{any_has}
use Rattle.bind_names.proofs.sought.+mentions.Given as goal

abbrev pub decreases-mentions : goal.decreases-mentions
decreases-mentions l = weight (view l.tree.now)

abbrev pub invariant-loop-part : goal.invariant-loop-part
invariant-loop-part l = record {
  same : m.in_tree (is_sought l.fn.sought) (view l.fn.tree) ≡ any_has (is_sought l.fn.sought) (left l.part-iterator);
  light : weights (left l.part-iterator) < weight (view l.fn.tree);
}
