use Rattle.std.proofs.Common.{◌≡◌, drop}
use Rattle.sql_syntax.specs.Tree as t
use Rattle.sql_syntax.specs.View.{trees_view}
use Rattle.query_answer.specs.Mentions as m
use Rattle.bind_names.specs.Sought.{is_sought}
use Rattle.bind_names.proofs.sought.any_mentions.Given as goal

abbrev pub invariant-loop-tree : goal.invariant-loop-tree
invariant-loop-tree l = m.in_trees (is_sought l.fn.sought) (t.trees (trees_view l.fn.trees)) ≡ m.in_trees (is_sought l.fn.sought) (t.trees (trees_view (drop l.tree-index l.tree-items)))
