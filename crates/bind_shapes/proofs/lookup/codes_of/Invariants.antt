use Rattle.std.proofs.Common.{◌≡◌, ◌++◌, drop}
use Rattle.sql_syntax.specs.View.{trees_view}
use Rattle.query_answer.specs.Names.{find}
use Rattle.bind_shapes.specs.Codes as c
use Rattle.bind_shapes.proofs.lookup.codes_of.Given as goal

abbrev pub invariant-loop-tree : goal.invariant-loop-tree
invariant-loop-tree l = l.codes ++ c.codes_of (find l.scope) (trees_view (drop l.tree-index l.tree-items)) ≡ c.codes_of (find l.scope) (trees_view l.fn.trees)
