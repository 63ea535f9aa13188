-- The column of a GROUP BY expression, of the code's groups.
use Rattle.std.specs.Prelude.{Option}
use Rattle.sql_syntax.specs.View.{trees_view}
use Rattle.query_answer.specs.Shapes.{Shape}
use Rattle.binding.specs.Nodes.{Bound}
use Rattle.binding.specs.InGroups.{key_for}
use Rattle.bind_nodes.specs.Views.{bounds_view}
use Rattle.bind_expressions.specs.declared.group.Group.{Group}

-- the first GROUP BY expression that has a shape, as a column
abbrev pub key_in : Group → Shape → Option Bound
key_in group x = key_for group.scope.now (trees_view group.trees.now) (bounds_view group.keys) x
