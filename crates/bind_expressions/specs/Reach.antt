-- What whole nodes are bound to in reach of the code's columns.
use Rattle.sql_syntax.specs.View.{trees_view}
use Rattle.binding.specs.Expressions.{Leaf, names_by}
use Rattle.binding.specs.InGroups.{in_group}
use Rattle.bind_names.specs.Lookups.{lookup_of}
use Rattle.bind_nodes.specs.Views.{bounds_view}
use Rattle.bind_expressions.specs.declared.group.Group.{Group}
use Rattle.bind_expressions.specs.declared.reach.Reach.{Reach}
use Rattle.bind_expressions.specs.declared.reach.Reach.TheVariants as r

abbrev pub group_leaf : Group → Leaf
group_leaf g = in_group g.scope.now (trees_view g.trees.now) (bounds_view g.keys)

unfoldable pub leaf_of : Reach → Leaf
leaf_of (r.Rows look) = names_by (lookup_of look)
leaf_of (r.Groups group) = group_leaf group.now
