-- What the code binds of a grouped select, as the definitions see it.
use Rattle.std.specs.Prelude.{List, map, option_map}
use Rattle.sql_syntax.specs.View.{trees_view}
use Rattle.binding.specs.InGroups as g
use Rattle.binding.specs.Queries.{Lister, group_listed}
use Rattle.bind_nodes.specs.Views.{bound_view, bounds_view}
use Rattle.bind_expressions.specs.declared.group.Group.{Group}
use Rattle.bind_sources.specs.declared.calls.BoundCall.{BoundCall}
use Rattle.bind_sources.specs.declared.lists.Parts.{Parts}
use Rattle.bind_sources.specs.Lists as p

-- what is listed in a group
abbrev pub lister : Group → Lister
lister x = group_listed x.scope.now (trees_view x.trees.now) (bounds_view x.keys)

abbrev pub call_view : BoundCall → g.BoundCall
call_view c = record { arg = option_map bound_view c.arg; filter = option_map bound_view c.filter; column = c.column }

abbrev pub calls_view : List BoundCall → List g.BoundCall
calls_view = map call_view

abbrev pub parts_view : Parts → p.Parts
parts_view x = record { keys = bounds_view x.keys; having = option_map bound_view x.having; items = bounds_view x.items }
