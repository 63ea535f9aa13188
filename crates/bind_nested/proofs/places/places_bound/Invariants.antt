use Rattle.std.proofs.Common.{◌≡◌, drop}
use Rattle.sql_syntax.specs.Tree.{trees}
use Rattle.sql_syntax.specs.View.{trees_view}
use Rattle.binding.specs.Queries.{places_bound}
use Rattle.bind_nested.proofs.Behind.{behind}
use Rattle.bind_nested.proofs.places.places_bound.Given as goal

abbrev pub invariant-loop-tree : goal.invariant-loop-tree
invariant-loop-tree l = places_bound l.scope (trees (trees_view l.trees)) ≡ behind l.places (places_bound l.scope (trees (trees_view (drop l.tree-index l.tree-items))))
