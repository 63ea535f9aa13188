use Rattle.std.proofs.Common.{◌≡◌, drop}
use Rattle.bind_nodes.specs.Views.{bounds_view}
use Rattle.bind_expressions.proofs.Lists.{behind, each_from}
use Rattle.bind_expressions.proofs.conjuncts.bind_each.Given as goal

abbrev pub invariant-loop-tree : goal.invariant-loop-tree
invariant-loop-tree l = each_from l.scope l.trees ≡ behind (bounds_view l.bounds) (each_from l.scope (drop l.tree-index l.trees))
