use Rattle.std.proofs.Common.{◌≡◌, drop}
use Rattle.bind_nodes.specs.Views.{bounds_view}
use Rattle.bind_expressions.proofs.Lists.{behind, conjuncts_from}
use Rattle.bind_expressions.proofs.conjuncts.+conjuncts.Given as goal

abbrev pub invariant-all_conjuncts-loop-tree : goal.invariant-all_conjuncts-loop-tree
invariant-all_conjuncts-loop-tree l = conjuncts_from l.scope l.fn.trees ≡ behind (bounds_view l.bounds) (conjuncts_from l.scope (drop l.tree-index l.tree-items))
