use Rattle.std.proofs.Common.{◌≡◌, ◌++◌, drop, map}
use Rattle.bind_forms.specs.Lists.{conjuncts_of}
use Rattle.bind_forms.specs.Views.{conjunct_view}
use Rattle.bind_forms.proofs.conjuncts.+conjuncts.Given as goal

abbrev pub invariant-push_all-loop-tree : goal.invariant-push_all-loop-tree
invariant-push_all-loop-tree l = map conjunct_view l.found ++ conjuncts_of (drop l.tree-index l.tree-items) ≡ map conjunct_view l.fn.found ++ conjuncts_of l.fn.trees
