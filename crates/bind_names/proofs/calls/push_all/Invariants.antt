use Rattle.std.proofs.Common.{◌≡◌, ◌++◌, drop, map}
use Rattle.bind_names.specs.Calls.{call_view}
use Rattle.bind_names.proofs.CallLists.{of_trees}
use Rattle.bind_names.proofs.calls.push_all.Given as goal

abbrev pub invariant-loop-tree : goal.invariant-loop-tree
invariant-loop-tree l = map call_view l.found ++ of_trees (drop l.tree-index l.tree-items) ≡ map call_view l.fn.found ++ of_trees l.fn.trees
