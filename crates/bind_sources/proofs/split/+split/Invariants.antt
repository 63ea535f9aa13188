use Rattle.std.proofs.Common.{◌≡◌, ◌++◌, drop}
use Rattle.bind_nodes.specs.Views.{bounds_view}
use Rattle.bind_sources.specs.Splits.{behind, conjuncts_of, pairs_in, rest_in}
use Rattle.bind_sources.proofs.split.+split.Given as goal

abbrev pub invariant-split_all-loop-tree : goal.invariant-split_all-loop-tree
invariant-split_all-loop-tree l = record {
  pairs : l.parts.pairs ++ pairs_in l.scope l.width (conjuncts_of (drop l.tree-index l.tree-items)) ≡ l.fn.parts.pairs ++ pairs_in l.scope l.width (conjuncts_of l.fn.trees);
  rest : behind (bounds_view l.parts.rest) (rest_in l.scope l.width (conjuncts_of (drop l.tree-index l.tree-items))) ≡ behind (bounds_view l.fn.parts.rest) (rest_in l.scope l.width (conjuncts_of l.fn.trees));
}
