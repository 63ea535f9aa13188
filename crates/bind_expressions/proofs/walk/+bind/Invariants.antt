use Rattle.std.proofs.Common.{◌≡◌, drop}
use Rattle.bind_nodes.specs.Views.{bound_view, bounds_view, branches_view}
use Rattle.bind_expressions.specs.Reach.{leaf_of}
use Rattle.bind_expressions.proofs.Lists.{behind, sorts_from, trees_from, sums_from, products_from, whens_from}
use Rattle.bind_expressions.proofs.walk.+bind.Given as goal

abbrev pub invariant-bind_all-loop-tree : goal.invariant-bind_all-loop-tree
invariant-bind_all-loop-tree l = trees_from (leaf_of l.reach) l.fn.number l.fn.trees ≡ behind (bounds_view l.bounds) (trees_from (leaf_of l.reach) l.number (drop l.tree-index l.tree-items))

abbrev pub invariant-bind_sum-loop-tail : goal.invariant-bind_sum-loop-tail
invariant-bind_sum-loop-tail l = sums_from (leaf_of l.reach) l.fn.number (bound_view l.fn.first) l.fn.tails ≡ sums_from (leaf_of l.reach) l.number (bound_view l.all) (drop l.tail-index l.tail-items)

abbrev pub invariant-bind_product-loop-tail : goal.invariant-bind_product-loop-tail
invariant-bind_product-loop-tail l = products_from (leaf_of l.reach) l.fn.number (bound_view l.fn.first) l.fn.tails ≡ products_from (leaf_of l.reach) l.number (bound_view l.all) (drop l.tail-index l.tail-items)

abbrev pub invariant-bind_order-loop-sort : goal.invariant-bind_order-loop-sort
invariant-bind_order-loop-sort l = sorts_from (leaf_of l.reach) l.fn.number l.fn.sorts ≡ behind (bounds_view l.bounds) (sorts_from (leaf_of l.reach) l.number (drop l.sort-index l.sort-items))

abbrev pub invariant-bind_whens-loop-when : goal.invariant-bind_whens-loop-when
invariant-bind_whens-loop-when l = whens_from (leaf_of l.reach) l.fn.number l.fn.whens ≡ behind (branches_view l.branches) (whens_from (leaf_of l.reach) l.number (drop l.when-index l.when-items))
