use Rattle.std.proofs.Common.{◌≡◌, ◌++◌, drop}
use Rattle.query_answer.specs.Names.{find}
use Rattle.bind_shapes.proofs.Written.{of_trees, of_sums, of_products, of_whens}
use Rattle.bind_shapes.proofs.code.+shape.Given as goal

abbrev pub invariant-write_all-loop-tree : goal.invariant-write_all-loop-tree
invariant-write_all-loop-tree l = l.written ++ of_trees (find l.scope) (drop l.tree-index l.tree-items) ≡ l.fn.written ++ of_trees (find l.scope) l.fn.trees

abbrev pub invariant-write_sum-loop-tail : goal.invariant-write_sum-loop-tail
invariant-write_sum-loop-tail l = l.written ++ of_sums (find l.scope) (drop l.tail-index l.tail-items) ≡ l.fn.written ++ of_sums (find l.scope) l.fn.tails

abbrev pub invariant-write_product-loop-tail : goal.invariant-write_product-loop-tail
invariant-write_product-loop-tail l = l.written ++ of_products (find l.scope) (drop l.tail-index l.tail-items) ≡ l.fn.written ++ of_products (find l.scope) l.fn.tails

abbrev pub invariant-write_whens-loop-when : goal.invariant-write_whens-loop-when
invariant-write_whens-loop-when l = l.written ++ of_whens (find l.scope) (drop l.when-index l.when-items) ≡ l.fn.written ++ of_whens (find l.scope) l.fn.whens
