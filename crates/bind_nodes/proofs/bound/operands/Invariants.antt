use Rattle.std.proofs.Common.{◌≡◌, ◌++◌}
use Rattle.std.specs.Vec.Iter.{into_iter_items}
use Rattle.ct_expr.specs.View.{exprs_view}
use Rattle.binding.specs.Nodes.{expr_list}
use Rattle.bind_nodes.specs.Views.{bounds_view}
use Rattle.bind_nodes.proofs.bound.operands.Given as goal

abbrev pub invariant-loop-bound : goal.invariant-loop-bound
invariant-loop-bound l = exprs_view l.exprs ++ expr_list (bounds_view (into_iter_items l.bound-iterator)) ≡ expr_list (bounds_view l.fn.bounds)
