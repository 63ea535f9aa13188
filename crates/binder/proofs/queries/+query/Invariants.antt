use Rattle.std.proofs.Common.{◌≡◌, drop}
use Rattle.bind_clauses.specs.Views.{relation_view, run_view}
use Rattle.sql_syntax.specs.Tree.{trees}
use Rattle.sql_syntax.specs.View.{trees_view}
use Rattle.binding.specs.Queries.{all_parts_but}
use Rattle.binder.proofs.Joins.{joins_left}
use Rattle.binder.proofs.Lefts.{left_from}
use Rattle.bind_nested.specs.PartViews.{outside_view, parts_view}
use Rattle.binder.proofs.Terms.{selects_left, terms_left}
use Rattle.binder.proofs.Wheres.{behind, parts_from}
use Rattle.binder.proofs.queries.+query.Given as goal

abbrev pub invariant-bind_beside-loop-tail : goal.invariant-bind_beside-loop-tail
invariant-bind_beside-loop-tail l = terms_left l.free l.sources (run_view l.fn.first) l.fn.tails ≡ terms_left l.free l.sources (run_view l.run) (drop l.tail-index l.tail-items)

abbrev pub invariant-bind_intersected-loop-tail : goal.invariant-bind_intersected-loop-tail
invariant-bind_intersected-loop-tail l = selects_left l.free l.sources (relation_view l.fn.first) l.fn.tails ≡ selects_left l.free l.sources (relation_view l.all) (drop l.tail-index l.tail-items)

abbrev pub invariant-joined_all-loop-join : goal.invariant-joined_all-loop-join
invariant-joined_all-loop-join l = joins_left l.free l.sources (relation_view l.fn.first) l.fn.joins ≡ joins_left l.free l.sources (relation_view l.all) (drop l.join-index l.join-items)

abbrev pub invariant-bind_all_parts-loop-tree : goal.invariant-bind_all_parts-loop-tree
invariant-bind_all_parts-loop-tree l = parts_from l.free l.sources (outside_view l.outside) l.own l.fn.trees ≡ behind (parts_view l.parts) (parts_from l.free l.sources (outside_view l.outside) l.own (drop l.tree-index l.tree-items))

abbrev pub invariant-bind_all_but-loop-tree : goal.invariant-bind_all_but-loop-tree
invariant-bind_all_but-loop-tree l =
    all_parts_but l.free l.sources l.fn.place (outside_view l.outside) l.own (trees (trees_view l.fn.trees)) ≡ behind (parts_view l.parts) (left_from l.free l.sources (outside_view l.outside) l.own l.spent (drop l.tree-index l.tree-items))
