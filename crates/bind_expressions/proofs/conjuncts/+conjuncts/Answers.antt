use Rattle.std.proofs.Common.{rules, ◌≡◌, ◌++◌, Ok, ap, ◌∙◌, arith}
use Rattle.std.proofs.lemmas.List.{map-append}
use Rattle.sql_syntax.specs.View.{view}
use Rattle.binding.specs.Expressions.{conjuncts_bound}
use Rattle.bind_nodes.specs.Views.{bound_view, bounds_view}
use Rattle.bind_expressions.proofs.Lists.{conjuncts_turn}
use Rattle.bind_expressions.proofs.conjuncts.+conjuncts.Goals as goal

pub all_conjuncts-loop-tree-preserved : goal.all_conjuncts-loop-tree-preserved
all_conjuncts-loop-tree-preserved u c =
    let xs = c.as_slice-tree-items.result.now in
    let more = c.in_ok-bind_conjuncts.field-0 in
    let one : conjuncts_bound c.args.scope.now (view c.tree-item.result) ≡ Ok (bounds_view more) = search rules in
    let appended : c.append.new.self ≡ c.loop-tree.bounds ++ more = search rules in
    conjuncts_turn c.args.scope.now _ xs c.loop-tree.tree-index (bounds_view c.loop-tree.bounds) c.loop-tree.invariant c.tree-item.result (bounds_view more) (bounds_view c.append.new.self) (omega arith)
    c.tree-item.is one (ap bounds_view appended ∙ map-append bound_view c.loop-tree.bounds more)
