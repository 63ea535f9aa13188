use Rattle.std.proofs.Common.{rules, ◌≡◌, ◌+◌, Ok, Err, length, sym, ap, ◌∙◌}
use Rattle.sql_syntax.specs.Tree as t
use Rattle.sql_syntax.specs.View.{sorts_view, trees_view}
use Rattle.query_answer.specs.Calls.{all_calls}
use Rattle.binding.specs.Expressions.{all_bound, names, order_bound}
use Rattle.bind_names.specs.declared.names.Lookup.TheVariants as l
use Rattle.bind_nodes.specs.Views.{bounds_view}
use Rattle.bind_expressions.specs.declared.reach.Reach.TheVariants as r
use Rattle.bind_expressions.specs.Reach.{leaf_of}
use Rattle.bind_expressions.proofs.Leaves.{own_leaf}
use Rattle.bind_expressions.proofs.Windows.{order_then, partition_failed}
use Rattle.bind_expressions.proofs.conjuncts.bind_operands.Goals as goal

pub returns-in_err-bind_all-clause-refused : goal.returns-in_err-bind_all-clause-refused
returns-in_err-bind_all-clause-refused c = λ code e.
    let L = leaf_of (r.Rows (l.Own c.args.scope)) in
    let P = t.trees (trees_view c.args.partition.now) in
    let S = t.sort_list (sorts_view c.args.order.now) in
    let h : all_bound L 0 P ≡ Err code = search rules in
    partition_failed (names c.args.scope.now) 0 P S code (ap (λ L. all_bound L 0 P) (sym (own_leaf c.args.scope)) ∙ h)

pub returns-in_err-bounds-clause-refused : goal.returns-in_err-bounds-clause-refused
returns-in_err-bounds-clause-refused c = λ code e.
    let L = leaf_of (r.Rows (l.Own c.args.scope)) in
    let P = t.trees (trees_view c.args.partition.now) in
    let S = t.sort_list (sorts_view c.args.order.now) in
    let m = c.in_ok-next.next in
    let walked = bounds_view c.in_ok-bind_all.field-0 in
    let one : all_bound L 0 P ≡ Ok walked = search rules in
    let e_next : m ≡ 0 + length (all_calls P) = search rules in
    let h : order_bound L m S ≡ Err code = search rules in
    order_then (names c.args.scope.now) 0 P S walked m (Err code) (ap (λ L. all_bound L 0 P) (sym (own_leaf c.args.scope)) ∙ one) e_next (ap (λ L. order_bound L m S) (sym (own_leaf c.args.scope)) ∙ h)

pub returns-clause-ok : goal.returns-clause-ok
returns-clause-ok c =
    let L = leaf_of (r.Rows (l.Own c.args.scope)) in
    let P = t.trees (trees_view c.args.partition.now) in
    let S = t.sort_list (sorts_view c.args.order.now) in
    let m = c.in_ok-next.next in
    let walked = bounds_view c.in_ok-bind_all.field-0 in
    let ys = bounds_view c.in_ok-bounds.bounds in
    let one : all_bound L 0 P ≡ Ok walked = search rules in
    let e_next : m ≡ 0 + length (all_calls P) = search rules in
    let h : order_bound L m S ≡ Ok ys = search rules in
    order_then (names c.args.scope.now) 0 P S walked m (Ok ys) (ap (λ L. all_bound L 0 P) (sym (own_leaf c.args.scope)) ∙ one) e_next (ap (λ L. order_bound L m S) (sym (own_leaf c.args.scope)) ∙ h)
