use Rattle.std.proofs.Common.{rules, ◌≡◌, true, Ok, Err}
use Rattle.std.specs.Prelude.{IsErrOf}
use Rattle.bind_names.specs.declared.fault.BindFault.TheVariants as f
use Rattle.sql_syntax.specs.Tree as t
use Rattle.query_answer.specs.Ranks.{with_rank}
use Rattle.binding.specs.Expressions.{names, window_bound}
use Rattle.binding.specs.Queries.{few, items_bound, places_bound, rank_bound, sorts_bound}
use Rattle.bind_nodes.specs.Views.{bounds_view}
use Rattle.bind_clauses.specs.Views.{relation_view}
use Rattle.bind_forms.specs.Views.{ranked_view}
use Rattle.bind_nested.proofs.Lists.{too_many}
use Rattle.bind_nested.proofs.list.ranked_list.Goals as goal

pub returns-in_err-refuse_many-clause-refused : goal.returns-in_err-refuse_many-clause-refused
returns-in_err-refuse_many-clause-refused c = λ code e.
    let q = ranked_view c.args.list in
    let x = relation_view c.args.input in
    let xs = bounds_view c.in_ok-ahead.ahead in
    let ys = bounds_view c.in_ok-behind.behind in
    let a : items_bound x.scope q.ahead ≡ Ok xs = search rules in
    let w : window_bound (names x.scope) 0 (t.some_over (t.over_of q.partition q.order)) ≡ Ok (bounds_view c.in_ok-bind_operands.field-0) = search rules in
    let p : places_bound x.scope q.partition ≡ Ok c.in_ok-partition.partition = search rules in
    let o : sorts_bound x.scope q.order ≡ Ok c.in_ok-order.order = search rules in
    let b : items_bound x.scope q.behind ≡ Ok ys = search rules in
    let is : IsErrOf c.refuse_many.result (f.Refused code) = search rules in
    let h : few (with_rank true xs (rank_bound x.scope) ys) ≡ Err code = c.refuse_many.ensures.refused code is (rank_bound x.scope) in
    too_many q x xs (bounds_view c.in_ok-bind_operands.field-0) c.in_ok-partition.partition c.in_ok-order.order ys code a w p o b h
