use Rattle.std.proofs.Common.{rules, ◌≡◌, ◌++◌, ◌∷◌, [], Ok, Err, arith}
use Rattle.sql_syntax.specs.View.{sort_view}
use Rattle.bind_nested.specs.Sorts.{sort_bound}
use Rattle.bind_nested.proofs.Orders.{sorts_failed, sorts_turn}
use Rattle.bind_nested.proofs.places.sorts_bound.Goals as goal

pub returns-in_err-sort_bound-clause-refused : goal.returns-in_err-sort_bound-clause-refused
returns-in_err-sort_bound-clause-refused c = λ code e.
    let xs = c.as_slice-sort-items.result.now in
    let x = c.sort-item.result in
    let k : sort_bound c.args.scope.now (sort_view x) ≡ Err code = search rules in
    sorts_failed c.args.scope.now _ xs c.loop-sort.sort-index c.loop-sort.sorts c.loop-sort.invariant x code (omega arith) c.sort-item.is k

pub loop-sort-preserved : goal.loop-sort-preserved
loop-sort-preserved c =
    let xs = c.as_slice-sort-items.result.now in
    let x = c.sort-item.result in
    let s = c.in_ok-sort_bound.field-0 in
    let k : sort_bound c.args.scope.now (sort_view x) ≡ Ok s = search rules in
    let p : c.push.new.self ≡ c.loop-sort.sorts ++ s ∷ [] = search rules in
    sorts_turn c.args.scope.now _ xs c.loop-sort.sort-index c.loop-sort.sorts c.loop-sort.invariant x s c.push.new.self (omega arith) c.sort-item.is k p
