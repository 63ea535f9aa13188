use Rattle.std.proofs.Common.{rules, ◌≡◌, ◌++◌, map, ◌+◌, arith}
use Rattle.sql_syntax.specs.View.{view}
use Rattle.query_answer.specs.Calls.{calls}
use Rattle.bind_names.specs.Calls.{call_view}
use Rattle.bind_names.proofs.CallLists.{whens_step, turned_twice}
use Rattle.bind_names.proofs.calls.push_whens.Goals as goal

pub loop-when-preserved : goal.loop-when-preserved
loop-when-preserved c =
    let xs = c.as_slice-when-items.result.now in
    let one : map call_view c.push_calls.new.found ≡ map call_view c.loop-when.found ++ calls (view c.when-item.result.cond) = search rules in
    let two : map call_view c.push_calls-in-loop-when.new.found ≡ map call_view c.push_calls.new.found ++ calls (view c.when-item.result.result) = search rules in
    turned_twice (map call_view c.loop-when.found) (map call_view c.push_calls.new.found) _ _ _ _ _ _ c.loop-when.invariant (whens_step xs c.loop-when.when-index c.when-item.result (omega arith) c.when-item.is) one two
