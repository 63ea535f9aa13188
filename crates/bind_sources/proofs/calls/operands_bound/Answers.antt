use Rattle.std.proofs.Common.{rules, ◌≡◌, ◌||◌, Some, None, Ok, cond, sym, ◌∙◌}
use Rattle.std.specs.Prelude.{option_map}
use Rattle.rel_algebra.specs.Aggregates.{call_type}
use Rattle.binding.specs.InGroups.{column_of, is_condition_if, optional_over}
use Rattle.bind_names.specs.Calls.{call_view}
use Rattle.bind_nodes.specs.Views.{bound_view}
use Rattle.bind_sources.proofs.Operands.{found, some_viewed}
use Rattle.bind_sources.proofs.calls.operands_bound.Goals as goal

pub returns-in-Some-clause-ok : goal.returns-in-Some-clause-ok
returns-in-Some-clause-ok c =
    let call = call_view c.args.call.now in
    let arg = option_map bound_view c.in_ok-arg.arg in
    let filter = option_map bound_view c.in_ok-filter.filter in
    let one : optional_over c.args.scope.now call.arg ≡ Ok arg = search rules in
    let two : optional_over c.args.scope.now call.filter ≡ Ok filter = search rules in
    let typed : column_of c.args.global call.call arg filter ≡ Some c.in-Some.column =
    (λ i. cond (is_condition_if filter) (call_type (c.args.global || some_viewed c.in_ok-filter.filter i) call.call (sym c.bound_column.ensures i)) None) ∙ sym c.call_column_if.ensures ∙ c.in-Some.is in
    found c.args.scope.now c.args.global call arg filter c.in-Some.column one two typed
