use Rattle.std.proofs.Common.{rules, ◌≡◌, ◌+◌, length, sym, ◌∙◌, arith}
use Rattle.std.specs.Prelude.{option_map}
use Rattle.sql_syntax.specs.View.{args_view}
use Rattle.binding.specs.InGroups.{call_column}
use Rattle.bind_nodes.specs.Views.{bound_view, bounds_view}
use Rattle.bind_expressions.proofs.Exits.{ok_as}
use Rattle.bind_expressions.proofs.Leaves.{bounds_length}
use Rattle.bind_expressions.proofs.reach.numbered.Goals as goal

pub returns-clause-ok : goal.returns-clause-ok
returns-clause-ok c =
    let place : c.in_ok-place.place ≡ c.args.number + length c.args.keys.now = search rules in
    let same : length (bounds_view c.args.keys.now) + c.args.number ≡ c.in_ok-place.place = omega (arith, place, bounds_length c.args.keys.now) in
    ok_as c.call_column.result _ _ (λ i. call_column (sym c.has_no_keys-global.ensures i) (same i) c.args.call (args_view c.args.args.now) (bounds_view c.args.operands.now) (option_map bound_view c.args.filter.now)) c.call_column.ensures.ok

pub returns-clause-refused : goal.returns-clause-refused
returns-clause-refused c = λ code e.
    let place : c.in_ok-place.place ≡ c.args.number + length c.args.keys.now = search rules in
    let same : length (bounds_view c.args.keys.now) + c.args.number ≡ c.in_ok-place.place = omega (arith, place, bounds_length c.args.keys.now) in
    (λ i. call_column (sym c.has_no_keys-global.ensures i) (same i) c.args.call (args_view c.args.args.now) (bounds_view c.args.operands.now) (option_map bound_view c.args.filter.now)) ∙ c.call_column.ensures.refused code e
