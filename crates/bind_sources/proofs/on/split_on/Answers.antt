use Rattle.std.proofs.Common.{rules, ◌≡◌, [], ◌++◌, Ok, option_map, sym, ap, ◌∙◌}
use Rattle.ct_expr.specs.View.{expr_view}
use Rattle.sql_syntax.specs.View.{view}
use Rattle.query_answer.specs.Answer.{conjuncts}
use Rattle.bind_nodes.specs.Views.{bounds_view}
use Rattle.bind_sources.specs.Splits.{behind, pairs_in, rest_if, rest_in}
use Rattle.bind_sources.proofs.Bounds.{tests_made}
use Rattle.bind_sources.proofs.on.split_on.Goals as goal

pub returns-clause-ok : goal.returns-clause-ok
returns-clause-ok c =
    let found = rest_in c.args.scope.now c.args.width (conjuncts (view c.args.on.now)) in
    let rest : behind [] found ≡ Ok (bounds_view c.split.new.parts.rest) = sym (ap (λ xs. behind (bounds_view xs) found) c.new-2.ensures) ∙ c.in_ok-split.ensures.rest in
    let pairs : c.split.new.parts.pairs ≡ pairs_in c.args.scope.now c.args.width (conjuncts (view c.args.on.now)) =
    c.in_ok-split.ensures.pairs ∙ ap (λ ps. ps ++ pairs_in c.args.scope.now c.args.width (conjuncts (view c.args.on.now))) c.new.ensures in
    let made : rest_if (bounds_view c.split.new.parts.rest) ≡ Ok (option_map expr_view c.in_ok-rest.rest) = search rules in
    tests_made c.args.scope.now c.args.width (view c.args.on.now) (bounds_view c.split.new.parts.rest) c.split.new.parts.pairs (option_map expr_view c.in_ok-rest.rest) rest pairs made
