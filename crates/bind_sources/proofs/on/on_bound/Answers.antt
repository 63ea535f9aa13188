use Rattle.std.proofs.Common.{rules, ◌≡◌, ◌++◌, length, Ok, Err, option_map, sym, ◌∙◌}
use Rattle.ct_expr.specs.View.{expr_view}
use Rattle.rel_algebra.specs.Rel as r
use Rattle.rel_algebra.specs.View.{rel_view}
use Rattle.sql_syntax.specs.View.{view}
use Rattle.bind_clauses.specs.Views.{relation_view}
use Rattle.bind_sources.specs.Columns.{columns}
use Rattle.bind_sources.specs.Splits.{accepted_tests}
use Rattle.bind_sources.proofs.Bounds.{on_made, on_refused}
use Rattle.bind_sources.proofs.Columns.{columns_are}
use Rattle.bind_sources.proofs.on.on_bound.Goals as goal

pub returns-in_err-tests-clause-refused : goal.returns-in_err-tests-clause-refused
returns-in_err-tests-clause-refused c code =
    λ e. let both : c.append.new.self ≡ c.args.left.scope ++ c.args.right.scope = search rules in
    let width : c.in-Ok.places ≡ length c.args.left.scope = search rules in
    let here : accepted_tests c.append.new.self c.in-Ok.places (view c.args.on.now) ≡ Err code = search rules in
    on_refused c.args.kind (relation_view c.args.left) (relation_view c.args.right) (view c.args.on.now) code ((λ i. accepted_tests (sym both i) (sym width i) (view c.args.on.now)) ∙ here)

pub returns-clause-ok : goal.returns-clause-ok
returns-clause-ok c =
    let both : c.append.new.self ≡ c.args.left.scope ++ c.args.right.scope = search rules in
    let width : c.in-Ok.places ≡ length c.args.left.scope = search rules in
    let wide : c.len-width.result ≡ length c.args.left.scope = search rules in
    let here : accepted_tests c.append.new.self c.in-Ok.places (view c.args.on.now) ≡ Ok (c.in_ok-tests.tests.pairs, option_map expr_view c.in_ok-tests.tests.rest) = search rules in
    let rel : rel_view c.in_ok-rel.rel ≡ r.Join (rel_view c.args.left.rel) (rel_view c.args.right.rel) c.args.kind c.in_ok-tests.tests.pairs (option_map expr_view c.in_ok-tests.tests.rest) = search rules in
    let scope : c.in_ok-scope.scope ≡ columns c.args.kind c.len-width.result c.append.new.self = search rules in
    on_made c.args.kind (relation_view c.args.left) (relation_view c.args.right) (view c.args.on.now) c.in_ok-tests.tests.pairs (option_map expr_view c.in_ok-tests.tests.rest) (rel_view c.in_ok-rel.rel) c.in_ok-scope.scope
    ((λ i. accepted_tests (sym both i) (sym width i) (view c.args.on.now)) ∙ here) rel
    (scope ∙ (λ i. columns c.args.kind (wide i) (both i)) ∙ columns_are c.args.kind c.args.left.scope c.args.right.scope)
