use Rattle.std.proofs.Common.{◌≡◌, ◌+◌, Some, None, rules, arith, refl}
use Rattle.std.proofs.lemmas.List.{map_push}
use Rattle.sql_tokens.specs.Statements.{first_statement}
use Rattle.sql_syntax.specs.View.{statements_view, statement_view}
use Rattle.sql_grammar.specs.ReadsScripts.{read_from}
use Rattle.sql_parse.specs.Faults.{IsRefusal}
use Rattle.sql_parse.proofs.Scripts.{so_far_turn, so_far_end, so_far_refused, so_far_last, so_far_few, passed_up}
use Rattle.sql_parse.proofs.script.script_statements.Goals as goal

pub returns-clause-ok : goal.returns-clause-ok
returns-clause-ok c =
    let stops : first_statement c.statements.rest.now ≡ None = grind arith in
    so_far_end c.args.is_whole c.args.tokens.now c.statements.rest.now (statements_view c.statements.list) c.statements.number c.statements.invariant stops (search rules)

pub statements-preserved : goal.statements-preserved
statements-preserved c =
    let cuts : first_statement c.statements.rest.now ≡ Some (c.in-Some.piece.now, c.in-Some.after.now) = grind arith in
    so_far_turn c.args.is_whole c.args.tokens.now c.statements.rest.now c.in-Some.piece.now c.in-Some.after.now (statements_view c.statements.list) (statements_view c.push.new.self) (statement_view c.in_ok-item.item) c.statements.number (c.statements.number + 1)
    c.statements.invariant cuts (λ others. search rules) (search (rules, map_push)) refl

pub returns-in_err-item-clause-refused : goal.returns-in_err-item-clause-refused
returns-in_err-item-clause-refused c =
    let cuts : first_statement c.statements.rest.now ≡ Some (c.in-Some.piece.now, c.in-Some.after.now) = grind arith in
    passed_up c.from_residual.result c.in_err-item.field-0.0 (λ fault. IsRefusal fault (read_from c.args.is_whole 1 c.args.tokens.now)) c.from_residual.ensures.1
    (so_far_refused c.args.is_whole c.args.tokens.now c.statements.rest.now c.in-Some.piece.now c.in-Some.after.now (statements_view c.statements.list) c.statements.number c.in_err-item.field-0.0 c.statements.invariant cuts c.in_err-item.ensures.refused)

pub returns-in_err-last-clause-refused : goal.returns-in_err-last-clause-refused
returns-in_err-last-clause-refused c =
    let stops : first_statement c.statements.rest.now ≡ None = grind arith in
    passed_up c.from_residual-in_err-last.result c.in_err-last.field-0.0 (λ fault. IsRefusal fault (read_from c.args.is_whole 1 c.args.tokens.now)) c.from_residual-in_err-last.ensures.1
    (so_far_last c.args.is_whole c.args.tokens.now c.statements.rest.now (statements_view c.statements.list) c.statements.number c.in_err-last.field-0.0 c.statements.invariant stops c.in_err-last.ensures.refused)

pub returns-clause-few : goal.returns-clause-few
returns-clause-few c = so_far_few c.args.is_whole c.args.tokens.now c.statements.rest.now (statements_view c.statements.list) c.statements.number c.statements.invariant
