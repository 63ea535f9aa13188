use Rattle.std.proofs.Common.{◌≡◌, ◌-◌, Some, None, map, rules, arith}
use Rattle.std.proofs.lemmas.List.{map_push}
use Rattle.std.proofs.lemmas.Result.{err_from_is_err_and}
use Rattle.sql_grammar.specs.Reading.{behind, repeated, word_at}
use Rattle.sql_reading.proofs.Turns.{goes_on, is_done, stops_there, fails}
use Rattle.sql_reading.proofs.again.repeat.Goals as goal

pub returns-in_default : goal.returns-in_default
returns-in_default g c =
    let stop : word_at (g.A.Again.word_of c.args.rule.now) c.items.rest.now ≡ None = grind arith in
    stops_there (g.A.Again.word_of c.args.rule.now) (g.A.Again.item_of c.args.rule.now) c.items.left (c.items.left - 1) c.items.rest.now _ _ c.items.invariant (omega (arith, c.items-test.true)) stop

pub returns-in_err-item : goal.returns-in_err-item
returns-in_err-item g c =
    let begin : word_at (g.A.Again.word_of c.args.rule.now) c.items.rest.now ≡ Some (c.in-Some.word, c.in-Some.after.now) = grind arith in
    let p = err_from_is_err_and c.from_residual.result c.from_residual.ensures.1 in
    rw (p.1, p.2) (fails c.in_err-item.field-0.0 (g.A.Again.word_of c.args.rule.now) (g.A.Again.item_of c.args.rule.now) c.items.left (c.items.left - 1) c.items.rest.now c.in-Some.after.now c.in-Some.word (map g.A.Again.seen c.items.list) (behind (map g.A.Again.seen c.args.list) (repeated (g.A.Again.word_of c.args.rule.now) (g.A.Again.item_of c.args.rule.now) c.args.tokens.now)) c.items.invariant (omega (arith, c.items-test.true)) begin c.in_err-item.ensures)

pub items-preserved : goal.items-preserved
items-preserved g c =
    let begin : word_at (g.A.Again.word_of c.args.rule.now) c.items.rest.now ≡ Some (c.in-Some.word, c.in-Some.after.now) = grind arith in
    goes_on (g.A.Again.word_of c.args.rule.now) (g.A.Again.item_of c.args.rule.now) c.items.left (c.items.left - 1) c.items.rest.now c.in-Some.after.now c.in_ok-item.after.now c.in-Some.word (g.A.Again.seen c.in_ok-item.item) (map g.A.Again.seen c.items.list) (map g.A.Again.seen c.push.new.self) _ c.items.invariant (omega (arith, c.items-test.true)) begin c.in_ok-item.ensures (search (rules, map_push))

pub returns : goal.returns
returns g c = is_done (g.A.Again.word_of c.args.rule.now) (g.A.Again.item_of c.args.rule.now) c.items.left c.items.rest.now _ _ c.items.invariant (omega (arith, c.items-test.false))
