use Rattle.std.proofs.Common.{arith}
use Rattle.unit_tests.proofs.MaterializeArrivals.{arrives, fed_more}
use Rattle.unit_tests.proofs.materializer.fed.Goals as goal

pub returns-clause-fed : goal.returns-clause-fed
returns-clause-fed g c =
    let rule = g.O.Operator.rule c.args.operator.now in
    let stands_for = g.O.Operator.stands_for c.args.operator.now in
    let fed = c.requires.fed in
    let may = c.in_ok-may.ensures c.if-not-may.false in
    let arrives_now = arrives rule stands_for c.args.standing.now c.args.taken.now fed c.args.change may.0 c.requires.wide in
    let count = fed.4 in
    let room = c.if-taken-gt4000000000.false in
    fed_more rule stands_for c.args.standing.now c.args.taken.now fed c.args.change (g.O.Operator.rule c.consume.new.self) (g.O.Operator.stands_for c.consume.new.self) c.stands.new.standing c.in_ok-consume.ensures.rule_stays may.1
    (c.in_ok-consume.ensures.ok fed.0 0 fed.2 arrives_now (omega arith)).1
