use Rattle.op_sink.proofs.Turns.{told_is, kept_after}
use Rattle.op_sink.proofs.materialize.Materialize.take.Goals as goal

pub returns-clause-sent : goal.returns-clause-sent
returns-clause-sent g c = λ rows are.
    told_is c.args.self.now.key c.args.change c.args.self.now.kept rows are c.in_ok-values.values c.in_ok-values.ensures c.in_ok-sent.sent c.in_ok-sent.ensures.sent

pub returns-clause-kept : goal.returns-clause-kept
returns-clause-kept g c = λ rows are.
    kept_after c.args.self.now.key c.args.change c.args.self.now.kept rows are c.in_ok-values.values c.in_ok-values.ensures c.turn_key.new.kept c.in_ok-sent.ensures.kept
