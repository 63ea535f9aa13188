use Rattle.std.proofs.Common.{List, refl, subst}
use Rattle.ct_change.specs.declared.change.Change.{Change}
use Rattle.op_rules.specs.History.{arrival}
use Rattle.op_rules.specs.Rules.{EmitsOnto}
use Rattle.op_rules.proofs.laws.Emits.{emits_alone}
use Rattle.session_subtasks.proofs.laws.Outcomes.{range_of}
use Rattle.session_subtasks.proofs.Subtasks.{alone_arrives, alone_few, alone_ok, alone_range}
use Rattle.session_subtasks.proofs.subtask.Subtask.take_alone.Goals as goal

pub consume-requires-clause-whole : goal.consume-requires-clause-whole
consume-requires-clause-whole b c = let r = c.requires.ready in r.6.stands_as.runs.whole

pub consume-requires-clause-may : goal.consume-requires-clause-may
consume-requires-clause-may b c =
    let r = c.requires.ready in
    let old = c.args.self.now in (
      r.3,
      r.5,
      r.6.stands_as.runs.stands_for,
      alone_arrives b.O.Operator.rule b.O.Operator.broken b.O.Operator.stands_for b.O.PieceOperator.takes_pieces old c.args.port c.args.change r.0 r.1 r.2 r.3 r.4 r.5 r.6,
      alone_few b.O.Operator.rule b.O.Operator.broken b.O.Operator.stands_for b.O.PieceOperator.takes_pieces old c.args.port c.args.change r.0 r.1 r.2 r.3 r.4 r.5 r.6,
    )

pub returns-in-Ok-clause-ok : goal.returns-in-Ok-clause-ok
returns-in-Ok-clause-ok b c = λ g v j history bundle from m.
    let old = c.args.self.now in
    let may = alone_arrives b.O.Operator.rule b.O.Operator.broken b.O.Operator.stands_for b.O.PieceOperator.takes_pieces old c.args.port c.args.change g v j history bundle from m in
    let few = alone_few b.O.Operator.rule b.O.Operator.broken b.O.Operator.stands_for b.O.PieceOperator.takes_pieces old c.args.port c.args.change g v j history bundle from m in
    let told = c.in-Ok.ensures.ok history from m.stands_as.runs.stands_for may few in
    let rule = b.O.Operator.rule old.operator in
    let a = arrival c.args.port from c.args.change in
    let emits = emits_alone rule history a c.consume.new.to (subst (λ (l : List Change). EmitsOnto rule history a l c.consume.new.to) c.truncate.ensures told.0) in
    alone_ok b.O.Operator.rule b.O.Operator.broken b.O.Operator.stands_for b.O.PieceOperator.takes_pieces old c.args.port c.args.change g v j history bundle from m
    _ c.consume.new.to c.consume.ensures.rule_stays c.in-Ok.ensures.stays_whole refl emits told.1

pub returns-in-Err-clause-range : goal.returns-in-Err-clause-range
returns-in-Err-clause-range b c = range_of (Unit {0}) (Unit {0}) _ _ c.in-Err.fault c.in-Err.ensures.range (λ row told g v j history bundle from m.
    let old = c.args.self.now in
    alone_range b.O.Operator.rule b.O.Operator.broken b.O.Operator.stands_for b.O.PieceOperator.takes_pieces old c.args.port c.args.change g v j history bundle from m row (told history from m.stands_as.runs.stands_for
    (alone_arrives b.O.Operator.rule b.O.Operator.broken b.O.Operator.stands_for b.O.PieceOperator.takes_pieces old c.args.port c.args.change g v j history bundle from m)
    (alone_few b.O.Operator.rule b.O.Operator.broken b.O.Operator.stands_for b.O.PieceOperator.takes_pieces old c.args.port c.args.change g v j history bundle from m)))
