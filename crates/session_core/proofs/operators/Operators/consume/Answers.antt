use Rattle.session_subtasks.proofs.laws.Outcomes.{on_ok, if_range}
use Rattle.session_core.proofs.Running.{found}
use Rattle.session_core.proofs.Slots.{consumed_in, may_take_in, out_taking_in}
use Rattle.session_core.proofs.operators.Operators.consume.Goals as goal

pub take_in-requires : goal.take_in-requires
take_in-requires b c =
    let s = c.args.self.now in
    let r = c.requires.ready in
    record {
      ready = may_take_in b.O.Operator.rule b.O.Operator.broken b.O.Operator.stands_for b.O.PieceOperator.takes_pieces s.width s.items.items c.args.size c.args.feed.node c.args.subtask c.args.feed.port c.args.change r.0 r.1 r.2 r.3 c.in-Some.slot.now r.4
          (found b.O.Operator.rule b.O.Operator.broken b.O.Operator.stands_for b.O.PieceOperator.takes_pieces r.0 s.width s.items.items r.1 r.2 c.args.feed.node c.args.subtask c.place-place.result c.in-Some.slot.now r.4.all r.4.there c.requires.subtask c.place-place.ensures.is c.place-place.ensures.within c.in-Some.ensures.value);
    }

pub returns-clause-ok : goal.returns-clause-ok
returns-clause-ok b c = on_ok _ _ c.take_in.result c.take_in.ensures.ok (λ told g pieces bundle from m.
    let s = c.args.self.now in
    consumed_in b.O.Operator.rule b.O.Operator.broken b.O.Operator.stands_for b.O.PieceOperator.takes_pieces s.width s.items.items c.args.size c.args.feed.node c.args.subtask c.args.feed.port c.args.change g pieces bundle from c.place-place.result c.in-Some.slot.now c.take_in.new.slot c.take_in.new.to m
    (found b.O.Operator.rule b.O.Operator.broken b.O.Operator.stands_for b.O.PieceOperator.takes_pieces g s.width s.items.items pieces bundle c.args.feed.node c.args.subtask c.place-place.result c.in-Some.slot.now m.all m.there c.requires.subtask c.place-place.ensures.is c.place-place.ensures.within c.in-Some.ensures.value)
    c.requires.subtask c.place-place.ensures.is c.place-place.ensures.within told)

pub returns-clause-range : goal.returns-clause-range
returns-clause-range b c = if_range _ _ c.take_in.result c.take_in.ensures.range (λ row told g pieces bundle from m.
    let s = c.args.self.now in
    out_taking_in b.O.Operator.rule b.O.Operator.broken b.O.Operator.stands_for b.O.PieceOperator.takes_pieces s.width s.items.items c.args.size c.args.feed.node c.args.subtask c.args.feed.port c.args.change g pieces bundle from c.in-Some.slot.now row m
    (found b.O.Operator.rule b.O.Operator.broken b.O.Operator.stands_for b.O.PieceOperator.takes_pieces g s.width s.items.items pieces bundle c.args.feed.node c.args.subtask c.place-place.result c.in-Some.slot.now m.all m.there c.requires.subtask c.place-place.ensures.is c.place-place.ensures.within c.in-Some.ensures.value)
    told)
