use Rattle.session_subtasks.proofs.laws.Outcomes.{on_ok, if_range}
use Rattle.session_core.proofs.Running.{found}
use Rattle.session_core.proofs.Slots.{flushed_in, may_flush_in, out_flushing_in}
use Rattle.session_core.proofs.operators.Operators.flush.Goals as goal

pub flush_in-requires : goal.flush_in-requires
flush_in-requires b c =
    let s = c.args.self.now in
    let r = c.requires.ready in
    record {
      ready = may_flush_in b.O.Operator.rule b.O.Operator.broken b.O.Operator.stands_for b.O.PieceOperator.takes_pieces s.width s.items.items c.args.node c.args.subtask r.0 r.1 r.2 c.in-Some.slot.now r.3
          (found b.O.Operator.rule b.O.Operator.broken b.O.Operator.stands_for b.O.PieceOperator.takes_pieces r.0 s.width s.items.items r.1 r.2 c.args.node c.args.subtask c.place-place.result c.in-Some.slot.now r.3.all r.3.there c.requires.subtask c.place-place.ensures.is c.place-place.ensures.within c.in-Some.ensures.value);
    }

pub returns-clause-ok : goal.returns-clause-ok
returns-clause-ok b c = on_ok _ _ c.flush_in.result c.flush_in.ensures.ok (λ told g pieces bundle m.
    let s = c.args.self.now in
    flushed_in b.O.Operator.rule b.O.Operator.broken b.O.Operator.stands_for b.O.PieceOperator.takes_pieces s.width s.items.items c.args.node c.args.subtask g pieces bundle c.place-place.result c.in-Some.slot.now c.flush_in.new.slot c.flush_in.new.to m
    (found b.O.Operator.rule b.O.Operator.broken b.O.Operator.stands_for b.O.PieceOperator.takes_pieces g s.width s.items.items pieces bundle c.args.node c.args.subtask c.place-place.result c.in-Some.slot.now m.all m.there c.requires.subtask c.place-place.ensures.is c.place-place.ensures.within c.in-Some.ensures.value)
    c.requires.subtask c.place-place.ensures.is c.place-place.ensures.within told)

pub returns-clause-range : goal.returns-clause-range
returns-clause-range b c = if_range _ _ c.flush_in.result c.flush_in.ensures.range (λ row told g pieces bundle m.
    let s = c.args.self.now in
    out_flushing_in b.O.Operator.rule b.O.Operator.broken b.O.Operator.stands_for b.O.PieceOperator.takes_pieces s.width s.items.items c.args.node c.args.subtask g pieces bundle c.in-Some.slot.now row m
    (found b.O.Operator.rule b.O.Operator.broken b.O.Operator.stands_for b.O.PieceOperator.takes_pieces g s.width s.items.items pieces bundle c.args.node c.args.subtask c.place-place.result c.in-Some.slot.now m.all m.there c.requires.subtask c.place-place.ensures.is c.place-place.ensures.within c.in-Some.ensures.value)
    told)
