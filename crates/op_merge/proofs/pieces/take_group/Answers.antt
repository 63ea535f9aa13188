use Rattle.op_merge.specs.declared.groups.Results.{Results}
use Rattle.op_merge.specs.Groups.{amounts_of, merging}
use Rattle.op_merge.proofs.Told.{answer_out, answer_told, can_tell, if_ranges}
use Rattle.op_merge.proofs.pieces.take_group.Goals as goal

pub emit-requires : goal.emit-requires
emit-requires g c =
    let m = merging c.args.by.now (g.O.ChangeMode.mode c.args.output.now) in
    let r = c.requires.are in
    can_tell m c.requires.can c.args.key (r.0 c.args.key) (amounts_of c.args.by.now.keys c.args.changes) c.in-Ok.results c.requires.named (c.in-Ok.ensures.told r.0 r.1)

pub returns-in-Err-clause-range : goal.returns-in-Err-clause-range
returns-in-Err-clause-range g c =
    let m = merging c.args.by.now (g.O.ChangeMode.mode c.args.output.now) in
    if_ranges Results (Unit {0}) c.in-Err.fault (λ row is out of are. answer_out m c.args.key (of c.args.key) (amounts_of c.args.by.now.keys c.args.changes) row is (out of are)) c.in-Err.ensures.key c.in-Err.ensures.range

pub returns-clause-sent : goal.returns-clause-sent
returns-clause-sent g c = λ of are.
    let m = merging c.args.by.now (g.O.ChangeMode.mode c.args.output.now) in
    answer_told m c.args.key (of c.args.key) (amounts_of c.args.by.now.keys c.args.changes) c.in-Ok.results (c.in-Ok.ensures.told of are) c.args.to.now c.emit.new.to c.in_ok-emit.ensures
