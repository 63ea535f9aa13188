use Rattle.op_row.proofs.Normal.{may_tell, told_by}
use Rattle.op_row.proofs.normalize.NormalizeOp.take.Goals as goal

pub emit-requires : goal.emit-requires
emit-requires g c =
    let r = c.requires.may in
    let d = (c.in_ok-diff.ensures.ok r.0 r.1 r.2).0 in
    rw (c.row_in.ensures, c.row_in-2.ensures)
    (may_tell c.args.self.now.input.key (g.O.ChangeMode.mode c.args.self.now.output) r.0 c.args.change c.in_ok-diff.diff d c.requires.tells)

pub returns-clause-sent : goal.returns-clause-sent
returns-clause-sent g c = λ rows last may.
    told_by c.args.self.now.input.key (g.O.ChangeMode.mode c.args.self.now.output) rows c.args.change c.in_ok-diff.diff (c.in_ok-diff.ensures.ok rows last may).0
    c.args.to.now c.emit.new.to c.row_in.result c.row_in-2.result c.row_in.ensures c.row_in-2.ensures c.in_ok-emit.ensures
