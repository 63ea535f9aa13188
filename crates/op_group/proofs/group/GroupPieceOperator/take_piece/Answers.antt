use Rattle.std.proofs.Common.{List, length, sym, subst, ◌∙◌}
use Rattle.ct_change.specs.declared.change.Change.{Change}
use Rattle.ct_change.specs.Changelog.{fold}
use Rattle.op_rules.specs.History.{at_port}
use Rattle.op_group.proofs.Arrived.{may_take_all, piece_is, piece_size, rows_then, grouped_then, emits_then}
use Rattle.op_group.proofs.Taken.{if_range}
use Rattle.op_group.proofs.group.GroupPieceOperator.take_piece.Goals as goal

pub take_changes-requires : goal.take_changes-requires
take_changes-requires g c =
    let r = c.requires.may in
    let input = g.I.ChangeMode.mode c.args.self.now.input in
    let output = g.O.ChangeMode.mode c.args.self.now.output in
    (fold input (at_port 0 r.0), length r.0, r.2.1, may_take_all c.args.self.now.by input output r.0 r.1 c.args.self.now.groups r.2.0 r.2.2 c.args.changes r.3)

pub returns-clause-sent : goal.returns-clause-sent
returns-clause-sent g c = λ before piece stands may.
    let by = c.args.self.now.by in
    let input = g.I.ChangeMode.mode c.args.self.now.input in
    let output = g.O.ChangeMode.mode c.args.self.now.output in
    let is = piece_is by input output before piece c.args.self.now.groups stands.0 stands.2 c.args.changes may in
    emits_then by input output before piece c.args.self.now.groups stands.0 stands.2 c.args.changes is
    ∙ c.in-Ok.ensures.sent (fold input (at_port 0 before)) (length before) stands.1 (may_take_all by input output before piece c.args.self.now.groups stands.0 stands.2 c.args.changes may)

pub returns-clause-stands : goal.returns-clause-stands
returns-clause-stands g c = λ before piece stands may.
    let by = c.args.self.now.by in
    let input = g.I.ChangeMode.mode c.args.self.now.input in
    let output = g.O.ChangeMode.mode c.args.self.now.output in
    let is = piece_is by input output before piece c.args.self.now.groups stands.0 stands.2 c.args.changes may in
    let size = piece_size by input output before piece c.args.self.now.groups stands.0 stands.2 c.args.changes may in
    let m = may_take_all by input output before piece c.args.self.now.groups stands.0 stands.2 c.args.changes may in (
      stands.0,
      subst (g.I.InMode.stands_for c.args.self.now.input c.take_changes.new.rows) (sym (rows_then by input output before piece c.args.self.now.groups stands.0 stands.2 c.args.changes is)) (c.in-Ok.ensures.rows (fold input (at_port 0 before)) (length before) stands.1 m),
      grouped_then by input output before piece c.args.self.now.groups stands.0 stands.2 c.args.changes c.take_changes.new.groups is size (c.in-Ok.ensures.kept (fold input (at_port 0 before)) (length before) stands.1 m),
    )

pub returns-in-Err-clause-range : goal.returns-in-Err-clause-range
returns-in-Err-clause-range g c = if_range (List Change) (List Change) c.in-Err.fault (λ row out before piece stands may.
    let by = c.args.self.now.by in
    let input = g.I.ChangeMode.mode c.args.self.now.input in
    let output = g.O.ChangeMode.mode c.args.self.now.output in
    let is = piece_is by input output before piece c.args.self.now.groups stands.0 stands.2 c.args.changes may in
    emits_then by input output before piece c.args.self.now.groups stands.0 stands.2 c.args.changes is
    ∙ out (fold input (at_port 0 before)) (length before) stands.1 (may_take_all by input output before piece c.args.self.now.groups stands.0 stands.2 c.args.changes may)) c.in-Err.ensures.range
