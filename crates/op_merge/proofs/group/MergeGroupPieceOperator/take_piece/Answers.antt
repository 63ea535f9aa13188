use Rattle.std.proofs.Common.{◌++◌, List, ◌∙◌}
use Rattle.ct_change.specs.declared.change.Change.{Change}
use Rattle.op_rules.specs.History.{at_port}
use Rattle.phase_rules.specs.Merging.{amounts_in}
use Rattle.op_merge.specs.Groups.{merging}
use Rattle.op_merge.proofs.Arrived.{long_piece, few_piece, emits_piece, grows_piece}
use Rattle.op_merge.proofs.Told.{if_range}
use Rattle.op_merge.proofs.group.MergeGroupPieceOperator.take_piece.Goals as goal

pub take_changes-requires-clause-can : goal.take_changes-requires-clause-can
take_changes-requires-clause-can g c = c.requires.may.2.0

pub take_changes-requires-clause-are : goal.take_changes-requires-clause-are
take_changes-requires-clause-are g c = (λ key. amounts_in c.args.self.now.by.keys key (at_port 0 c.requires.may.0), c.requires.may.2.1)

pub take_changes-requires-clause-long : goal.take_changes-requires-clause-long
take_changes-requires-clause-long g c =
    let r = c.requires.may in
    long_piece (merging c.args.self.now.by (g.O.ChangeMode.mode c.args.self.now.output)) r.0 r.1 c.args.changes r.3

pub take_changes-requires-clause-few : goal.take_changes-requires-clause-few
take_changes-requires-clause-few g c =
    let r = c.requires.may in
    few_piece (merging c.args.self.now.by (g.O.ChangeMode.mode c.args.self.now.output)) r.0 r.1 c.args.changes r.3

pub returns-clause-sent : goal.returns-clause-sent
returns-clause-sent g c = λ before piece stands may.
    let m = merging c.args.self.now.by (g.O.ChangeMode.mode c.args.self.now.output) in
    emits_piece m before piece c.args.changes may ∙ c.in-Ok.ensures.sent (λ key. amounts_in m.local.keys key (at_port 0 before)) stands.1

pub returns-clause-stands : goal.returns-clause-stands
returns-clause-stands g c = λ before piece stands may.
    let m = merging c.args.self.now.by (g.O.ChangeMode.mode c.args.self.now.output) in (
      stands.0,
      c.in-Ok.ensures.kept (λ key. amounts_in m.local.keys key (at_port 0 before)) (λ key. amounts_in m.local.keys key (at_port 0 (before ++ piece))) stands.1 (grows_piece m before piece c.args.changes may),
    )

pub returns-in-Err-clause-range : goal.returns-in-Err-clause-range
returns-in-Err-clause-range g c = if_range (List Change) (List Change) c.in-Err.fault (λ row out before piece stands may.
    let m = merging c.args.self.now.by (g.O.ChangeMode.mode c.args.self.now.output) in
    emits_piece m before piece c.args.changes may ∙ out (λ key. amounts_in m.local.keys key (at_port 0 before)) stands.1) c.in-Err.ensures.range
