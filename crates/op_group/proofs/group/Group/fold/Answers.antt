use Rattle.std.proofs.Common.{List, length, sym, subst, ◌∙◌}
use Rattle.ct_change.specs.declared.change.Change.{Change}
use Rattle.ct_change.specs.Changelog.{fold}
use Rattle.op_rules.specs.History.{at_port}
use Rattle.op_group.proofs.Arrived.{may_fold, fold_size, rows_then, grouped_then, emits_alone}
use Rattle.op_group.proofs.Folded.{behind_none}
use Rattle.op_group.proofs.Taken.{if_range}
use Rattle.op_group.proofs.group.Group.fold.Goals as goal

pub take_group-requires : goal.take_group-requires
take_group-requires g c =
    let r = c.requires.may in
    let input = g.I.ChangeMode.mode c.args.self.now.input in
    let output = g.O.ChangeMode.mode c.args.self.now.output in
    (fold input (at_port 0 r.0), length r.0, r.2.1, may_fold c.args.self.now.by input output r.0 r.1 c.args.self.now.groups r.2.0 r.2.2 c.args.changes c.args.key r.3)

pub returns-clause-sent : goal.returns-clause-sent
returns-clause-sent g c = λ before piece stands of.
    let by = c.args.self.now.by in
    let input = g.I.ChangeMode.mode c.args.self.now.input in
    let output = g.O.ChangeMode.mode c.args.self.now.output in
    emits_alone by input output before piece c.args.self.now.groups stands.0 stands.2 c.args.changes c.args.key of
    ∙ behind_none _ c.new-sent.result c.take_group.new.to c.new-sent.ensures (c.in_default.ensures.sent (fold input (at_port 0 before)) (length before) stands.1 (may_fold by input output before piece c.args.self.now.groups stands.0 stands.2 c.args.changes c.args.key of))

pub returns-clause-stands : goal.returns-clause-stands
returns-clause-stands g c = λ before piece stands of.
    let by = c.args.self.now.by in
    let input = g.I.ChangeMode.mode c.args.self.now.input in
    let output = g.O.ChangeMode.mode c.args.self.now.output in
    let m = may_fold by input output before piece c.args.self.now.groups stands.0 stands.2 c.args.changes c.args.key of in (
      stands.0,
      subst (g.I.InMode.stands_for c.args.self.now.input c.take_group.new.rows) (sym (rows_then by input output before piece c.args.self.now.groups stands.0 stands.2 c.args.changes of.is)) (c.in_default.ensures.rows (fold input (at_port 0 before)) (length before) stands.1 m),
      grouped_then by input output before piece c.args.self.now.groups stands.0 stands.2 c.args.changes c.take_group.new.groups of.is (fold_size by input output before piece c.args.self.now.groups stands.0 stands.2 c.args.changes c.args.key of) (c.in_default.ensures.kept (fold input (at_port 0 before)) (length before) stands.1 m),
    )

pub returns-in-Err-clause-range : goal.returns-in-Err-clause-range
returns-in-Err-clause-range g c = if_range (Unit {0}) (List Change) c.in-Err.fault (λ row out before piece stands of.
    let by = c.args.self.now.by in
    let input = g.I.ChangeMode.mode c.args.self.now.input in
    let output = g.O.ChangeMode.mode c.args.self.now.output in
    emits_alone by input output before piece c.args.self.now.groups stands.0 stands.2 c.args.changes c.args.key of
    ∙ out (fold input (at_port 0 before)) (length before) stands.1 (may_fold by input output before piece c.args.self.now.groups stands.0 stands.2 c.args.changes c.args.key of)) c.in-Err.ensures.range
