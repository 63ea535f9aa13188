use Rattle.std.proofs.Common.{length, Ok, Err, refl, ap, ◌∙◌}
use Rattle.ct_change.specs.Changelog.{fold}
use Rattle.op_rules.specs.History.{at_port}
use Rattle.op_rules.specs.Rules.{appended}
use Rattle.op_group.proofs.Taken.{may_take, fold_arrives, emits_arrives, grouped_arrives, if_range}
use Rattle.op_group.proofs.group.GroupOperator.consume.Goals as goal

pub take-requires : goal.take-requires
take-requires g c =
    let r = c.requires.may in
    let input = g.I.ChangeMode.mode c.args.self.now.input in
    let output = g.O.ChangeMode.mode c.args.self.now.output in
    (fold input (at_port 0 r.0), length r.0, r.2.1, may_take c.args.self.now.by input output r.0 c.args._port r.1 c.args.change r.3 c.args.self.now.groups r.2.0 r.2.2 r.4)

pub returns-in-Ok-clause-ok : goal.returns-in-Ok-clause-ok
returns-in-Ok-clause-ok g c = λ before from stands may few.
    let by = c.args.self.now.by in
    let input = g.I.ChangeMode.mode c.args.self.now.input in
    let output = g.O.ChangeMode.mode c.args.self.now.output in
    let m = may_take by input output before c.args._port from c.args.change may c.args.self.now.groups stands.0 stands.2 few in
    let rows = c.in-Ok.ensures.rows (fold input (at_port 0 before)) (length before) stands.1 m in
    let kept = c.in-Ok.ensures.kept (fold input (at_port 0 before)) (length before) stands.1 m in
    let same = c.take.ensures.same in (
      ap (appended (Ok c.args.to.now)) (emits_arrives by input output before c.args._port from c.args.change may _ refl) ∙ c.in-Ok.ensures.sent (fold input (at_port 0 before)) (length before) stands.1 m,
      (
        rw (same.0, same.1, same.2) stands.0,
        rw (same.1, fold_arrives by input output before c.args._port from c.args.change may) (rw same.1 at rows),
        rw (same.0, same.1, same.2) (grouped_arrives by input output before c.args._port from c.args.change may c.take.new.self.groups kept),
      ),
    )

pub returns-in-Err-clause-range : goal.returns-in-Err-clause-range
returns-in-Err-clause-range g c = if_range (Unit {0}) (Unit {0}) c.in-Err.fault (λ row out before from stands may few.
    let by = c.args.self.now.by in
    let input = g.I.ChangeMode.mode c.args.self.now.input in
    let output = g.O.ChangeMode.mode c.args.self.now.output in
    let m = may_take by input output before c.args._port from c.args.change may c.args.self.now.groups stands.0 stands.2 few in
    emits_arrives by input output before c.args._port from c.args.change may (Err row) (out (fold input (at_port 0 before)) (length before) stands.1 m)) c.in-Err.ensures.range
