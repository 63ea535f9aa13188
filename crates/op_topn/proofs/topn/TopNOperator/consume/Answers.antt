use Rattle.std.proofs.Common.{length, refl}
use Rattle.ct_change.specs.Changelog.{fold}
use Rattle.op_rules.specs.History.{arrival, at_port}
use Rattle.op_rules.proofs.laws.Emits.{emits_onto}
use Rattle.emission_rules.specs.Ranking.{tells, topn_rule}
use Rattle.op_topn.specs.Tops.{ranking}
use Rattle.op_topn.proofs.Taken.{may_take, fold_arrives, emits_arrives, held_arrives}
use Rattle.op_topn.proofs.topn.TopNOperator.consume.Goals as goal

pub take-requires : goal.take-requires
take-requires g c =
    let r = c.requires.may in
    let input = g.I.ChangeMode.mode c.args.self.now.input in
    let output = g.O.ChangeMode.mode c.args.self.now.output in
    (fold input (at_port 0 r.0), length r.0, r.2.1, may_take (ranking c.args.self.now.by input output) r.0 c.args._port r.1 c.args.change r.3 c.args.self.now.partitions r.2.0 r.2.2 r.4)

pub returns-clause-ok : goal.returns-clause-ok
returns-clause-ok g c = λ before from stands may few.
    let input = g.I.ChangeMode.mode c.args.self.now.input in
    let output = g.O.ChangeMode.mode c.args.self.now.output in
    let top = ranking c.args.self.now.by input output in
    let rows = fold input (at_port 0 before) in
    let m = may_take top before c.args._port from c.args.change may c.args.self.now.partitions stands.0 stands.2 few in
    let read = c.in_ok-take.ensures.rows rows (length before) stands.1 m in
    let kept = c.in_ok-take.ensures.kept rows (length before) stands.1 m in
    let same = c.take.ensures.same in (
      emits_onto (topn_rule top) before (arrival c.args._port from c.args.change) c.args.to.now (tells top rows c.args.change) c.take.new.to (emits_arrives top before c.args._port from c.args.change may _ refl) (c.in_ok-take.ensures.sent rows (length before) stands.1 m),
      (
        rw (same.0, same.1, same.2) stands.0,
        rw (same.1, fold_arrives top before c.args._port from c.args.change may) (rw same.1 at read),
        rw (same.0, same.1, same.2) (held_arrives top before c.args._port from c.args.change may c.take.new.self.partitions kept),
      ),
    )
