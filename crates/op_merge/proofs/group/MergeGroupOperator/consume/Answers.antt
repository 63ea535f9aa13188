use Rattle.std.proofs.Common.{Ok, Err, refl, ap, ◌∙◌}
use Rattle.op_rules.specs.History.{at_port}
use Rattle.op_rules.specs.Rules.{appended}
use Rattle.phase_rules.specs.Merging.{amounts_in}
use Rattle.op_merge.specs.Groups.{Amounts, merging}
use Rattle.op_merge.proofs.Arrived.{long_one, emits_one, grows_one}
use Rattle.op_merge.proofs.Told.{if_range}
use Rattle.op_merge.proofs.Turns.{merged_same}
use Rattle.op_merge.proofs.group.MergeGroupOperator.consume.Goals as goal

pub take-requires-clause-can : goal.take-requires-clause-can
take-requires-clause-can g c = c.requires.may.2.0

pub take-requires-clause-are : goal.take-requires-clause-are
take-requires-clause-are g c = (λ key. amounts_in c.args.self.now.by.keys key (at_port 0 c.requires.may.0), c.requires.may.2.1)

pub take-requires-clause-long : goal.take-requires-clause-long
take-requires-clause-long g c =
    let r = c.requires.may in
    long_one (merging c.args.self.now.by (g.O.ChangeMode.mode c.args.self.now.output)) r.0 c.args._port r.1 c.args.change r.3

pub returns-in-Ok-clause-ok : goal.returns-in-Ok-clause-ok
returns-in-Ok-clause-ok g c = λ before from stands may few.
    let by = c.args.self.now.by in
    let m = merging by (g.O.ChangeMode.mode c.args.self.now.output) in
    let of : Amounts = λ key. amounts_in by.keys key (at_port 0 before) in
    let same = c.take.ensures.same in (
      ap (appended (Ok c.args.to.now)) (emits_one m before c.args._port from c.args.change may _ refl) ∙ c.in-Ok.ensures.sent of stands.1,
      (
        rw (same.0, same.1) stands.0,
        rw (same.0) (merged_same by c.take.new.self.groups _ _ (grows_one m before c.args._port from c.args.change may) (c.in-Ok.ensures.kept of stands.1)),
      ),
    )

pub returns-in-Err-clause-range : goal.returns-in-Err-clause-range
returns-in-Err-clause-range g c = if_range (Unit {0}) (Unit {0}) c.in-Err.fault (λ row out before from stands may few.
    let by = c.args.self.now.by in
    let m = merging by (g.O.ChangeMode.mode c.args.self.now.output) in
    emits_one m before c.args._port from c.args.change may (Err row) (out (λ key. amounts_in by.keys key (at_port 0 before)) stands.1)) c.in-Err.ensures.range
