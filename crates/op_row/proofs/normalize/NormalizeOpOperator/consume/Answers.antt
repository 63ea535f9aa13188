use Rattle.ct_change.specs.Changelog.{upsert, fold}
use Rattle.op_rules.specs.History.{arrival}
use Rattle.emission_rules.specs.Changes.{changes_of}
use Rattle.op_row.proofs.Normal.{rows_after, emits_one}
use Rattle.op_row.proofs.normalize.NormalizeOpOperator.consume.Goals as goal

pub returns-in-Ok-clause-ok : goal.returns-in-Ok-clause-ok
returns-in-Ok-clause-ok g c = λ before from stands may few.
    let key = c.args.self.now.input.key in
    let rows = fold (upsert key) (changes_of before) in
    let kept = c.in-Ok.ensures.kept rows stands.1 may.change in
    let same = c.take.ensures.same in (
      emits_one (record { key = key; output = g.O.ChangeMode.mode c.args.self.now.output }) (changes_of before) c.args.change c.args.to.now c.take.new.to (c.in-Ok.ensures.sent rows stands.1 may.change),
      (
        rw (same.0, same.1) stands.0,
        rw (same.0, rows_after key before (arrival c.args._port from c.args.change)) (rw same.0 at kept),
      ),
    )
