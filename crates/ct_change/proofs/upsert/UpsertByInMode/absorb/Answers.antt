use Rattle.std.proofs.Common.{ap, ◌∙◌}
use Rattle.ct_change.specs.Emission.{replaced_by}
use Rattle.ct_change.proofs.laws.Lasts.{difference-last, last-after}
use Rattle.ct_change.proofs.upsert.UpsertByInMode.absorb.Goals as goal

pub returns-clause-ok : goal.returns-clause-ok
returns-clause-ok c = λ rows last may.
    let columns = c.args.self.now.key in
    let kept = c.args.kept.now in (
      c.replacement.ensures ∙ ap (λ o. replaced_by o c.args.change) c.in_ok-old.ensures.old ∙ difference-last columns kept rows last c.args.change,
      rw c.in_ok-old.ensures.ok (last-after columns kept rows last c.args.change),
    )
