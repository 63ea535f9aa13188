use Rattle.std.proofs.Common.{sym, ap, ◌∙◌}
use Rattle.ct_value.specs.Bag.{copies}
use Rattle.ct_change.specs.Changelog.{Rows}
use Rattle.batch_answer.proofs.Tallies.{copies_in}
use Rattle.batch_answer.proofs.tally.Tally.count.Goals as goal

pub returns : goal.returns
returns c =
    c.standing.ensures ∙ sym (copies_in c.counts.result.now c.args.row.now c.counts.ensures.counted.ordered)
    ∙ ap (λ (b : Rows). copies b c.args.row.now) c.counts.ensures.same
