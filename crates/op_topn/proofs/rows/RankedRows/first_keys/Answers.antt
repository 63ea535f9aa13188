use Rattle.std.proofs.Common.{ap, ◌∙◌, take}
use Rattle.op_topn.proofs.Links.{kept_rows}
use Rattle.op_topn.proofs.rows.RankedRows.first_keys.Goals as goal

pub returns-clause-rows : goal.returns-clause-rows
returns-clause-rows g c = λ order members keeps. c.in_ok-keys.ensures.rows ∙ ap (take c.args.bound) (kept_rows order c.args.self.now.counts members keeps)
