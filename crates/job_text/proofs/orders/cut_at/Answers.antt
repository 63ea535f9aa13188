use Rattle.std.proofs.Common.{sym}
use Rattle.job_text.proofs.Verbs.{cut_none, cut_some}
use Rattle.job_text.proofs.orders.cut_at.Goals as goal

pub returns-in-Some-clause-parts : goal.returns-in-Some-clause-parts
returns-in-Some-clause-parts c = cut_some c.args.byte c.args.text.now c.in-Some.at (sym c.in-Some.ensures)

pub returns-in-None-clause-parts : goal.returns-in-None-clause-parts
returns-in-None-clause-parts c = cut_none c.args.byte c.args.text.now (sym c.in-None.ensures)
