use Rattle.std.proofs.Common.{sym}
use Rattle.job_run.proofs.files.load_feed.Goals as goal

pub returns-in-Ok-clause-halts : goal.returns-in-Ok-clause-halts
returns-in-Ok-clause-halts g c = rw (sym c.in-Ok.ensures) c.load.ensures.halts
