use Rattle.job_stream.specs.Early.{TakesEarly}
use Rattle.job_stream.specs.Parts.{lines_run}
use Rattle.job_stream.proofs.early.EarlySession.take_file.Given as goal

abbrev pub invariant-lines : goal.invariant-lines
invariant-lines g l = TakesEarly l.sheet l.sources l.fn.self l.initial.files.items (lines_run l.place l.count) (lines_run l.place l.left) l.early l.files.items

abbrev pub decreases-lines : goal.decreases-lines
decreases-lines g l = l.left
