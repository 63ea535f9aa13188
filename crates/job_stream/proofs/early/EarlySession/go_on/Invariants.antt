use Rattle.job_stream.specs.Early.{StaysEarly}
use Rattle.job_stream.proofs.early.EarlySession.go_on.Given as goal

abbrev pub invariant-stages : goal.invariant-stages
invariant-stages g l = StaysEarly l.sheet l.fn.self l.early
