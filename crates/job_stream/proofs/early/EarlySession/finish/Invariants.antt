use Rattle.job_stream.specs.Early.{FinishesStages}
use Rattle.job_stream.proofs.early.EarlySession.finish.Given as goal

abbrev pub invariant-stages : goal.invariant-stages
invariant-stages g l = FinishesStages l.sheet l.number l.fn.self l.early
