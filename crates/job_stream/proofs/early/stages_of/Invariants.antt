use Rattle.exec_core.specs.Stands.{ForRuns}
use Rattle.job_stream.proofs.EarlyRuns.{AreBegunTo}
use Rattle.job_stream.proofs.early.stages_of.Given as goal

abbrev pub invariant-stages : goal.invariant-stages
invariant-stages l = ForRuns l.session (λ plan limit handed items. AreBegunTo l.seen l.kept.items l.number plan)
