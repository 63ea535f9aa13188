use Rattle.std.proofs.Common.{◌-◌}
use Rattle.job_stream.specs.Early.{TakesEarly}
use Rattle.job_stream.proofs.Unfold.{files_run}
use Rattle.job_stream.proofs.early.EarlySession.take_rest.Given as goal

abbrev pub invariant-files : goal.invariant-files
invariant-files g l = TakesEarly l.sheet l.sources l.fn.self l.initial.files.items (files_run 0 l.count) (files_run l.place (l.count - l.place)) l.early l.files.items
