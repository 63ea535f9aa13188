use Rattle.std.proofs.Common.{◌-◌}
use Rattle.job_stream.specs.declared.sheet.Sheet.{Sheet}
use Rattle.job_stream.specs.Writing.{GoesOn, Told, MayTake}
use Rattle.job_stream.proofs.Unfold.{files_run}
use Rattle.job_stream.proofs.takes.take_rest.Given as goal

abbrev pub invariant-files : goal.invariant-files
invariant-files g l = ((sheet : Sheet) (at : Told) → GoesOn sheet l.sources l.fn.session l.initial.files.items (files_run 0 l.count) (files_run l.place (l.count - l.place)) l.taken l.files.items at at) × MayTake l.sources l.taken
