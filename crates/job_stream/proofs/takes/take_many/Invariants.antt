use Rattle.job_stream.specs.declared.sheet.Sheet.{Sheet}
use Rattle.job_stream.specs.Parts.{lines_run}
use Rattle.job_stream.specs.Writing.{GoesOn, Told, MayTake}
use Rattle.job_stream.proofs.takes.take_many.Given as goal

abbrev pub invariant-lines : goal.invariant-lines
invariant-lines g l = ((sheet : Sheet) (at : Told) → GoesOn sheet l.sources l.fn.session l.initial.files.items (lines_run l.place l.count) (lines_run l.place l.left) l.taken l.files.items at at) × MayTake l.sources l.taken

abbrev pub decreases-lines : goal.decreases-lines
decreases-lines g l = l.left
