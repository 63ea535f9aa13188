use Rattle.std.proofs.Common.{List}
use Rattle.ct_catalog.specs.declared.table.TableDef.{TableDef}
use Rattle.job_text.specs.Lines.{LinesLeft}
use Rattle.job_stream.specs.Parts.{moves_run}
use Rattle.job_stream.specs.Writing.{GoesOn, told}
use Rattle.job_stream.proofs.drains.move_all.Given as goal

abbrev pub invariant-moves : goal.invariant-moves
invariant-moves g l = (sources : List TableDef) (files : List LinesLeft)
    → GoesOn l.sheet sources l.fn.session files (moves_run l.lane.edge l.lane.from l.lane.to l.count) (moves_run l.lane.edge l.lane.from l.lane.to l.left) l.moved files (told g.K.Sink.written g.K.Sink.faults l.initial.out) (told g.K.Sink.written g.K.Sink.faults l.out)

abbrev pub decreases-moves : goal.decreases-moves
decreases-moves g l = l.left
