use Rattle.std.proofs.Common.{List}
use Rattle.ct_catalog.specs.declared.table.TableDef.{TableDef}
use Rattle.job_text.specs.Lines.{LinesLeft}
use Rattle.job_stream.specs.Parts.{stages_run}
use Rattle.job_stream.specs.Writing.{GoesOn, told}
use Rattle.job_stream.proofs.drains.deliver_all.Given as goal

abbrev pub invariant-stages : goal.invariant-stages
invariant-stages g l = (sources : List TableDef) (files : List LinesLeft)
    → GoesOn l.sheet sources l.fn.session files (stages_run 0) (stages_run l.number) l.drained files (told g.K.Sink.written g.K.Sink.faults l.initial.out) (told g.K.Sink.written g.K.Sink.faults l.out)
