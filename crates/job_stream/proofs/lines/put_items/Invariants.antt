use Rattle.std.proofs.Common.{◌≤◌, drop, length}
use Rattle.std.specs.List.{AllByRecursion}
use Rattle.ct_io.specs.Written.{AppendsUpTo}
use Rattle.job_text.specs.Printed.{IsWide}
use Rattle.job_stream.specs.Writing.{lines_on}
use Rattle.job_stream.proofs.lines.put_items.Given as goal

abbrev pub invariant-loop-item : goal.invariant-loop-item
invariant-loop-item g l = record {
  taken : AppendsUpTo (g.K.Sink.written l.initial.out) (g.K.Sink.written l.out) (lines_on l.sheet l.items) (lines_on l.sheet (drop l.item-index l.item-items));
  later : g.K.Sink.faults l.initial.out ≤ g.K.Sink.faults l.out;
  wide : AllByRecursion (IsWide (length l.sheet.tys.items)) (drop l.item-index l.item-items);
}
