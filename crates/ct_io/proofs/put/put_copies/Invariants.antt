use Rattle.std.proofs.Common.{◌≤◌}
use Rattle.ct_io.specs.Written.{AppendsUpTo}
use Rattle.ct_io.specs.Copies.{copies_text}
use Rattle.ct_io.proofs.put.put_copies.Given as goal

abbrev pub invariant-copies : goal.invariant-copies
invariant-copies g l = record {
  taken : AppendsUpTo (g.K.Sink.written l.initial.out) (g.K.Sink.written l.out) (copies_text l.count l.line) (copies_text l.left l.line);
  later : g.K.Sink.faults l.initial.out ≤ g.K.Sink.faults l.out;
}

abbrev pub decreases-copies : goal.decreases-copies
decreases-copies g l = l.left
