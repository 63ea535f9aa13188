use Rattle.std.proofs.Common.{◌≤◌, length}
use Rattle.ct_io.specs.Written.{AppendsUpTo}
use Rattle.ct_io.proofs.put.put_all.Given as goal

abbrev pub invariant-rest : goal.invariant-rest
invariant-rest g l = record {
  taken : AppendsUpTo (g.K.Sink.written l.initial.out) (g.K.Sink.written l.out) l.piece l.rest;
  later : g.K.Sink.faults l.initial.out ≤ g.K.Sink.faults l.out;
}

abbrev pub decreases-rest : goal.decreases-rest
decreases-rest g l = length l.rest
