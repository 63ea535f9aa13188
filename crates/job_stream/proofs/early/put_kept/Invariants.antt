use Rattle.std.proofs.Common.{◌≤◌, drop}
use Rattle.ct_io.specs.Written.{AppendsUpTo}
use Rattle.job_stream.specs.Early.{kept_lines}
use Rattle.job_stream.proofs.early.put_kept.Given as goal

abbrev pub invariant-stages : goal.invariant-stages
invariant-stages g l = record {
  taken : AppendsUpTo (g.K.Sink.written l.initial.out) (g.K.Sink.written l.out) (kept_lines l.kept) (kept_lines (drop l.stage-index l.kept));
  later : g.K.Sink.faults l.initial.out ≤ g.K.Sink.faults l.out;
}
