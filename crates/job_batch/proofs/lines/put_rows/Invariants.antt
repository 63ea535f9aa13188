use Rattle.std.proofs.Common.{◌≡◌, ◌≤◌, length}
use Rattle.std.specs.List.{AllByRecursion}
use Rattle.ct_io.specs.Written.{AppendsUpTo}
use Rattle.ct_value.specs.Bag.{items}
use Rattle.job_text.specs.Printed.{row_lines}
use Rattle.job_batch.specs.Runs.{run_lines}
use Rattle.job_batch.proofs.lines.put_rows.Given as goal

abbrev pub invariant-runs : goal.invariant-runs
invariant-runs g l = record {
  taken : AppendsUpTo (g.K.Sink.written l.initial.out) (g.K.Sink.written l.out) (row_lines l.tys (items l.rows)) (run_lines l.tys l.left);
  later : g.K.Sink.faults l.initial.out ≤ g.K.Sink.faults l.out;
  wide : AllByRecursion (λ run. length run.0 ≡ length l.tys) l.left;
}

abbrev pub decreases-runs : goal.decreases-runs
decreases-runs g l = length l.left
