use Rattle.std.proofs.Common.{◌≡◌, ◌≤◌, ◌*◌, take}
use Rattle.job_text.specs.Printed.{sum_of}
use Rattle.job_text.proofs.lines.sum_of.Given as goal

abbrev pub invariant-loop-count : goal.invariant-loop-count
invariant-loop-count l = record {
  so_far : l.sum ≡ sum_of (take l.count-index l.counts);
  within : l.sum ≤ 4294967295 * l.count-index;
}
