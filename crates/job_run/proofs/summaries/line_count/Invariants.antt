use Rattle.std.proofs.Common.{◌≡◌, ◌≤◌, take}
use Rattle.job_run.specs.Loads.{line_count}
use Rattle.job_run.proofs.summaries.line_count.Given as goal

abbrev pub invariant-loop-byte : goal.invariant-loop-byte
invariant-loop-byte l = record {
  so_far : l.count ≡ line_count (take l.byte-index l.bytes);
  within : l.count ≤ l.byte-index;
}
