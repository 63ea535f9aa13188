use Rattle.std.proofs.Common.{◌≡◌, ◌≤◌, ◌<◌, ◌+◌, ◌-◌, drop, length}
use Rattle.csv.specs.declared.parser.State.TheVariants.{StartRecord}
use Rattle.job_text.specs.Ends.{is_start, state_behind}
use Rattle.job_text.proofs.counting.ends_lines.Given as goal

abbrev pub invariant-loop-at : goal.invariant-loop-at
invariant-loop-at l = record {
  within : l.at ≤ length l.bytes + 1;
  more : l.at < length l.bytes → is_start (state_behind StartRecord (drop l.at l.bytes)) ≡ is_start (state_behind StartRecord l.bytes);
  all : length l.bytes ≤ l.at → l.begins ≡ is_start (state_behind StartRecord l.bytes);
}

abbrev pub decreases-loop-at : goal.decreases-loop-at
decreases-loop-at l = length l.bytes - l.at
