use Rattle.std.proofs.Common.{◌≡◌, ◌≤◌, ◌+◌, ◌-◌, drop, length}
use Rattle.csv.specs.declared.parser.State.TheVariants.{StartRecord}
use Rattle.job_text.specs.Ends.{ends_in}
use Rattle.job_text.proofs.counting.count_records.Given as goal

abbrev pub invariant-loop-at : goal.invariant-loop-at
invariant-loop-at l = record {
  few : l.count ≤ l.at;
  within : l.at ≤ length l.text + 1;
  counted : l.count + ends_in StartRecord (drop l.at l.text) ≡ ends_in StartRecord l.text;
}

abbrev pub decreases-loop-at : goal.decreases-loop-at
decreases-loop-at l = length l.text - l.at
