use Rattle.std.proofs.Common.{◌≡◌, ◌≤◌, ◌+◌, drop}
use Rattle.csv.specs.declared.parser.State.TheVariants.{StartRecord}
use Rattle.job_text.specs.Ends.{field_ends, state_at}
use Rattle.job_text.proofs.counting.field_ends.Given as goal

abbrev pub invariant-loop-byte : goal.invariant-loop-byte
invariant-loop-byte l = record {
  few : l.ends ≤ l.byte-index;
  counted : l.ends + field_ends (state_at l.place) (drop l.byte-index l.text) ≡ field_ends StartRecord l.text;
}
