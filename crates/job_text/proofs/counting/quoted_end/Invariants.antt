use Rattle.std.proofs.Common.{◌≡◌, ◌+◌, drop}
use Rattle.csv.specs.declared.parser.State.TheVariants.{StartRecord}
use Rattle.job_text.specs.Ends.{before_end, state_at}
use Rattle.job_text.proofs.counting.quoted_end.Given as goal

abbrev pub invariant-loop-i : goal.invariant-loop-i
invariant-loop-i l = l.i + before_end (state_at l.place) (drop l.i l.text) ≡ l.at + before_end StartRecord (drop l.at l.text)
