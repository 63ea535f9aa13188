use Rattle.std.proofs.Common.{◌≡◌, ◌++◌, drop}
use Rattle.csv.specs.Writing as csv
use Rattle.job_text.proofs.quoting.push_doubled.Given as goal

abbrev pub invariant-loop-i : goal.invariant-loop-i
invariant-loop-i l = l.line ++ csv.escaped csv.default_writer (drop l.i l.text) ≡ l.initial.line ++ csv.escaped csv.default_writer l.text
