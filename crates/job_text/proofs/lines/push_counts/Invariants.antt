use Rattle.std.proofs.Common.{◌≡◌, ◌++◌, codes, drop}
use Rattle.job_text.specs.Printed.{commaed}
use Rattle.job_text.proofs.lines.push_counts.Given as goal

abbrev pub invariant-loop-i : goal.invariant-loop-i
invariant-loop-i l = l.line ++ commaed (drop l.i l.counts) ≡ l.fn.line ++ (codes "=" ++ commaed l.counts)
