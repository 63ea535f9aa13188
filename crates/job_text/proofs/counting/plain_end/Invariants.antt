use Rattle.std.proofs.Common.{◌≡◌, ◌+◌, drop}
use Rattle.std.specs.List.{prefix_len}
use Rattle.job_text.specs.Ends.{is_plain}
use Rattle.job_text.proofs.counting.plain_end.Given as goal

abbrev pub invariant-loop-i : goal.invariant-loop-i
invariant-loop-i l = l.i + prefix_len is_plain (drop l.i l.text) ≡ l.from + prefix_len is_plain (drop l.from l.text)
