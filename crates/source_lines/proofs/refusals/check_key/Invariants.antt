use Rattle.std.proofs.Common.{◌≡◌}
use Rattle.source_lines.proofs.Nulls.{asked_left}
use Rattle.source_lines.proofs.refusals.check_key.Given as goal

abbrev pub invariant-loop-i : goal.invariant-loop-i
invariant-loop-i l = asked_left l.cols l.key l.row 0 ≡ asked_left l.cols l.key l.row l.i
