use Rattle.std.proofs.Common.{◌≡◌}
use Rattle.job_text.specs.Made.{AreLast, made_lines}
use Rattle.job_text.proofs.made.make_lines.Given as goal

abbrev pub invariant-loop-k : goal.invariant-loop-k
invariant-loop-k l = record {
  lines : l.lines ≡ made_lines l.seed l.k;
  last : AreLast l.seed l.k l.numbers.last l.numbers.second l.numbers.third l.numbers.fourth;
}
