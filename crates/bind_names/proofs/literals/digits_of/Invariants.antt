use Rattle.std.proofs.Common.{◌≤◌, ◌-◌, ◌^◌}
use Rattle.bind_names.proofs.literals.digits_of.Given as goal

abbrev pub invariant-digits : goal.invariant-digits
invariant-digits l = record {
  least : 1 ≤ l.digits;
  most : l.digits ≤ 38;
  low : 2 ≤ l.digits → 10 ^ (l.digits - 1) ≤ l.number;
}

abbrev pub decreases-digits : goal.decreases-digits
decreases-digits l = 38 - l.digits
