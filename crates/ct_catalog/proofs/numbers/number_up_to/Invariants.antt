use Rattle.std.proofs.Common.{◌≡◌, ◌≤◌, drop}
use Rattle.std.specs.Str.{all_ascii_digits}
use Rattle.ct_catalog.specs.Numbers.{number_from}
use Rattle.ct_catalog.proofs.numbers.number_up_to.Given as goal

abbrev pub invariant-loop-digit : goal.invariant-loop-digit
invariant-loop-digit l = record {
  small : l.number ≤ l.most;
  same : number_from l.number (drop l.digit-index l.digits) ≡ number_from 0 l.digits;
  digits : all_ascii_digits (drop l.digit-index l.digits) ≡ all_ascii_digits l.digits;
}
