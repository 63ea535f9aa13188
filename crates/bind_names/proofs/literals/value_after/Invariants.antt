use Rattle.std.proofs.Common.{◌≡◌, ◌<◌, ◌^◌, drop}
use Rattle.std.specs.Str.Parse.{digits_value_after}
use Rattle.bind_names.proofs.literals.value_after.Given as goal

abbrev pub invariant-loop-digit : goal.invariant-loop-digit
invariant-loop-digit l = record {
  value : digits_value_after 10 l.number (drop l.digit-index l.digits) ≡ digits_value_after 10 l.fn.number l.digits;
  small : l.number < 10 ^ 38;
}
