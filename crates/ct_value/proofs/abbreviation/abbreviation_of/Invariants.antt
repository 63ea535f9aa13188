use Rattle.std.proofs.Common.{◌≡◌, ◌+◌, ◌-◌, ◌<◌, drop}
use Rattle.ct_value.specs.Abbreviations.{first_digits, number_onto, row_abbreviation, row_digits}
use Rattle.ct_value.proofs.abbreviation.abbreviation_of.Given as goal

abbrev pub invariant-loop-value : goal.invariant-loop-value
invariant-loop-value l = record {
  more : l.digits < 8;
  same : l.number + number_onto 0 (first_digits (8 - l.digits) (row_digits (drop l.value-index l.values))) ≡ row_abbreviation l.values;
}
