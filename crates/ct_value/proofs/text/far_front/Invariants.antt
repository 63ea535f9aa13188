use Rattle.std.proofs.Common.{◌≡◌, ◌<◌}
use Rattle.ct_value.specs.Abbreviations.{first_digits, number_onto, unit}
use Rattle.ct_value.proofs.text.far_front.Given as goal

abbrev pub invariant-loop-i : goal.invariant-loop-i
invariant-loop-i l = record { same : l.number ≡ number_onto 0 (first_digits l.i l.bytes); fits : l.number < unit l.i }
