use Rattle.std.proofs.Common.{◌≡◌, drop}
use Rattle.ct_catalog.specs.Tables.{has_unknown_mode}
use Rattle.ct_catalog.proofs.create.has_unknown_mode.Given as goal

abbrev pub invariant-loop-option : goal.invariant-loop-option
invariant-loop-option l = has_unknown_mode (drop l.option-index l.options) ≡ has_unknown_mode l.options
