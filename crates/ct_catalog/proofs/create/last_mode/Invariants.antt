use Rattle.std.proofs.Common.{◌≡◌, drop}
use Rattle.ct_catalog.specs.Tables.{last_mode, mode_words, declared_mode}
use Rattle.ct_catalog.proofs.create.last_mode.Given as goal

abbrev pub invariant-loop-option : goal.invariant-loop-option
invariant-loop-option l = last_mode l.mode (mode_words (drop l.option-index l.options)) ≡ declared_mode l.options
