use Rattle.std.proofs.Common.{◌≡◌, length}
use Rattle.ct_catalog.specs.Setting.{after_spaces}
use Rattle.ct_catalog.proofs.settings.after_spaces.Given as goal

abbrev pub invariant-spaces : goal.invariant-spaces
invariant-spaces l = after_spaces l.rest ≡ after_spaces l.text

abbrev pub decreases-spaces : goal.decreases-spaces
decreases-spaces l = length l.rest
