use Rattle.std.proofs.Common.{◌≡◌, take}
use Rattle.column_sets.specs.Places.{shifted}
use Rattle.column_sets.proofs.places.shifted.Given as goal

abbrev pub invariant-loop-set : goal.invariant-loop-set
invariant-loop-set l = l.all ≡ shifted l.by (take l.set-index l.sets)
