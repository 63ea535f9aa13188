use Rattle.std.proofs.Common.{◌≡◌, ◌++◌, drop}
use Rattle.column_sets.specs.Places.{images}
use Rattle.column_sets.proofs.places.images.Given as goal

abbrev pub invariant-loop-set : goal.invariant-loop-set
invariant-loop-set l = l.all ++ images l.items (drop l.set-index l.sets) ≡ images l.items l.sets
