use Rattle.std.proofs.Common.{◌≡◌, take}
use Rattle.column_sets.specs.Places.{shift}
use Rattle.column_sets.proofs.places.shift.Given as goal

abbrev pub invariant-loop-col : goal.invariant-loop-col
invariant-loop-col l = l.all ≡ shift l.by (take l.col-index l.cols)
