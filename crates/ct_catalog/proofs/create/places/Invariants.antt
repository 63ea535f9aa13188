use Rattle.std.proofs.Common.{◌≡◌, ◌++◌, drop}
use Rattle.ct_catalog.specs.Tables.{places}
use Rattle.ct_catalog.proofs.create.places.Given as goal

abbrev pub invariant-loop-i : goal.invariant-loop-i
invariant-loop-i l = l.cols ++ places l.key l.i (drop l.i l.names) ≡ places l.key 0 l.names
