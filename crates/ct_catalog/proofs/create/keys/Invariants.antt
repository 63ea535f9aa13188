use Rattle.std.proofs.Common.{◌≡◌, ◌++◌, drop}
use Rattle.ct_catalog.specs.Tables.{keys}
use Rattle.ct_catalog.proofs.create.keys.Given as goal

abbrev pub invariant-loop-element : goal.invariant-loop-element
invariant-loop-element l = l.list ++ keys (drop l.element-index l.elements) ≡ keys l.elements
