use Rattle.std.proofs.Common.{◌≡◌, drop}
use Rattle.ct_catalog.specs.Tables.{has_types}
use Rattle.ct_catalog.proofs.create.has_types.Given as goal

abbrev pub invariant-loop-element : goal.invariant-loop-element
invariant-loop-element l = has_types (drop l.element-index l.elements) ≡ has_types l.elements
