use Rattle.std.proofs.Common.{◌≡◌, ◌++◌, drop}
use Rattle.ct_catalog.specs.Tables.{column_names}
use Rattle.ct_catalog.proofs.create.column_names.Given as goal

abbrev pub invariant-loop-element : goal.invariant-loop-element
invariant-loop-element l = l.names ++ column_names (drop l.element-index l.elements) ≡ column_names l.elements
