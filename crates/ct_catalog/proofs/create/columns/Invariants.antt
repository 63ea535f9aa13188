use Rattle.std.proofs.Common.{◌≡◌, ◌++◌, drop}
use Rattle.ct_catalog.specs.Tables.{columns}
use Rattle.ct_catalog.proofs.create.columns.Given as goal

abbrev pub invariant-loop-element : goal.invariant-loop-element
invariant-loop-element l = l.cols ++ columns l.key (drop l.element-index l.elements) ≡ columns l.key l.elements
