use Rattle.std.proofs.Common.{◌≡◌, map, take}
use Rattle.ct_catalog.proofs.table.TableDef.types.Given as goal

abbrev pub invariant-loop-column : goal.invariant-loop-column
invariant-loop-column l = l.types ≡ map (λ c. c.ty) (take l.column-index l.self.cols)
