use Rattle.std.proofs.Common.{◌≡◌, drop, map}
use Rattle.std.specs.List.{list_all}
use Rattle.planner.proofs.sizes.takes_nulls.Given as goal

abbrev pub invariant-loop-column : goal.invariant-loop-column
invariant-loop-column l = list_all (λ column. column.nullable) (map (λ c. c.ty) (drop l.column-index l.columns)) ≡ list_all (λ column. column.nullable) (map (λ c. c.ty) l.columns)
