use Rattle.std.proofs.Common.{◌≡◌, take}
use Rattle.phys_plan.specs.Columns as c
use Rattle.phys_plan.proofs.columns.plain_columns.Given as goal

abbrev pub invariant-loop-item : goal.invariant-loop-item
invariant-loop-item l = l.plain ≡ c.plain_columns (take l.item-index l.items)
