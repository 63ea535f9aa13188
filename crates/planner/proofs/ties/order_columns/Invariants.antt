use Rattle.std.proofs.Common.{◌≡◌, take}
use Rattle.planner.specs.Refusals.{order_columns}
use Rattle.planner.proofs.ties.order_columns.Given as goal

abbrev pub invariant-loop-sort : goal.invariant-loop-sort
invariant-loop-sort l = l.columns ≡ order_columns (take l.sort-index l.order)
