use Rattle.std.proofs.Common.{◌≡◌, ◌+◌, ◌≤◌, [], true, take}
use Rattle.phase_rules.specs.LocalGrouping.{fit_after, rows_come, rows_gone}
use Rattle.op_local.specs.Amounting.{AmountsTo}
use Rattle.op_local.proofs.telling.amounted.Given as goal

abbrev pub invariant-loop-change : goal.invariant-loop-change
invariant-loop-change g l = record {
  kept : AmountsTo l.aggs l.amounts (rows_come (take l.change-index l.change-items)) (rows_gone (take l.change-index l.change-items));
  fit : fit_after l.aggs [] (take l.change-index l.change-items) ≡ true;
  steps : l.steps ≤ l.fn.steps + l.change-index;
}
