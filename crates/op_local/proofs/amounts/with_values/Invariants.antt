use Rattle.std.proofs.Common.{◌≡◌, ◌++◌, take}
use Rattle.op_local.proofs.amounts.with_values.Given as goal

abbrev pub invariant-loop-value : goal.invariant-loop-value
invariant-loop-value l = l.whole ≡ l.fn.row ++ take l.value-index l.value-items
