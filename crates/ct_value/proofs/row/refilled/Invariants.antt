use Rattle.std.proofs.Common.{◌≡◌, take}
use Rattle.ct_value.proofs.row.refilled.Given as goal

abbrev pub invariant-loop-value : goal.invariant-loop-value
invariant-loop-value l = l.values ≡ take l.value-index l.from
