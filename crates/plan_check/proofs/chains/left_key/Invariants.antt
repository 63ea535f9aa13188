use Rattle.std.proofs.Common.{◌≡◌, map, take}
use Rattle.plan_check.specs.Chains.{left_column}
use Rattle.plan_check.proofs.chains.left_key.Given as goal

abbrev pub invariant-loop-pair : goal.invariant-loop-pair
invariant-loop-pair l = l.key ≡ map left_column (take l.pair-index l.pair-items)
