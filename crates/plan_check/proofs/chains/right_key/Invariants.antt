use Rattle.std.proofs.Common.{◌≡◌, take}
use Rattle.plan_check.specs.Chains.{right_key}
use Rattle.plan_check.proofs.chains.right_key.Given as goal

abbrev pub invariant-loop-pair : goal.invariant-loop-pair
invariant-loop-pair l = l.key ≡ right_key l.width (take l.pair-index l.pair-items)
