use Rattle.std.proofs.Common.{◌≡◌, drop}
use Rattle.plan_check.specs.Chains.{follow}
use Rattle.plan_check.proofs.chains.follow.Given as goal

abbrev pub invariant-loop-place : goal.invariant-loop-place
invariant-loop-place l = follow l.keys l.place (drop l.place l.pairs) ≡ follow l.keys 0 l.pairs
