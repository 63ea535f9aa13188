use Rattle.std.proofs.Common.{◌≡◌, drop, None}
use Rattle.bind_nodes.proofs.Folds.{coalesced_from}
use Rattle.bind_nodes.proofs.calls.coalesced.Given as goal

abbrev pub invariant-loop-bound : goal.invariant-loop-bound
invariant-loop-bound l = coalesced_from None l.bounds ≡ coalesced_from l.all (drop l.bound-index l.bound-items)
