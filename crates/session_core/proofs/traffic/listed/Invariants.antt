use Rattle.std.proofs.Common.{◌≡◌, take}
use Rattle.session_core.proofs.traffic.listed.Given as goal

abbrev pub invariant-loop-count : goal.invariant-loop-count
invariant-loop-count l = l.list ≡ take l.count-index l.counts.items
