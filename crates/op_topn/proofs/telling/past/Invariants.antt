use Rattle.std.proofs.Common.{◌≡◌, ◌-◌, ◌≤◌, length, drop}
use Rattle.op_topn.specs.Tells as t
use Rattle.op_topn.proofs.telling.past.Given as goal

abbrev pub invariant-skip : goal.invariant-skip
invariant-skip l = (t.past l.order l.row (drop l.from l.others) ≡ t.past l.order l.row (drop l.place l.others)) × (l.place ≤ length l.others)

abbrev pub decreases-skip : goal.decreases-skip
decreases-skip l = length l.others - l.place
