use Rattle.std.proofs.Common.{◌≡◌, ◌+◌, ◌-◌, ◌≤◌, length}
use Rattle.op_sink.proofs.Places.{Walked}
use Rattle.op_sink.proofs.standing.place_of.Given as goal

abbrev pub invariant-walk : goal.invariant-walk
invariant-walk g l = (l.place ≤ length l.rows.items) × Walked l.row l.rows.items l.place × (l.steps ≡ l.initial.steps + l.place)

abbrev pub decreases-walk : goal.decreases-walk
decreases-walk g l = length l.rows.items - l.place
