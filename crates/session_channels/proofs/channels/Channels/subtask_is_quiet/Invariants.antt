use Rattle.std.proofs.Common.{◌≡◌, ℕ, ◌<◌, []}
use Rattle.session_channels.specs.Lanes.{flight_in}
use Rattle.session_channels.proofs.channels.Channels.subtask_is_quiet.Given as goal

abbrev pub invariant-loop-to : goal.invariant-loop-to
invariant-loop-to l = (j : ℕ) → j < l.to → flight_in l.self.width l.self.lanes.items l.edge l.from j ≡ []
