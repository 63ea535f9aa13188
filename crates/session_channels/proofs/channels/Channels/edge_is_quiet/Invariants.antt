use Rattle.std.proofs.Common.{◌≡◌, ℕ, ◌<◌, []}
use Rattle.session_channels.specs.Lanes.{flight_in}
use Rattle.session_channels.proofs.channels.Channels.edge_is_quiet.Given as goal

abbrev pub invariant-loop-from : goal.invariant-loop-from
invariant-loop-from l = (i j : ℕ) → i < l.from → j < l.self.width → flight_in l.self.width l.self.lanes.items l.edge i j ≡ []
