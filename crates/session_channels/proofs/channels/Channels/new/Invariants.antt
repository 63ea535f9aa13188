use Rattle.std.proofs.Common.{◌≡◌, length}
use Rattle.session_channels.specs.Lanes.{AreIdle}
use Rattle.session_channels.proofs.channels.Channels.new.Given as goal

abbrev pub invariant-loop-made : goal.invariant-loop-made
invariant-loop-made l = (length l.lanes.items ≡ l.made) × AreIdle l.lanes.items
