use Rattle.std.proofs.Common.{arith}
use Rattle.session_channels.proofs.channels.Channels.edge_is_quiet.Goals as goal

pub returns-clause-quiet : goal.returns-clause-quiet
returns-clause-quiet c = λ told i j li lj. c.loop-from.invariant i j (omega (arith, li, c.loop-from-test.false)) lj
