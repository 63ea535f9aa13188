use Rattle.std.proofs.Common.{arith}
use Rattle.session_channels.proofs.channels.Channels.subtask_is_quiet.Goals as goal

pub returns-clause-quiet : goal.returns-clause-quiet
returns-clause-quiet c = λ told j within. c.loop-to.invariant j (omega (arith, within, c.loop-to-test.false))
