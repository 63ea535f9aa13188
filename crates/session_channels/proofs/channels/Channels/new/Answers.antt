use Rattle.std.proofs.Common.{arith, sym, subst}
use Rattle.std.proofs.lemmas.Grind.{common_steps}
use Rattle.session_channels.specs.Lanes.{AreIdle}
use Rattle.session_channels.proofs.Lanes.{idle_push, none_sent, nothing_held}
use Rattle.session_channels.proofs.channels.Channels.new.Goals as goal

pub loop-made-preserved : goal.loop-made-preserved
loop-made-preserved c = (grind (arith, common_steps), subst AreIdle (sym c.in_ok-push.ensures.items) (idle_push c.loop-made.lanes.items c.new.result c.loop-made.invariant.1 c.new.ensures))

pub returns-clause-flight : goal.returns-clause-flight
returns-clause-flight c = nothing_held c.args.width c.loop-made.lanes.items c.loop-made.invariant.1

pub invariant_of-result-clause-short : goal.invariant_of-result-clause-short
invariant_of-result-clause-short c = none_sent c.loop-made.lanes.items c.loop-made.invariant.1
