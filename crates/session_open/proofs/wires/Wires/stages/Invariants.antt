use Rattle.std.proofs.Common.{[]}
use Rattle.stream_model.specs.Network.{Network}
use Rattle.stream_model.specs.Drain.{stages_from}
use Rattle.session_open.specs.Wired.{AreWires, Lays}
use Rattle.session_open.proofs.wires.Wires.stages.Given as goal

abbrev pub invariant-loop-done : goal.invariant-loop-done
invariant-loop-done l = (g : Network) → AreWires l.self g → Lays g [] l.stages.items (stages_from g 1 l.done)
