use Rattle.stream_model.specs.Network.{Network}
use Rattle.stream_model.specs.Drain.{channels_into}
use Rattle.session_open.specs.Wired.{AreWires, Lays}
use Rattle.session_open.proofs.wires.Wires.lay_node.Given as goal

abbrev pub invariant-loop-done : goal.invariant-loop-done
invariant-loop-done l = (g : Network) → AreWires l.self g → Lays g l.fn.stages.items l.stages.items (channels_into g l.node 1 l.done)
