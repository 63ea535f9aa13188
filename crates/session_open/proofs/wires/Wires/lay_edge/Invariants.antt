use Rattle.stream_model.specs.Network.{Network}
use Rattle.stream_model.specs.Drain.{channels_from}
use Rattle.session_open.specs.Wired.{AreWires, Lays}
use Rattle.session_open.proofs.wires.Wires.lay_edge.Given as goal

abbrev pub invariant-loop-from : goal.invariant-loop-from
invariant-loop-from l = (g : Network) → AreWires l.self g → Lays g l.fn.stages.items l.stages.items (channels_from g l.edge 0 l.from)
