use Rattle.stream_model.specs.Network.{Network}
use Rattle.stream_model.specs.Drain.{channels_to}
use Rattle.session_open.specs.Wired.{AreWires, Lays}
use Rattle.session_open.proofs.wires.Wires.lay_subtask.Given as goal

abbrev pub invariant-loop-to : goal.invariant-loop-to
invariant-loop-to l = (g : Network) → AreWires l.self g → Lays g l.fn.stages.items l.stages.items (channels_to g l.edge l.from 0 l.to)
