use Rattle.stream_model.specs.Network.{Network}
use Rattle.stream_model.specs.Drain.{bundles_from}
use Rattle.session_open.specs.Wired.{AreWires, Lays}
use Rattle.session_open.proofs.wires.Wires.lay_bundles.Given as goal

abbrev pub invariant-loop-subtask : goal.invariant-loop-subtask
invariant-loop-subtask l = (g : Network) → AreWires l.self g → Lays g l.fn.stages.items l.stages.items (bundles_from l.node 0 l.subtask)
