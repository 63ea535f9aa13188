use Rattle.std.proofs.Common.{ℕ, ◌<◌, List}
use Rattle.stream_model.specs.Network.{Network}
use Rattle.stream_model.specs.Machine.{State}
use Rattle.stream_model.specs.declared.events.PrintItem.{PrintItem}
use Rattle.session_core.specs.LaidOut.{IsLaidOut}
use Rattle.session_core.specs.Kept.{Carries, IsEdgeQuiet}
use Rattle.session_core.proofs.traffic.Traffic.is_quiet.Given as goal

abbrev pub invariant-loop-edge : goal.invariant-loop-edge
invariant-loop-edge l = (g : Network) (limit : ℕ) (handed : List PrintItem) (s : State) → IsLaidOut l.wiring g limit → Carries l.self g limit handed s → (e : ℕ) → e < l.edge → IsEdgeQuiet g s e
