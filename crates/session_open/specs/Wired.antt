-- How a network's nodes are joined, kept for look-ups.
use Rattle.std.specs.Prelude.{◌≡◌, ℕ, ◌+◌, List, ◌++◌, map, length, get_or, None}
use Rattle.std.specs.List.{All}
use Rattle.stream_model.specs.Network.{Network}
use Rattle.stream_model.specs.Drain.{Stage, bundles_at, channels_into}
use Rattle.session_channels.specs.Sending.{AllRoute}
use Rattle.session_core.specs.declared.wiring.Stage as wiring
use Rattle.session_core.specs.LaidOut.{IsStageThere, feed_of, stage_of}
use Rattle.session_open.specs.declared.wires.Wires.{Wires}

-- the stages of a drain at a node
abbrev pub node_part : Network → ℕ → List Stage
node_part g v = channels_into g v 1 g.count ++ bundles_at g v (g.bundle v)

-- these are the wires of a network
pub record AreWires (w : Wires) (g : Network) : Type 0 where
  pub subtasks : w.parallelism ≡ g.subtasks
  pub nodes : w.nodes ≡ g.count
  pub feeds : (e : ℕ) → feed_of (get_or w.feeds.items e None) ≡ g.fed e
  pub routes_many : length w.routes.items ≡ g.count + 1
  pub routes : AllRoute g.subtasks w.routes.items g.edge
  pub bundles : (v : ℕ) → get_or w.bundles.items v None ≡ g.bundle v

-- behind these stages stand those, the channels of all of them there
pub record Lays (g : Network) (old new : List wiring.Stage) (stages : List Stage) : Type 0 where
  pub laid : map stage_of new ≡ map stage_of old ++ stages
  pub there : All (IsStageThere g) old → All (IsStageThere g) new
