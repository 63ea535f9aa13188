-- Channels that lead to such an operator at the sink.
use Rattle.std.specs.Prelude.{◌≡◌, ℕ, ◌+◌, ◌*◌, true, List, get_or, Some, None}
use Rattle.op_rules.specs.History.{Arrival}
use Rattle.op_rules.specs.Rules.{Rule}
use Rattle.stream_model.specs.Network.{Network}
use Rattle.stream_model.specs.Machine.{is_channel}
use Rattle.session_core.specs.LaidOut.{IsLaidOut, port_of}
use Rattle.session_core.specs.Relay.{RelaysIn}
use Rattle.session_core.specs.declared.operators.Operators.{Operators}
use Rattle.session_core.specs.declared.session.Session.{Session}
use Rattle.session_core.specs.declared.wiring.Feed.{Feed}
use Rattle.session_core.specs.declared.wiring.Lane.{Lane}

module _ {O : Type 0} (rule_is : O → Rule) (stands : O → List Arrival → Type 0) where
  -- a channel of a network leads to the sink, which keeps no bundles, at such a subtask
  pub record RelaysTo (operators : Operators O) (lane : Lane) (g : Network) : Type 0 where
    pub feed : Feed
    pub fed : g.fed lane.edge ≡ Some (port_of feed)
    pub channel : is_channel g lane.edge lane.from lane.to ≡ true
    pub last : feed.node ≡ g.count
    pub alone : g.bundle feed.node ≡ None
    pub relays : RelaysIn rule_is stands (get_or operators.items.items (feed.node * operators.width + lane.to) None)

  -- so it is in each network as which the session is wired
  abbrev pub RelaysAlong : {S : Type 0} → Session O S → Lane → Type 0
  RelaysAlong session lane = (g : Network) (limit : ℕ) → IsLaidOut session.wiring g limit → RelaysTo session.operators lane g
