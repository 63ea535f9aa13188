use Rattle.std.proofs.Common.{ℕ, List}
use Rattle.stream_model.specs.declared.events.PrintItem.{PrintItem}
use Rattle.stream_model.specs.Network.{Network}
use Rattle.stream_model.specs.Machine.{State}
use Rattle.stream_model.specs.Drain.{Leads, moves}
use Rattle.session_core.specs.Relayed.{RelaysAlong}
use Rattle.session_core.specs.Stands.{Keeps}
use Rattle.session_core.proofs.session.Session.relay_all.Given as goal

abbrev pub invariant-loop-moved : goal.invariant-loop-moved
invariant-loop-moved b l = ((g : Network) (limit : ℕ) (handed : List PrintItem) (s : State) → Keeps b.O.Operator.rule b.O.Operator.broken b.O.Operator.stands_for b.O.PieceOperator.takes_pieces b.S.SourceCheck.stands_for g limit l.fn.self handed s
    → (t : State) × Leads g limit s (moves l.lane.edge l.lane.from l.lane.to l.moved) t × Keeps b.O.Operator.rule b.O.Operator.broken b.O.Operator.stands_for b.O.PieceOperator.takes_pieces b.S.SourceCheck.stands_for g limit l.self handed t)
    × RelaysAlong b.O.Operator.rule b.O.Operator.stands_for l.self l.lane
