use Rattle.std.proofs.Common.{◌≡◌, ℕ, List, ◌++◌, drop}
use Rattle.stream_model.specs.declared.events.PrintItem.{PrintItem}
use Rattle.stream_model.specs.Network.{Network}
use Rattle.stream_model.specs.Machine.{State}
use Rattle.stream_model.specs.Runs.{Item}
use Rattle.stream_model.specs.Drain.{Leads, drain_stages, stages}
use Rattle.session_core.specs.Stands.{Keeps}
use Rattle.session_core.proofs.session.Session.run_stages.Given as goal

abbrev pub invariant-loop-done : goal.invariant-loop-done
invariant-loop-done b l = (g : Network) (limit : ℕ) (handed : List PrintItem) (s : State) → Keeps b.O.Operator.rule b.O.Operator.broken b.O.Operator.stands_for b.O.PieceOperator.takes_pieces b.S.SourceCheck.stands_for g limit l.fn.self handed s
    → (t : State) × (front : List Item) × Leads g limit s front t × Keeps b.O.Operator.rule b.O.Operator.broken b.O.Operator.stands_for b.O.PieceOperator.takes_pieces b.S.SourceCheck.stands_for g limit l.self handed t
    × (drain_stages g limit s (stages g) ≡ front ++ drain_stages g limit t (drop l.done (stages g)))
