use Rattle.std.proofs.Common.{◌≡◌, ℕ, ◌+◌, ◌<◌, List}
use Rattle.op_rules.specs.History.{Arrival}
use Rattle.stream_model.specs.Network.{Network}
use Rattle.session_core.specs.Runs.{AllRun, IsEmptyAt}
use Rattle.session_core.proofs.operators.Operators.are_empty.Given as goal

abbrev pub invariant-loop-node : goal.invariant-loop-node
invariant-loop-node b l = (g : Network) (pieces : ℕ → ℕ → List (List Arrival)) (bundle : ℕ → ℕ → List Arrival) → AllRun b.O.Operator.rule b.O.Operator.broken b.O.Operator.stands_for b.O.PieceOperator.takes_pieces g l.self.width l.self.items.items pieces bundle → l.self.nodes ≡ g.count + 1
    → (v : ℕ) → v < l.node → IsEmptyAt l.self.width bundle v
