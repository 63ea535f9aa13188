use Rattle.std.proofs.Common.{◌≡◌, ℕ, ◌+◌, ◌<◌, List, []}
use Rattle.op_rules.specs.History.{Arrival}
use Rattle.stream_model.specs.Network.{Network}
use Rattle.session_core.specs.Runs.{AllRun}
use Rattle.session_core.proofs.operators.Operators.node_is_empty.Given as goal

abbrev pub invariant-loop-subtask : goal.invariant-loop-subtask
invariant-loop-subtask b l = (g : Network) (pieces : ℕ → ℕ → List (List Arrival)) (bundle : ℕ → ℕ → List Arrival) → AllRun b.O.Operator.rule b.O.Operator.broken b.O.Operator.stands_for b.O.PieceOperator.takes_pieces g l.self.width l.self.items.items pieces bundle → l.node < g.count + 1
    → (j : ℕ) → j < l.subtask → bundle l.node j ≡ []
