use Rattle.std.proofs.Common.{◌≡◌, ℕ, ◌/◌, length}
use Rattle.stream_model.specs.Network.{Network}
use Rattle.session_open.specs.Opening.{HaveOpened, IsStarted, Opens}
use Rattle.session_open.proofs.Laying.{Each}
use Rattle.session_open.proofs.opening.open_operators.Given as goal

abbrev pub invariant-loop-place : goal.invariant-loop-place
invariant-loop-place b l = record {
  count : length l.items.items ≡ l.place;
  made : (g : Network) (limit : ℕ) → Opens b.O.PlanOperator.runs l.plan l.columns l.wiring g limit → Each (λ k op. IsStarted b.O.Operator.rule b.O.Operator.broken b.O.Operator.stands_for b.O.PieceOperator.takes_pieces g (k / l.width) op) l.items.items;
  opened : (g : Network) (limit : ℕ) → Opens b.O.PlanOperator.runs l.plan l.columns l.wiring g limit → HaveOpened g limit 0 l.fn.channels → HaveOpened g limit l.place l.channels;
}
