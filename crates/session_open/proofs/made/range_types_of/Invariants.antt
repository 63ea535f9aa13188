use Rattle.std.proofs.Common.{◌≡◌, length}
use Rattle.stream_model.specs.Network.{Network}
use Rattle.session_open.proofs.Laying.{Each}
use Rattle.session_open.proofs.made.range_types_of.Given as goal

abbrev pub invariant-loop-node : goal.invariant-loop-node
invariant-loop-node b l = record {
  count : length l.types.items ≡ l.node;
  types : (g : Network) → b.O.PlanOperator.runs l.plan l.columns g → Each (λ v of. of ≡ g.range_types v) l.types.items;
}
