use Rattle.std.proofs.Common.{◌≡◌, drop}
use Rattle.std.specs.List.{list_any}
use Rattle.ct_change.specs.Kinds.{has_more_than_inserts}
use Rattle.planner.proofs.sizes.any_has_more.Given as goal

abbrev pub invariant-loop-flow : goal.invariant-loop-flow
invariant-loop-flow l = list_any (λ flow. has_more_than_inserts flow.sent) (drop l.flow-index l.flows) ≡ list_any (λ flow. has_more_than_inserts flow.sent) l.flows
