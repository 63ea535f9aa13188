use Rattle.std.proofs.Common.{◌≡◌, false}
use Rattle.unit_tests.proofs.MaterializeArrivals.{Fed}
use Rattle.unit_tests.proofs.materializer.told.Given as goal

abbrev pub invariant-loop-kind : goal.invariant-loop-kind
invariant-loop-kind g l = (g.O.Operator.broken l.operator ≡ false) × Fed (g.O.Operator.rule l.operator) (g.O.Operator.stands_for l.operator) l.standing l.taken
