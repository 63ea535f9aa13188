use Rattle.std.proofs.Common.{◌≡◌, ◌-◌, length, map}
use Rattle.query_answer.specs.Answer.{types}
use Rattle.rel_algebra.specs.GoesInto.{go_into}
use Rattle.binder.proofs.Columns.{into_from}
use Rattle.binder.proofs.sinks.go_into.Given as goal

abbrev pub invariant-columns : goal.invariant-columns
invariant-columns l = record {
  equal : length l.scope ≡ length l.sink;
  same : go_into (types l.scope) (map (λ c. c.ty) l.sink) ≡ into_from l.scope l.sink l.place;
}

abbrev pub decreases-columns : goal.decreases-columns
decreases-columns l = length l.sink - l.place
