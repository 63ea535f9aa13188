use Rattle.std.proofs.Common.{◌≡◌, ◌-◌, length, drop}
use Rattle.binding.specs.Queries as q
use Rattle.bind_clauses.proofs.Behind.{behind}
use Rattle.bind_clauses.proofs.selects.united.Given as goal

abbrev pub invariant-columns : goal.invariant-columns
invariant-columns l = record {
  equal : length l.first ≡ length l.second;
  same : q.united_by l.kind l.first l.second ≡ behind l.scope (q.united_by l.kind (drop l.place l.first) (drop l.place l.second));
}

abbrev pub decreases-columns : goal.decreases-columns
decreases-columns l = length l.first - l.place
