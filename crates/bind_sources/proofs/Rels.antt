-- The aggregates of the calls that are left.
use Rattle.std.proofs.Common.{ℕ, List, map}
use Rattle.rel_algebra.specs.declared.agg.Agg.{Agg}
use Rattle.binding.specs.Queries.{aggs_from}
use Rattle.bind_names.specs.declared.calls.CallRef.{CallRef}
use Rattle.bind_names.specs.Calls.{call_view}

abbrev pub aggs_left : ℕ → ℕ → List CallRef → List Agg
aggs_left m n xs = aggs_from m n (map call_view xs)
