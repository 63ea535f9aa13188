use Rattle.rel_algebra.specs.Aggregates.{agg_types}
use Rattle.rel_columns.proofs.Gathered.{Gathered, calls_from}
use Rattle.rel_columns.proofs.calls.call_columns.Given as goal

abbrev pub invariant-loop-agg : goal.invariant-loop-agg
invariant-loop-agg l = Gathered (agg_types l.columns l.global l.aggs) (calls_from l.columns l.global l.agg-items l.agg-index) l.made
