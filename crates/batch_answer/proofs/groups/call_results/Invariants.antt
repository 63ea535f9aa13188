use Rattle.std.proofs.Common.{◌≡◌, drop}
use Rattle.ct_value.specs.Bag.{bag_of_counts}
use Rattle.rel_algebra.specs.Aggregates.{agg_result, agg_results}
use Rattle.batch_answer.proofs.Lists.{collected}
use Rattle.batch_answer.proofs.groups.call_results.Given as goal

abbrev pub invariant-loop-agg : goal.invariant-loop-agg
invariant-loop-agg l = collected (agg_result l.columns (bag_of_counts l.members)) (drop l.agg-index l.agg-items) l.values ≡ agg_results l.columns l.aggs (bag_of_counts l.members)
