use Rattle.std.proofs.Common.{◌≡◌, ◌≤◌, drop, length}
use Rattle.std.specs.BTreeMap.{keys}
use Rattle.ct_value.specs.Bag.{bag_of, bag_of_counts}
use Rattle.ct_value.specs.Order.{value_cmp}
use Rattle.rel_algebra.specs.Aggregates.{known, values_of}
use Rattle.rel_algebra.specs.Sums.{distinct}
use Rattle.agg_results.proofs.distinct_values.distinct_count.Given as goal

abbrev pub invariant-rows : goal.invariant-rows
invariant-rows l = (bag_of {R = value_cmp} (keys l.seen) ≡ distinct (known (values_of l.agg (bag_of_counts (drop l.place l.members))))) × (l.place ≤ length l.members)

abbrev pub decreases-rows : goal.decreases-rows
decreases-rows l = l.place
