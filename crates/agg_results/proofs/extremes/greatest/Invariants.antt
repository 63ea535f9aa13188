use Rattle.std.proofs.Common.{◌≡◌, ◌≤◌, drop, length}
use Rattle.std.specs.Prelude.{option_copied}
use Rattle.ct_value.specs.Bag.{items, bag_of_counts}
use Rattle.rel_algebra.specs.Aggregates.{known, values_of}
use Rattle.agg_results.proofs.ExtremeItems.{last_item}
use Rattle.agg_results.proofs.extremes.greatest.Given as goal

abbrev pub invariant-rows : goal.invariant-rows
invariant-rows l = (option_copied l.best ≡ last_item (items (known (values_of l.agg (bag_of_counts (drop l.place l.members)))))) × (l.place ≤ length l.members)

abbrev pub decreases-rows : goal.decreases-rows
decreases-rows l = l.place
