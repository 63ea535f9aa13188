use Rattle.std.proofs.Common.{◌≡◌, ◌≤◌, ℕ, drop, length}
use Rattle.std.specs.BTreeMap.{get}
use Rattle.std.specs.Ordering.{nat_cmp}
use Rattle.column_sets.specs.Places.{place_from}
use Rattle.column_sets.proofs.places.places_in.Given as goal

abbrev pub invariant-place : goal.invariant-place
invariant-place l = record {
  within : l.place ≤ length l.items;
  found : (col : ℕ) → get nat_cmp l.places col ≡ place_from l.place col (drop l.place l.items);
}

abbrev pub decreases-place : goal.decreases-place
decreases-place l = l.place
