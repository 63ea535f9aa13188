use Rattle.std.proofs.Common.{◌≡◌, ◌++◌, ℕ, List, drop}
use Rattle.std.specs.Prelude.{Option, option_map}
use Rattle.std.specs.BTreeMap.{get}
use Rattle.std.specs.Ordering.{nat_cmp}
use Rattle.column_sets.specs.Places.{place_of, places_of}
use Rattle.column_sets.proofs.places.places_of.Given as goal

abbrev pub invariant-loop-col : goal.invariant-loop-col
invariant-loop-col l = (items : List (Option ℕ)) → ((col : ℕ) → get nat_cmp l.places col ≡ place_of items col) → option_map (λ others. l.found ++ others) (places_of items (drop l.col-index l.cols)) ≡ places_of items l.cols
