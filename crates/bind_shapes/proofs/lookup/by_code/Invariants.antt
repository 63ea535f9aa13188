use Rattle.std.proofs.Common.{◌≡◌, ℕ, List, length}
use Rattle.std.specs.BTreeMap.{get}
use Rattle.std.specs.Cmp.Lexicographic.{slice_cmp}
use Rattle.std.specs.Ordering.{nat_cmp}
use Rattle.bind_shapes.specs.Codes.{place_in}
use Rattle.bind_shapes.proofs.Places.{first_of}
use Rattle.bind_shapes.proofs.lookup.by_code.Given as goal

abbrev pub invariant-left : goal.invariant-left
invariant-left l = (x : List ℕ) → first_of (place_in 0 l.left x) (get (slice_cmp nat_cmp) l.places x) ≡ place_in 0 l.fn.codes x

abbrev pub decreases-left : goal.decreases-left
decreases-left l = length l.left
