use Rattle.std.proofs.Common.{◌≡◌, ◌++◌, length, map, option_map}
use Rattle.rel_algebra.specs.View.{rel_view}
use Rattle.plan_laying.specs.Ways.{seen, way_of}
use Rattle.plan_laying.proofs.laws.Ways.{rest_of}
use Rattle.plan_laying.proofs.way.way_down.Given as goal

abbrev pub invariant-down : goal.invariant-down
invariant-down l = way_of (rel_view l.fn.rel) ≡ map seen l.way ++ rest_of (option_map seen l.next)

abbrev pub decreases-down : goal.decreases-down
decreases-down l = length (rest_of (option_map seen l.next))
