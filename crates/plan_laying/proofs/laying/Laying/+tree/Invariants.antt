use Rattle.std.proofs.Common.{◌+◌, ◌*◌, length, map, take}
use Rattle.rel_algebra.specs.Rel.{rels}
use Rattle.rel_algebra.specs.View.{rel_view, rels_view}
use Rattle.plan_laying.specs.Laying.{LaysAll}
use Rattle.plan_laying.specs.Ways.{seen}
use Rattle.plan_laying.proofs.laws.Ways.{Upward}
use Rattle.plan_laying.proofs.laying.Laying.+tree.Given as goal

abbrev pub decreases-lay : goal.decreases-lay
decreases-lay l = 4 * l.levels

abbrev pub decreases-lay_all : goal.decreases-lay_all
decreases-lay_all l = 4 * l.levels + 1

abbrev pub decreases-lay_second : goal.decreases-lay_second
decreases-lay_second l = 4 * l.levels + 1

abbrev pub decreases-lay_union : goal.decreases-lay_union
decreases-lay_union l = 4 * l.levels + 2

abbrev pub decreases-lay_node : goal.decreases-lay_node
decreases-lay_node l = 4 * l.levels + 3

abbrev pub decreases-lay-up : goal.decreases-lay-up
decreases-lay-up l = length l.way

abbrev pub invariant-lay-up : goal.invariant-lay-up
invariant-lay-up l = Upward l.fn.self l.self l.root (rel_view l.fn.rel) (map seen l.way)

abbrev pub invariant-lay_all-loop-input : goal.invariant-lay_all-loop-input
invariant-lay_all-loop-input l = LaysAll l.fn.self l.self (rels (rels_view (take l.input-index l.inputs))) l.roots l.flows
