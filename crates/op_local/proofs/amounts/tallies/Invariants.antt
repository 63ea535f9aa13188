use Rattle.std.proofs.Common.{◌≡◌, take}
use Rattle.ct_value.specs.Bag.{none}
use Rattle.op_local.specs.Amounting.{AllStand, calls}
use Rattle.op_local.proofs.amounts.tallies.Given as goal

abbrev pub invariant-loop-agg : goal.invariant-loop-agg
invariant-loop-agg l = AllStand none none l.tallies.items × (calls l.tallies.items ≡ take l.agg-index l.agg-items)
