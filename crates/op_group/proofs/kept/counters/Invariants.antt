use Rattle.std.proofs.Common.{◌≡◌, true, take}
use Rattle.ct_value.specs.Bag.{none}
use Rattle.op_group.specs.Kept.{AllStand, AllRetract, calls}
use Rattle.op_group.proofs.kept.counters.Given as goal

abbrev pub invariant-loop-agg : goal.invariant-loop-agg
invariant-loop-agg l = AllStand l.tys none l.counters.items × (calls l.counters.items ≡ take l.agg-index l.agg-items) × (l.retracting ≡ true → AllRetract l.counters.items)
