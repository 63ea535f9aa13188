use Rattle.std.proofs.Common.{◌≡◌, [], take}
use Rattle.op_merge.specs.Kept.{StandAll, calls}
use Rattle.op_merge.proofs.kept.new_mergers.Given as goal

abbrev pub invariant-loop-agg : goal.invariant-loop-agg
invariant-loop-agg l = StandAll l.tys l.mergers.items [] × (calls l.mergers.items ≡ take l.agg-index l.agg-items)
