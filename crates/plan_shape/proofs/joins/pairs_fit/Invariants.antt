use Rattle.std.proofs.Common.{◌≡◌, drop}
use Rattle.rel_algebra.specs.Types.{pairs_fit}
use Rattle.plan_shape.proofs.joins.pairs_fit.Given as goal

abbrev pub invariant-loop-pair : goal.invariant-loop-pair
invariant-loop-pair l = pairs_fit l.left l.right (drop l.pair-index l.pair-items) ≡ pairs_fit l.left l.right l.on
