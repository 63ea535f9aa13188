use Rattle.std.proofs.Common.{◌≡◌, ◌+◌, ◌++◌, length}
use Rattle.std.specs.Vec.Iter.{into_iter_items}
use Rattle.mode_infer.specs.Modes.{moded, moded_from}
use Rattle.mode_infer.proofs.modes.set_modes.Given as goal

abbrev pub invariant-loop-edge : goal.invariant-loop-edge
invariant-loop-edge l = l.made ++ moded_from (length l.made + 1) l.modes (into_iter_items l.edge-iterator) ≡ moded l.modes l.fn.edges
