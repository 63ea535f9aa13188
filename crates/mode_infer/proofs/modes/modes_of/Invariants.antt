use Rattle.std.proofs.Common.{◌≡◌, ◌++◌, drop}
use Rattle.mode_infer.specs.Modes.{modes_of}
use Rattle.mode_infer.proofs.modes.modes_of.Given as goal

abbrev pub invariant-loop-i : goal.invariant-loop-i
invariant-loop-i l = l.modes ++ modes_of (drop l.i l.flows) (drop l.i l.updates) ≡ modes_of l.flows l.updates
