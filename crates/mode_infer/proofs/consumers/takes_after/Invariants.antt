use Rattle.std.proofs.Common.{◌≡◌, drop}
use Rattle.phys_plan.specs.Reading.{wires}
use Rattle.mode_infer.specs.Updates.{takes_after}
use Rattle.mode_infer.proofs.consumers.takes_after.Given as goal

abbrev pub invariant-loop-i : goal.invariant-loop-i
invariant-loop-i l = takes_after l.sink l.key l.number (wires (drop l.i l.later)) (drop l.i l.updates) ≡ takes_after l.sink l.key l.number (wires l.later) l.updates
