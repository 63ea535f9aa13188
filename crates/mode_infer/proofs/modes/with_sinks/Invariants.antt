use Rattle.std.proofs.Common.{◌≡◌, ◌++◌, drop}
use Rattle.phys_plan.specs.Reading.{wires}
use Rattle.mode_infer.specs.Modes.{all_modes}
use Rattle.mode_infer.proofs.modes.with_sinks.Given as goal

abbrev pub invariant-loop-i : goal.invariant-loop-i
invariant-loop-i l = l.all ++ all_modes l.declared l.modes (wires (drop l.i l.nodes)) (drop l.i l.modes) ≡ all_modes l.declared l.modes (wires l.nodes) l.modes
