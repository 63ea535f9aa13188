use Rattle.std.proofs.Common.{take}
use Rattle.source_lines.specs.Standing.{StandAll}
use Rattle.source_lines.specs.Taken.{nothing_taken}
use Rattle.source_lines.proofs.take.folds_of.Given as goal

abbrev pub invariant-loop-i : goal.invariant-loop-i
invariant-loop-i l = StandAll (take l.i l.fn.sources) l.folds.items nothing_taken
