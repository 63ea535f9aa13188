use Rattle.source_lines.specs.Standing.{Going, StandAll}
use Rattle.source_lines.specs.Taken.{Taken, first_of}
use Rattle.source_lines.proofs.take.take_first.Given as goal

abbrev pub invariant-line : goal.invariant-line
invariant-line l = (taken : Taken) → StandAll l.sources l.fn.folds.items taken → Going l.sources (first_of l.fn.first l.fn.file) taken l._line l.folds.items l.left
