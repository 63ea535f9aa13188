use Rattle.std.specs.Vec.Iter.{into_iter_items}
use Rattle.source_lines.specs.Standing.{GoingOn}
use Rattle.source_lines.proofs.take.take_files.Given as goal

abbrev pub invariant-loop-file : goal.invariant-loop-file
invariant-loop-file l = GoingOn l.sources l.first l.fn.files.items (into_iter_items l.file-iterator) l.folds.items
