use Rattle.std.proofs.Common.{◌≡◌}
use Rattle.column_sets.specs.Places.{first_columns}
use Rattle.column_sets.proofs.places.first_columns.Given as goal

abbrev pub invariant-loop-col : goal.invariant-loop-col
invariant-loop-col l = l.cols ≡ first_columns l.col
