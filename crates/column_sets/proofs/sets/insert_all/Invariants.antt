use Rattle.std.proofs.Common.{◌≡◌, drop}
use Rattle.std.specs.List.{fold}
use Rattle.std.specs.Ordering.{nat_cmp}
use Rattle.std.specs.BTreeSet.{insert_key}
use Rattle.column_sets.proofs.sets.insert_all.Given as goal

abbrev pub invariant-loop-col : goal.invariant-loop-col
invariant-loop-col l = fold (insert_key nat_cmp) l.set.keys (drop l.col-index l.cols) ≡ fold (insert_key nat_cmp) l.initial.set.keys l.cols
