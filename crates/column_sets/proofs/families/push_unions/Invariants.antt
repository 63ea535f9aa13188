use Rattle.std.proofs.Common.{◌≡◌, ◌++◌, take, map}
use Rattle.column_sets.specs.Sets.{union}
use Rattle.column_sets.proofs.families.push_unions.Given as goal

abbrev pub invariant-loop-other : goal.invariant-loop-other
invariant-loop-other l = l.all ≡ l.initial.all ++ map (union l.one) (take l.other-index l.others)
