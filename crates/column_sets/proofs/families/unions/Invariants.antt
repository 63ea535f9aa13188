use Rattle.std.proofs.Common.{◌≡◌, ◌++◌, drop}
use Rattle.column_sets.specs.Sets.{unions}
use Rattle.column_sets.proofs.families.unions.Given as goal

abbrev pub invariant-loop-one : goal.invariant-loop-one
invariant-loop-one l = l.all ++ unions (drop l.one-index l.ones) l.others ≡ unions l.ones l.others
