use Rattle.std.proofs.Common.{◌≡◌, map, take}
use Rattle.emission_rules.specs.Project as p
use Rattle.op_row.proofs.gone.plain_row.Given as goal

abbrev pub invariant-loop-column : goal.invariant-loop-column
invariant-loop-column l = l.values ≡ map (p.value_handed l.row) (take l.column-index l.handed)
