use Rattle.std.proofs.Common.{◌≡◌, take}
use Rattle.ct_expr.specs.View.{exprs_view}
use Rattle.emission_rules.specs.Project as p
use Rattle.op_row.proofs.gone.handed_by.Given as goal

abbrev pub invariant-loop-item : goal.invariant-loop-item
invariant-loop-item l = l.handed ≡ p.handed (exprs_view (take l.item-index l.items))
