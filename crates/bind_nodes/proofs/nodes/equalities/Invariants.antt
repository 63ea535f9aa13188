use Rattle.std.proofs.Common.{◌≡◌, drop, Some, false}
use Rattle.ct_value.specs.declared.ty.Ty.TheVariants.{Bool as Truths}
use Rattle.ct_expr.specs.Types.{col}
use Rattle.bind_nodes.proofs.Folds.{equalities_from}
use Rattle.bind_nodes.proofs.nodes.equalities.Given as goal

abbrev pub invariant-loop-item : goal.invariant-loop-item
invariant-loop-item l = equalities_from l.value (Some (col Truths false)) l.items ≡ equalities_from l.value (Some l.all) (drop l.item-index l.item-items)
