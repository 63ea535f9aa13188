use Rattle.std.proofs.Common.{◌≡◌, drop, Some, false}
use Rattle.ct_value.specs.declared.ty.Ty.TheVariants.{Bool as Truths}
use Rattle.ct_expr.specs.Types.{col}
use Rattle.bind_nodes.proofs.Folds.{truths_from}
use Rattle.bind_nodes.proofs.bound.columns_are_truths.Given as goal

abbrev pub invariant-loop-bound : goal.invariant-loop-bound
invariant-loop-bound l = truths_from (Some (col Truths false)) l.bounds ≡ truths_from (Some l.all) (drop l.bound-index l.bound-items)
