use Rattle.std.proofs.Common.{◌≡◌, drop, Some, false}
use Rattle.ct_value.specs.declared.ty.Ty.TheVariants.{Bool as Truths}
use Rattle.ct_expr.specs.Types.{col}
use Rattle.bind_nodes.proofs.Folds.{conditions_from}
use Rattle.bind_nodes.proofs.cases.all_conditions.Given as goal

abbrev pub invariant-loop-choice : goal.invariant-loop-choice
invariant-loop-choice l = conditions_from (Some (col Truths false)) l.choices ≡ conditions_from (Some l.all) (drop l.choice-index l.choice-items)
