use Rattle.std.proofs.Common.{◌≡◌, drop, Some, None, false}
use Rattle.ct_value.specs.declared.ty.Ty.TheVariants.{Bool as Truths}
use Rattle.ct_expr.specs.Types.{col}
use Rattle.ct_expr.proofs.Lists.{truths_from, conds_from, equalities_from, coalesced_from, results_cols_from}
use Rattle.ct_expr.proofs.types.+type_of.Given as goal

abbrev pub invariant-all_truths-loop-expr : goal.invariant-all_truths-loop-expr
invariant-all_truths-loop-expr l = truths_from l.cols (Some (col Truths false)) l.fn.exprs ≡ truths_from l.cols (Some l.all) (drop l.expr-index l.expr-items)

abbrev pub invariant-all_conds-loop-when : goal.invariant-all_conds-loop-when
invariant-all_conds-loop-when l = conds_from l.cols (Some (col Truths false)) l.fn.whens ≡ conds_from l.cols (Some l.all) (drop l.when-index l.when-items)

abbrev pub invariant-in_list_col-loop-item : goal.invariant-in_list_col-loop-item
invariant-in_list_col-loop-item l = equalities_from l.of l.cols (Some (col Truths false)) l.fn.items ≡ equalities_from l.of l.cols (Some l.all) (drop l.item-index l.item-items)

abbrev pub invariant-coalesced-loop-expr : goal.invariant-coalesced-loop-expr
invariant-coalesced-loop-expr l = coalesced_from l.cols None l.fn.exprs ≡ coalesced_from l.cols l.all (drop l.expr-index l.expr-items)

abbrev pub invariant-result_cols-loop-when : goal.invariant-result_cols-loop-when
invariant-result_cols-loop-when l = results_cols_from l.cols None l.fn.whens ≡ results_cols_from l.cols l.all (drop l.when-index l.when-items)
