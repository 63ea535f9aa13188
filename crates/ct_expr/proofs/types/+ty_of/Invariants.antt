use Rattle.std.proofs.Common.{◌≡◌, drop, None}
use Rattle.ct_expr.proofs.Lists.{tys_from, results_from}
use Rattle.ct_expr.proofs.types.+ty_of.Given as goal

abbrev pub invariant-common_of-loop-expr : goal.invariant-common_of-loop-expr
invariant-common_of-loop-expr l = tys_from None l.fn.exprs ≡ tys_from l.all (drop l.expr-index l.expr-items)

abbrev pub invariant-result_ty-loop-when : goal.invariant-result_ty-loop-when
invariant-result_ty-loop-when l = results_from None l.fn.whens ≡ results_from l.all (drop l.when-index l.when-items)
