use Rattle.std.proofs.Common.{◌≡◌, ◌++◌, drop}
use Rattle.ct_expr.specs.View.{exprs_view, whens_view}
use Rattle.ct_expr.proofs.+dup.Given as goal

abbrev pub invariant-dup::dup_exprs-loop-expr : goal.invariant-dup::dup_exprs-loop-expr
invariant-dup::dup_exprs-loop-expr l = exprs_view l.fn.exprs ≡ exprs_view l.copies ++ exprs_view (drop l.expr-index l.expr-items)

abbrev pub invariant-dup::dup_whens-loop-when : goal.invariant-dup::dup_whens-loop-when
invariant-dup::dup_whens-loop-when l = whens_view l.fn.whens ≡ whens_view l.copies ++ whens_view (drop l.when-index l.when-items)
