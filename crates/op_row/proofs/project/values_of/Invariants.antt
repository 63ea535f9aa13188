use Rattle.std.proofs.Common.{◌≡◌, drop, map}
use Rattle.ct_expr.specs.Eval.{eval}
use Rattle.ct_expr.specs.View.{exprs_view}
use Rattle.rel_algebra.specs.Clauses.{row_of}
use Rattle.op_row.proofs.Values.{row_from}
use Rattle.op_row.proofs.project.values_of.Given as goal

abbrev pub invariant-loop-item : goal.invariant-loop-item
invariant-loop-item l = row_of (map eval (exprs_view l.fn.items)) l.row ≡ row_from l.values l.row (drop l.item-index l.item-items)
