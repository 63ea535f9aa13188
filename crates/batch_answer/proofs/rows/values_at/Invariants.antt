use Rattle.std.proofs.Common.{◌≡◌, drop, map}
use Rattle.ct_expr.specs.Eval.{eval}
use Rattle.ct_expr.specs.View.{exprs_view}
use Rattle.rel_algebra.specs.Clauses.{row_of}
use Rattle.batch_answer.proofs.Lists.{row_from}
use Rattle.batch_answer.proofs.rows.values_at.Given as goal

abbrev pub invariant-loop-item : goal.invariant-loop-item
invariant-loop-item l = row_from (drop l.item-index l.item-items) l.row l.values ≡ row_of (map eval (exprs_view l.items)) l.row
