use Rattle.ct_expr.specs.Eval.{eval}
use Rattle.ct_expr.specs.View.{expr_view}
use Rattle.rel_algebra.specs.Clauses.{holds}
use Rattle.batch_answer.specs.Tallies.{AreCounted}
use Rattle.batch_answer.proofs.Turns.{Left, tested}
use Rattle.batch_answer.proofs.rows.filter_rows.Given as goal

abbrev pub invariant-loop-row : goal.invariant-loop-row
invariant-loop-row l = Left (tested (holds (eval (expr_view l.cond)))) l.fn.rows l.kept l.row-iterator × AreCounted l.row-iterator
