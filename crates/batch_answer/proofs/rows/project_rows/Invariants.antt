use Rattle.std.proofs.Common.{map}
use Rattle.ct_expr.specs.Eval.{eval}
use Rattle.ct_expr.specs.View.{exprs_view}
use Rattle.batch_answer.specs.Tallies.{AreCounted}
use Rattle.batch_answer.proofs.Turns.{Left, projected}
use Rattle.batch_answer.proofs.rows.project_rows.Given as goal

abbrev pub invariant-loop-row : goal.invariant-loop-row
invariant-loop-row l = Left (projected (map eval (exprs_view l.items))) l.fn.rows l.made l.row-iterator × AreCounted l.row-iterator
