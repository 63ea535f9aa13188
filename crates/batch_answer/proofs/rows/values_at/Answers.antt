use Rattle.std.proofs.Common.{◌≡◌, ◌+◌, List, ◌∷◌, drop, Some, None, rules, sym, ap, ◌∙◌}
use Rattle.std.specs.Prelude.{IsErrOf}
use Rattle.ct_expr.specs.declared.expr.Expr.{Expr}
use Rattle.ct_expr.specs.Eval.{eval}
use Rattle.ct_expr.specs.View.{expr_view}
use Rattle.ct_expr.specs.declared.evaluate.EvalFault.{EvalFault}
use Rattle.batch_answer.proofs.Lists.{row_from, row_from-start, row_from-more, row_from-out, row_from-end, drop_more, drop_end}
use Rattle.batch_answer.proofs.rows.values_at.Goals as goal

pub returns-in_err-eval-clause-out : goal.returns-in_err-eval-clause-out
returns-in_err-eval-clause-out c =
    let items : List Expr = c.as_slice-item-items.result.now in
    let more : drop c.loop-item.item-index items ≡ c.item-item.result ∷ drop (c.loop-item.item-index + 1) items = drop_more items c.loop-item.item-index c.item-item.result c.loop-item-test.true c.item-item.is in
    let out : IsErrOf c.from_residual-in_err-eval.result EvalFault.Out → eval (expr_view c.item-item.result) c.args.row.now ≡ None = search rules in
    λ e. sym c.loop-item.invariant ∙ ap (λ xs. row_from xs c.args.row.now c.loop-item.values) more
    ∙ row_from-out c.item-item.result (drop (c.loop-item.item-index + 1) items) c.args.row.now c.loop-item.values (out e)

pub loop-item-init : goal.loop-item-init
loop-item-init c =
    ap (λ xs. row_from xs c.args.row.now c.in_ok-values.values) c.as_slice-item-items.ensures
    ∙ row_from-start c.args.items.now c.args.row.now c.in_ok-values.values c.in_ok-values.ensures

pub loop-item-preserved : goal.loop-item-preserved
loop-item-preserved c =
    let items : List Expr = c.as_slice-item-items.result.now in
    let more : drop c.loop-item.item-index items ≡ c.item-item.result ∷ drop (c.loop-item.item-index + 1) items = drop_more items c.loop-item.item-index c.item-item.result c.loop-item-test.true c.item-item.is in
    sym (row_from-more c.item-item.result (drop (c.loop-item.item-index + 1) items) c.args.row.now c.loop-item.values c.push.new.self c.in_ok-eval.field-0 c.in_ok-eval.ensures.value c.in_ok-push.ensures.ok)
    ∙ ap (λ xs. row_from xs c.args.row.now c.loop-item.values) (sym more) ∙ c.loop-item.invariant

pub returns-clause-value : goal.returns-clause-value
returns-clause-value c =
    sym c.loop-item.invariant
    ∙ row_from-end (drop c.loop-item.item-index c.as_slice-item-items.result.now) c.args.row.now c.loop-item.values (drop_end c.as_slice-item-items.result.now c.loop-item.item-index c.loop-item-test.false)
    ∙ ap Some (sym c.from_values.ensures)
