use Rattle.std.proofs.Common.{◌≡◌, ◌+◌, ◌≤◌, ◌^◌, ℕ, List, ◌∷◌, None, Option, Bool, true, rules, sym, ap, subst, ◌∙◌}
use Rattle.std.specs.Prelude.{IsErrOf}
use Rattle.std.proofs.lemmas.Map.Iter.{rest_more, rest_all}
use Rattle.ct_value.specs.Bag.{bag_of_counts, copies}
use Rattle.ct_value.specs.Order.{row_cmp}
use Rattle.ct_value.specs.declared.row.Row.{Row}
use Rattle.ct_expr.specs.Eval.{eval}
use Rattle.ct_expr.specs.View.{expr_view}
use Rattle.ct_expr.specs.declared.evaluate.EvalFault.{EvalFault}
use Rattle.rel_algebra.specs.Clauses.{holds}
use Rattle.batch_answer.specs.Tallies.{AreCounted}
use Rattle.batch_answer.proofs.Turns.{Left, tested, left-start, left-end, tested-turn, tested-out, tested-full}
use Rattle.batch_answer.proofs.rows.filter_rows.Goals as goal

pub loop-row-init : goal.loop-row-init
loop-row-init c =
    let gives = c.into_iter-row-iterator.ensures.into_iter_gives.0 in (
      left-start (tested (holds (eval (expr_view c.args.cond.now)))) c.args.rows c.new-kept.result c.into_iter-row-iterator.result c.new-kept.ensures (ap (λ (r : List (Row × ℕ)). bag_of_counts {R = row_cmp} r) gives ∙ c.into_counts-row-items.ensures.same),
      subst (λ (r : List (Row × ℕ)). AreCounted r) (sym gives) c.into_counts-row-items.ensures.counted.counted,
    )

pub returns-in_err-passes-clause-out : goal.returns-in_err-passes-clause-out
returns-in_err-passes-clause-out c =
    let test : Row → Option Bool = holds (eval (expr_view c.args.cond.now)) in
    let more = rest_more (λ (p : Row × ℕ). p) c.loop-row.row-iterator c.next.new.self c.next.result (c.in-Some.row, c.in-Some.count) c.in-Some.is c.next.ensures.steps in
    let before : Left (tested test) c.args.rows c.loop-row.kept ((c.in-Some.row, c.in-Some.count) ∷ c.next.new.self) = subst (λ (r : List (Row × ℕ)). Left (tested test) c.args.rows c.loop-row.kept r) more c.loop-row.invariant.0 in
    let counted : AreCounted ((c.in-Some.row, c.in-Some.count) ∷ c.next.new.self) = subst (λ (r : List (Row × ℕ)). AreCounted r) more c.loop-row.invariant.1 in
    let out : IsErrOf c.from_residual.result EvalFault.Out → test c.in-Some.row ≡ None = search rules in
    λ e. tested-out test c.args.rows c.loop-row.kept c.in-Some.row c.in-Some.count c.next.new.self counted.0.0 (out e) before

pub loop-row-preserved : goal.loop-row-preserved
loop-row-preserved c =
    let test : Row → Option Bool = holds (eval (expr_view c.args.cond.now)) in
    let more = rest_more (λ (p : Row × ℕ). p) c.loop-row.row-iterator c.next.new.self c.next.result (c.in-Some.row, c.in-Some.count) c.in-Some.is c.next.ensures.steps in
    let before : Left (tested test) c.args.rows c.loop-row.kept ((c.in-Some.row, c.in-Some.count) ∷ c.next.new.self) = subst (λ (r : List (Row × ℕ)). Left (tested test) c.args.rows c.loop-row.kept r) more c.loop-row.invariant.0 in
    let counted : AreCounted ((c.in-Some.row, c.in-Some.count) ∷ c.next.new.self) = subst (λ (r : List (Row × ℕ)). AreCounted r) more c.loop-row.invariant.1 in
    (tested-turn test c.args.rows c.loop-row.kept c.in-Some.row c.in-Some.count c.next.new.self c.in_ok-passes.passes c.add_if.new.rows c.in_ok-passes.ensures.value c.in_ok-add_if.ensures.ok before, counted.1)

pub returns-in_err-add_if-clause-out : goal.returns-in_err-add_if-clause-out
returns-in_err-add_if-clause-out c =
    let test : Row → Option Bool = holds (eval (expr_view c.args.cond.now)) in
    let more = rest_more (λ (p : Row × ℕ). p) c.loop-row.row-iterator c.next.new.self c.next.result (c.in-Some.row, c.in-Some.count) c.in-Some.is c.next.ensures.steps in
    let before : Left (tested test) c.args.rows c.loop-row.kept ((c.in-Some.row, c.in-Some.count) ∷ c.next.new.self) = subst (λ (r : List (Row × ℕ)). Left (tested test) c.args.rows c.loop-row.kept r) more c.loop-row.invariant.0 in
    let is_kept : IsErrOf c.from_residual-in_err-add_if.result EvalFault.Out → c.in_ok-passes.passes ≡ true = search rules in
    let many : IsErrOf c.from_residual-in_err-add_if.result EvalFault.Out → 2 ^ 64 ≤ copies c.loop-row.kept c.in-Some.row + c.in-Some.count = search rules in
    λ e. tested-full test c.args.rows c.loop-row.kept c.in-Some.row c.in-Some.count c.next.new.self c.in_ok-passes.passes (is_kept e) c.in_ok-passes.ensures.value (many e) before

pub returns-clause-value : goal.returns-clause-value
returns-clause-value c =
    left-end (tested (holds (eval (expr_view c.args.cond.now)))) c.args.rows c.loop-row.kept c.loop-row.row-iterator
    (rest_all (λ (p : Row × ℕ). p) c.loop-row.row-iterator c.next.new.self c.next.result c.in-None.is c.next.ensures.steps) c.loop-row.invariant.0
