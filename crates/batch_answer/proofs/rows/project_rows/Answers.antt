use Rattle.std.proofs.Common.{◌≡◌, ◌+◌, ◌≤◌, ◌^◌, ℕ, List, ◌∷◌, None, map, rules, sym, ap, subst, ◌∙◌}
use Rattle.std.specs.Prelude.{IsErrOf, option_map}
use Rattle.std.proofs.lemmas.Map.Iter.{rest_more, rest_all}
use Rattle.ct_value.specs.Bag.{bag_of_counts, copies}
use Rattle.ct_value.specs.Order.{row_cmp}
use Rattle.ct_value.specs.declared.row.Row.{Row}
use Rattle.ct_expr.specs.Eval.{eval}
use Rattle.ct_expr.specs.View.{exprs_view}
use Rattle.ct_expr.specs.declared.evaluate.EvalFault.{EvalFault}
use Rattle.rel_algebra.specs.Clauses.{row_of}
use Rattle.rel_algebra.specs.Sums.{one}
use Rattle.batch_answer.specs.Tallies.{AreCounted, OfRows}
use Rattle.batch_answer.proofs.Turns.{Left, projected, left-start, left-end, left-row, left-out, left-full}
use Rattle.batch_answer.proofs.rows.project_rows.Goals as goal

pub loop-row-init : goal.loop-row-init
loop-row-init c =
    let gives = c.into_iter-row-iterator.ensures.into_iter_gives.0 in (
      left-start (projected (map eval (exprs_view c.args.items.now))) c.args.rows c.new-made.result c.into_iter-row-iterator.result c.new-made.ensures (ap (λ (r : List (Row × ℕ)). bag_of_counts {R = row_cmp} r) gives ∙ c.into_counts-row-items.ensures.same),
      subst (λ (r : List (Row × ℕ)). AreCounted r) (sym gives) c.into_counts-row-items.ensures.counted.counted,
    )

pub returns-in_err-values-clause-out : goal.returns-in_err-values-clause-out
returns-in_err-values-clause-out c =
    let f : OfRows = projected (map eval (exprs_view c.args.items.now)) in
    let more = rest_more (λ (p : Row × ℕ). p) c.loop-row.row-iterator c.next.new.self c.next.result (c.in-Some.row, c.in-Some.count) c.in-Some.is c.next.ensures.steps in
    let before : Left f c.args.rows c.loop-row.made ((c.in-Some.row, c.in-Some.count) ∷ c.next.new.self) = subst (λ (r : List (Row × ℕ)). Left f c.args.rows c.loop-row.made r) more c.loop-row.invariant.0 in
    let counted : AreCounted ((c.in-Some.row, c.in-Some.count) ∷ c.next.new.self) = subst (λ (r : List (Row × ℕ)). AreCounted r) more c.loop-row.invariant.1 in
    let out : IsErrOf c.from_residual.result EvalFault.Out → row_of (map eval (exprs_view c.args.items.now)) c.in-Some.row ≡ None = search rules in
    λ e. left-out f c.args.rows c.loop-row.made c.in-Some.row c.in-Some.count c.next.new.self counted.0.0 (ap (option_map one) (out e)) before

pub loop-row-preserved : goal.loop-row-preserved
loop-row-preserved c =
    let f : OfRows = projected (map eval (exprs_view c.args.items.now)) in
    let more = rest_more (λ (p : Row × ℕ). p) c.loop-row.row-iterator c.next.new.self c.next.result (c.in-Some.row, c.in-Some.count) c.in-Some.is c.next.ensures.steps in
    let before : Left f c.args.rows c.loop-row.made ((c.in-Some.row, c.in-Some.count) ∷ c.next.new.self) = subst (λ (r : List (Row × ℕ)). Left f c.args.rows c.loop-row.made r) more c.loop-row.invariant.0 in
    let counted : AreCounted ((c.in-Some.row, c.in-Some.count) ∷ c.next.new.self) = subst (λ (r : List (Row × ℕ)). AreCounted r) more c.loop-row.invariant.1 in
    (left-row f c.args.rows c.loop-row.made c.in-Some.row c.in-Some.count c.next.new.self c.in_ok-values.values c.add.new.self (ap (option_map one) c.in_ok-values.ensures.value) c.in_ok-add.ensures.ok before, counted.1)

pub returns-in_err-add-clause-out : goal.returns-in_err-add-clause-out
returns-in_err-add-clause-out c =
    let f : OfRows = projected (map eval (exprs_view c.args.items.now)) in
    let more = rest_more (λ (p : Row × ℕ). p) c.loop-row.row-iterator c.next.new.self c.next.result (c.in-Some.row, c.in-Some.count) c.in-Some.is c.next.ensures.steps in
    let before : Left f c.args.rows c.loop-row.made ((c.in-Some.row, c.in-Some.count) ∷ c.next.new.self) = subst (λ (r : List (Row × ℕ)). Left f c.args.rows c.loop-row.made r) more c.loop-row.invariant.0 in
    let many : IsErrOf c.from_residual-in_err-add.result EvalFault.Out → 2 ^ 64 ≤ copies c.loop-row.made c.in_ok-values.values + c.in-Some.count = search rules in
    λ e. left-full f c.args.rows c.loop-row.made c.in-Some.row c.in-Some.count c.next.new.self c.in_ok-values.values (ap (option_map one) c.in_ok-values.ensures.value) (many e) before

pub add-requires : goal.add-requires
add-requires c =
    let more = rest_more (λ (p : Row × ℕ). p) c.loop-row.row-iterator c.next.new.self c.next.result (c.in-Some.row, c.in-Some.count) c.in-Some.is c.next.ensures.steps in
    let counted : AreCounted ((c.in-Some.row, c.in-Some.count) ∷ c.next.new.self) = subst (λ (r : List (Row × ℕ)). AreCounted r) more c.loop-row.invariant.1 in
    counted.0.0

pub returns-clause-value : goal.returns-clause-value
returns-clause-value c =
    left-end (projected (map eval (exprs_view c.args.items.now))) c.args.rows c.loop-row.made c.loop-row.row-iterator
    (rest_all (λ (p : Row × ℕ). p) c.loop-row.row-iterator c.next.new.self c.next.result c.in-None.is c.next.ensures.steps) c.loop-row.invariant.0
