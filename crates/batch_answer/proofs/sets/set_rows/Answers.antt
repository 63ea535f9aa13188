use Rattle.std.proofs.Common.{◌≡◌, ◌+◌, ◌≤◌, ◌^◌, ℕ, List, ◌∷◌, rules, sym, ap, subst, ◌∙◌}
use Rattle.std.specs.Prelude.{IsErrOf}
use Rattle.std.proofs.lemmas.Map.Iter.{rest_more, rest_all}
use Rattle.ct_value.specs.Bag.{add_many, bag_of_counts, copies}
use Rattle.ct_value.specs.Order.{row_cmp}
use Rattle.ct_value.specs.declared.row.Row.{Row}
use Rattle.ct_change.specs.Changelog.{Rows}
use Rattle.ct_expr.specs.declared.evaluate.EvalFault.{EvalFault}
use Rattle.rel_algebra.specs.Sets.{set_copies, set_form, set_rows}
use Rattle.rel_algebra.specs.Sums.{together}
use Rattle.batch_answer.proofs.SetRows.{kept_of, kept_counts, kept-start}
use Rattle.batch_answer.proofs.Turns.{union-turn, union-full, union-end}
use Rattle.batch_answer.proofs.sets.set_rows.Goals as goal

pub loop-row-init : goal.loop-row-init
loop-row-init c =
    kept-start c.args.except c.args.all c.args.right.now c.args.left c.new-made.result c.into_counts-row-items.result c.into_iter-row-iterator.result c.new-made.ensures c.into_counts-row-items.ensures.counted.ordered
    c.into_iter-row-iterator.ensures.into_iter_gives.0 c.into_counts-row-items.ensures.same

pub loop-row-preserved : goal.loop-row-preserved
loop-row-preserved c =
    let right : Rows = c.args.right.now in
    let whole : Rows = set_rows (set_form c.args.except c.args.all) c.args.left right in
    let more = rest_more (λ (p : Row × ℕ). p) c.loop-row.row-iterator c.next.new.self c.next.result (c.in-Some.row, c.in-Some.count) c.in-Some.is c.next.ensures.steps in
    let before : together c.loop-row.made (bag_of_counts {R = row_cmp} (kept_counts c.args.except c.args.all right ((c.in-Some.row, c.in-Some.count) ∷ c.next.new.self))) ≡ whole =
    ap (λ (r : List (Row × ℕ)). together c.loop-row.made (bag_of_counts {R = row_cmp} (kept_counts c.args.except c.args.all right r))) (sym more) ∙ c.loop-row.invariant in
    let kept : c.set_copies-kept.result ≡ kept_of c.args.except c.args.all right c.in-Some.row c.in-Some.count = c.set_copies-kept.ensures ∙ ap (set_copies (set_form c.args.except c.args.all) c.in-Some.count) c.count.ensures in
    union-turn c.loop-row.made whole c.add_some.new.rows c.in-Some.row (kept_of c.args.except c.args.all right c.in-Some.row c.in-Some.count) (kept_counts c.args.except c.args.all right c.next.new.self)
    (c.in_ok-add_some.ensures.ok ∙ ap (add_many c.loop-row.made c.in-Some.row) kept) before

pub returns-in_err-add_some-clause-out : goal.returns-in_err-add_some-clause-out
returns-in_err-add_some-clause-out c =
    let right : Rows = c.args.right.now in
    let whole : Rows = set_rows (set_form c.args.except c.args.all) c.args.left right in
    let more = rest_more (λ (p : Row × ℕ). p) c.loop-row.row-iterator c.next.new.self c.next.result (c.in-Some.row, c.in-Some.count) c.in-Some.is c.next.ensures.steps in
    let before : together c.loop-row.made (bag_of_counts {R = row_cmp} (kept_counts c.args.except c.args.all right ((c.in-Some.row, c.in-Some.count) ∷ c.next.new.self))) ≡ whole =
    ap (λ (r : List (Row × ℕ)). together c.loop-row.made (bag_of_counts {R = row_cmp} (kept_counts c.args.except c.args.all right r))) (sym more) ∙ c.loop-row.invariant in
    let kept : c.set_copies-kept.result ≡ kept_of c.args.except c.args.all right c.in-Some.row c.in-Some.count = c.set_copies-kept.ensures ∙ ap (set_copies (set_form c.args.except c.args.all) c.in-Some.count) c.count.ensures in
    let many : IsErrOf c.from_residual.result EvalFault.Out → 2 ^ 64 ≤ copies c.loop-row.made c.in-Some.row + c.set_copies-kept.result = search rules in
    λ e. union-full c.loop-row.made whole c.in-Some.row (kept_of c.args.except c.args.all right c.in-Some.row c.in-Some.count) (kept_counts c.args.except c.args.all right c.next.new.self)
    (subst (λ k. 2 ^ 64 ≤ copies c.loop-row.made c.in-Some.row + k) kept (many e)) before

pub returns-clause-value : goal.returns-clause-value
returns-clause-value c =
    sym c.loop-row.invariant
    ∙ union-end c.loop-row.made (kept_counts c.args.except c.args.all c.args.right.now c.loop-row.row-iterator)
    (ap (kept_counts c.args.except c.args.all c.args.right.now) (rest_all (λ (p : Row × ℕ). p) c.loop-row.row-iterator c.next.new.self c.next.result c.in-None.is c.next.ensures.steps))
