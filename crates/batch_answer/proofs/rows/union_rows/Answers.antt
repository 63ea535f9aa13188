use Rattle.std.proofs.Common.{◌≡◌, ◌+◌, ◌≤◌, ◌^◌, ℕ, List, ◌∷◌, rules, sym, ap, subst, ◌∙◌}
use Rattle.std.specs.Prelude.{IsErrOf}
use Rattle.std.proofs.lemmas.Map.Iter.{rest_more, rest_all}
use Rattle.ct_value.specs.Bag.{bag_of_counts, copies}
use Rattle.ct_value.specs.Order.{row_cmp}
use Rattle.ct_value.specs.declared.row.Row.{Row}
use Rattle.ct_expr.specs.declared.evaluate.EvalFault.{EvalFault}
use Rattle.rel_algebra.specs.Sums.{together}
use Rattle.batch_answer.specs.Tallies.{AreCounted}
use Rattle.batch_answer.proofs.Turns.{union-turn, union-full, union-end}
use Rattle.batch_answer.proofs.rows.union_rows.Goals as goal

pub loop-row-preserved : goal.loop-row-preserved
loop-row-preserved c =
    let more = rest_more (λ (p : Row × ℕ). p) c.loop-row.row-iterator c.next.new.self c.next.result (c.in-Some.row, c.in-Some.count) c.in-Some.is c.next.ensures.steps in
    let before : together c.loop-row.all (bag_of_counts {R = row_cmp} ((c.in-Some.row, c.in-Some.count) ∷ c.next.new.self)) ≡ together c.args.rows c.args.others = ap (λ (r : List (Row × ℕ)). together c.loop-row.all (bag_of_counts {R = row_cmp} r)) (sym more) ∙ c.loop-row.invariant.0 in
    let counted : AreCounted ((c.in-Some.row, c.in-Some.count) ∷ c.next.new.self) = subst (λ (r : List (Row × ℕ)). AreCounted r) more c.loop-row.invariant.1 in
    (union-turn c.loop-row.all (together c.args.rows c.args.others) c.add.new.self c.in-Some.row c.in-Some.count c.next.new.self c.in_ok-add.ensures.ok before, counted.1)

pub returns-in_err-add-clause-out : goal.returns-in_err-add-clause-out
returns-in_err-add-clause-out c =
    let more = rest_more (λ (p : Row × ℕ). p) c.loop-row.row-iterator c.next.new.self c.next.result (c.in-Some.row, c.in-Some.count) c.in-Some.is c.next.ensures.steps in
    let before : together c.loop-row.all (bag_of_counts {R = row_cmp} ((c.in-Some.row, c.in-Some.count) ∷ c.next.new.self)) ≡ together c.args.rows c.args.others = ap (λ (r : List (Row × ℕ)). together c.loop-row.all (bag_of_counts {R = row_cmp} r)) (sym more) ∙ c.loop-row.invariant.0 in
    let many : IsErrOf c.from_residual.result EvalFault.Out → 2 ^ 64 ≤ copies c.loop-row.all c.in-Some.row + c.in-Some.count = search rules in
    λ e. union-full c.loop-row.all (together c.args.rows c.args.others) c.in-Some.row c.in-Some.count c.next.new.self (many e) before

pub returns-clause-value : goal.returns-clause-value
returns-clause-value c =
    sym c.loop-row.invariant.0
    ∙ union-end c.loop-row.all c.loop-row.row-iterator (rest_all (λ (p : Row × ℕ). p) c.loop-row.row-iterator c.next.new.self c.next.result c.in-None.is c.next.ensures.steps)
