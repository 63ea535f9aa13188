use Rattle.std.proofs.Common.{◌≡◌, ◌+◌, ℕ, List, ◌∷◌, drop, Some, rules, sym, ap, ◌∙◌}
use Rattle.std.specs.Prelude.{IsErrOf}
use Rattle.ct_change.specs.Counts.{each_copy, repeated}
use Rattle.ct_value.specs.declared.row.Row.{Row}
use Rattle.ct_expr.specs.declared.evaluate.EvalFault.{EvalFault}
use Rattle.rel_algebra.specs.Sums.{together}
use Rattle.batch_answer.specs.Ranking.{tail}
use Rattle.batch_answer.specs.Tallies.{Unfit}
use Rattle.batch_answer.proofs.Lists.{drop_more, drop_end}
use Rattle.batch_answer.proofs.Sums.{unfit-same}
use Rattle.batch_answer.proofs.Ranking.{first-tail, nothing-beside}
use Rattle.batch_answer.proofs.ranks.add_first.Goals as goal

pub loop-row-init : goal.loop-row-init
loop-row-init c =
    ap (λ (es : List (Row × ℕ)). together c.args.first.now (tail c.args.bound c.args.ranked 0 (each_copy es))) c.deref-row-items.ensures.value
    ∙ ap (together c.args.first.now) (sym (first-tail c.args.order.now c.args.bound c.args.ranked c.args.members c.sorted_rows-members.result.items c.sorted_rows-members.ensures.permutation c.sorted_rows-members.ensures.sorted))

pub loop-row-preserved : goal.loop-row-preserved
loop-row-preserved c =
    let x : Row × ℕ = c.loop-row-item.result in
    let rest : List (Row × ℕ) = drop (c.loop-row.row-index + 1) c.deref-row-items.result.now in
    let more : drop c.loop-row.row-index c.deref-row-items.result.now ≡ x ∷ rest = drop_more c.deref-row-items.result.now c.loop-row.row-index x c.loop-row-test.true c.loop-row-item.is in
    c.in_ok-taken.ensures.ok (each_copy rest)
    ∙ ap (λ (es : List (Row × ℕ)). together c.loop-row.first (tail c.args.bound c.args.ranked c.loop-row.taken (each_copy es))) (sym more)
    ∙ c.loop-row.invariant

pub returns-in_err-taken-clause-out : goal.returns-in_err-taken-clause-out
returns-in_err-taken-clause-out c =
    let x : Row × ℕ = c.loop-row-item.result in
    let rest : List (Row × ℕ) = drop (c.loop-row.row-index + 1) c.deref-row-items.result.now in
    let more : drop c.loop-row.row-index c.deref-row-items.result.now ≡ x ∷ rest = drop_more c.deref-row-items.result.now c.loop-row.row-index x c.loop-row-test.true c.loop-row-item.is in
    let out : IsErrOf c.from_residual.result EvalFault.Out → (others : List Row) → Unfit (Some (together c.loop-row.first (tail c.args.bound c.args.ranked c.loop-row.taken (repeated x.0 x.1 others)))) = search rules in
    λ e. unfit-same (Some (together c.loop-row.first (tail c.args.bound c.args.ranked c.loop-row.taken (repeated x.0 x.1 (each_copy rest))))) _
    (ap Some (ap (λ (es : List (Row × ℕ)). together c.loop-row.first (tail c.args.bound c.args.ranked c.loop-row.taken (each_copy es))) (sym more) ∙ c.loop-row.invariant))
    (out e (each_copy rest))

pub returns-clause-ok : goal.returns-clause-ok
returns-clause-ok c =
    sym (nothing-beside c.loop-row.first (drop c.loop-row.row-index c.deref-row-items.result.now) c.args.bound c.args.ranked c.loop-row.taken (drop_end c.deref-row-items.result.now c.loop-row.row-index c.loop-row-test.false))
    ∙ c.loop-row.invariant
