use Rattle.std.proofs.Common.{◌≡◌, ◌+◌, ◌-◌, ◌≤◌, ◌^◌, suc, Some, rules, arith, ap, ◌∙◌}
use Rattle.std.specs.Prelude.{IsErrOf}
use Rattle.ct_change.specs.Counts.{repeated}
use Rattle.ct_value.specs.Bag.{copies}
use Rattle.ct_expr.specs.declared.evaluate.EvalFault.{EvalFault}
use Rattle.rel_algebra.specs.Sums.{together}
use Rattle.batch_answer.specs.Ranking.{tail}
use Rattle.batch_answer.proofs.Sums.{unfit-same}
use Rattle.batch_answer.proofs.Ranking.{taken-more, taken-full}
use Rattle.batch_answer.proofs.ranks.add_copies.Goals as goal

pub copies-preserved : goal.copies-preserved
copies-preserved c = λ rest.
    let more : suc (c.copies.left - 1) ≡ c.copies.left = omega (arith, c.copies-test.true) in
    taken-more c.args.bound c.args.ranked c.copies.first c.add.new.self c.copies.taken (c.copies.left - 1) c.args.row.now c.in_ok-line.line rest c.if-taken-bound.true c.in_ok-line.ensures c.in_ok-add.ensures.ok
    ∙ ap (λ n. together c.copies.first (tail c.args.bound c.args.ranked c.copies.taken (repeated c.args.row.now n rest))) more
    ∙ c.copies.invariant rest

pub returns-in_err-add-clause-out : goal.returns-in_err-add-clause-out
returns-in_err-add-clause-out c =
    let more : suc (c.copies.left - 1) ≡ c.copies.left = omega (arith, c.copies-test.true) in
    let many : IsErrOf c.from_residual-in_err-add.result EvalFault.Out → 2 ^ 64 ≤ copies c.copies.first c.in_ok-line.line + 1 = search rules in
    λ e rest. unfit-same (Some (together c.copies.first (tail c.args.bound c.args.ranked c.copies.taken (repeated c.args.row.now (suc (c.copies.left - 1)) rest)))) _
    (ap Some (ap (λ n. together c.copies.first (tail c.args.bound c.args.ranked c.copies.taken (repeated c.args.row.now n rest))) more ∙ c.copies.invariant rest))
    (taken-full c.args.bound c.args.ranked c.copies.first c.copies.taken (c.copies.left - 1) c.args.row.now c.in_ok-line.line rest c.if-taken-bound.true c.in_ok-line.ensures (many e))
