use Rattle.std.proofs.Common.{◌≡◌, ◌+◌, ◌≤◌, ◌^◌, ℕ, List, [], Some, None, Option, rules, arith, sym, ap, ◌∙◌}
use Rattle.std.specs.Prelude.{IsErrOf, option_map}
use Rattle.ct_value.specs.Bag.{bag_of_counts, add_many, copies}
use Rattle.ct_value.proofs.laws.Bags.{copies-none}
use Rattle.ct_value.specs.Order.{row_cmp, row_total}
use Rattle.ct_value.specs.declared.row.Row.{Row}
use Rattle.ct_change.specs.Changelog.{Rows}
use Rattle.ct_expr.specs.declared.evaluate.EvalFault.{EvalFault}
use Rattle.rel_algebra.specs.Aggregates.{agg_results}
use Rattle.rel_algebra.specs.Sums.{one}
use Rattle.batch_answer.proofs.ByKey.{all-found}
use Rattle.batch_answer.proofs.Found.{found_by}
use Rattle.batch_answer.proofs.Sums.{unfit-none}
use Rattle.batch_answer.proofs.groups.one_group.Goals as goal

pub returns-in_err-results-clause-out : goal.returns-in_err-results-clause-out
returns-in_err-results-clause-out c =
    let results : Rows → Option Row = agg_results c.args.columns.now c.args.aggs.now in
    let no_key : c.from_values-key.result ≡ [] = search rules in
    let whole : bag_of_counts {R = row_cmp} c.candidates.result.now ≡ c.args.rows = ap (λ (es : List (Row × ℕ)). bag_of_counts {R = row_cmp} es) (c.candidates.ensures.found ∙ ap (found_by c.in_ok-index.index) no_key) ∙ all-found c.args.rows c.in_ok-index.index c.in_ok-index.ensures in
    let out : IsErrOf c.from_residual-in_err-results.result EvalFault.Out → results (bag_of_counts {R = row_cmp} c.candidates.result.now) ≡ None = search rules in
    λ e. unfit-none _ (ap (option_map one) (ap results (sym whole) ∙ out e))

pub returns-in_err-add-clause-out : goal.returns-in_err-add-clause-out
returns-in_err-add-clause-out c =
    let many : IsErrOf c.from_residual-in_err-add.result EvalFault.Out → 2 ^ 64 ≤ copies c.new-made.result c.in_ok-results.results + 1 = search rules in
    let nothing : copies c.new-made.result c.in_ok-results.results ≡ 0 = ap (λ (r : Rows). copies r c.in_ok-results.results) c.new-made.ensures ∙ copies-none row_total c.in_ok-results.results in
    λ e. absurd (let h = many e in omega (arith, h, nothing))

pub returns-clause-value : goal.returns-clause-value
returns-clause-value c =
    let results : Rows → Option Row = agg_results c.args.columns.now c.args.aggs.now in
    let no_key : c.from_values-key.result ≡ [] = search rules in
    let whole : bag_of_counts {R = row_cmp} c.candidates.result.now ≡ c.args.rows = ap (λ (es : List (Row × ℕ)). bag_of_counts {R = row_cmp} es) (c.candidates.ensures.found ∙ ap (found_by c.in_ok-index.index) no_key) ∙ all-found c.args.rows c.in_ok-index.index c.in_ok-index.ensures in
    ap (option_map one) (ap results (sym whole) ∙ c.in_ok-results.ensures.value)
    ∙ ap Some (sym (c.in_ok-add.ensures.ok ∙ ap (λ (r : Rows). add_many r c.in_ok-results.results 1) c.new-made.ensures))
