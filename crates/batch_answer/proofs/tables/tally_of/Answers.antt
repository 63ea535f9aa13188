use Rattle.std.proofs.Common.{◌≡◌, ◌+◌, ◌≤◌, ◌^◌, ℕ, List, [], ◌∷◌, rules, sym, ap, subst, ◌∙◌}
use Rattle.std.specs.Prelude.{IsErrOf}
use Rattle.ct_value.specs.Bag.{bag_of_counts, copies, items}
use Rattle.ct_value.specs.Order.{row_cmp}
use Rattle.ct_value.specs.declared.row.Row.{Row}
use Rattle.ct_expr.specs.declared.evaluate.EvalFault.{EvalFault}
use Rattle.rel_algebra.specs.Sums.{together}
use Rattle.batch_answer.proofs.TalliedBags.{ArePositive, positive-runs, added-runs, added-turn, added-full, added-end}
use Rattle.batch_answer.proofs.tables.tally_of.Goals as goal

pub runs-init : goal.runs-init
runs-init g c = (
  ap (λ (es : List (Row × ℕ)). together c.new-tally.result (bag_of_counts {R = row_cmp} es)) c.rows-left.ensures ∙ added-runs c.args.rows.now c.new-tally.result c.new-tally.ensures,
  subst (λ (es : List (Row × ℕ)). ArePositive es) (sym c.rows-left.ensures) (positive-runs (items c.args.rows.now)),
)

pub add-requires : goal.add-requires
add-requires g c =
    let positive : ArePositive ((c.in-Some.row.now, c.in-Some.count) ∷ c.next_row.new.self) = subst (λ (es : List (Row × ℕ)). ArePositive es) c.in-Some.ensures.row c.runs.invariant.1 in
    positive.0

pub runs-preserved : goal.runs-preserved
runs-preserved g c =
    let positive : ArePositive ((c.in-Some.row.now, c.in-Some.count) ∷ c.next_row.new.self) = subst (λ (es : List (Row × ℕ)). ArePositive es) c.in-Some.ensures.row c.runs.invariant.1 in
    let before : together c.runs.tally (bag_of_counts {R = row_cmp} ((c.in-Some.row.now, c.in-Some.count) ∷ c.next_row.new.self)) ≡ c.args.rows.now = ap (λ (es : List (Row × ℕ)). together c.runs.tally (bag_of_counts {R = row_cmp} es)) (sym c.in-Some.ensures.row) ∙ c.runs.invariant.0 in
    let here : (c.in_ok-copy.copy, c.in-Some.count) ∷ c.next_row.new.self ≡ (c.in-Some.row.now, c.in-Some.count) ∷ c.next_row.new.self = ap (λ (r : Row). (r, c.in-Some.count) ∷ c.next_row.new.self) c.in_ok-copy.ensures in
    let same : together c.runs.tally (bag_of_counts {R = row_cmp} ((c.in_ok-copy.copy, c.in-Some.count) ∷ c.next_row.new.self)) ≡ c.args.rows.now = ap (λ (es : List (Row × ℕ)). together c.runs.tally (bag_of_counts {R = row_cmp} es)) here ∙ before in
    (added-turn c.args.rows.now c.runs.tally c.in_ok-copy.copy c.in-Some.count c.next_row.new.self same c.add.new.self c.in_ok-add.ensures.ok, positive.1)

pub returns-in_err-add-clause-out : goal.returns-in_err-add-clause-out
returns-in_err-add-clause-out g c =
    let before : together c.runs.tally (bag_of_counts {R = row_cmp} ((c.in-Some.row.now, c.in-Some.count) ∷ c.next_row.new.self)) ≡ c.args.rows.now = ap (λ (es : List (Row × ℕ)). together c.runs.tally (bag_of_counts {R = row_cmp} es)) (sym c.in-Some.ensures.row) ∙ c.runs.invariant.0 in
    let here : (c.in_ok-copy.copy, c.in-Some.count) ∷ c.next_row.new.self ≡ (c.in-Some.row.now, c.in-Some.count) ∷ c.next_row.new.self = ap (λ (r : Row). (r, c.in-Some.count) ∷ c.next_row.new.self) c.in_ok-copy.ensures in
    let same : together c.runs.tally (bag_of_counts {R = row_cmp} ((c.in_ok-copy.copy, c.in-Some.count) ∷ c.next_row.new.self)) ≡ c.args.rows.now = ap (λ (es : List (Row × ℕ)). together c.runs.tally (bag_of_counts {R = row_cmp} es)) here ∙ before in
    let many : IsErrOf c.from_residual-in_err-add.result EvalFault.Out → 2 ^ 64 ≤ copies c.runs.tally c.in_ok-copy.copy + c.in-Some.count = search rules in
    λ e. added-full c.args.rows.now c.runs.tally c.in_ok-copy.copy c.in-Some.count c.next_row.new.self same (many e)

pub returns-clause-value : goal.returns-clause-value
returns-clause-value g c =
    let ended : c.runs.left ≡ [] = search rules in
    added-end c.args.rows.now c.runs.tally c.runs.left ended c.runs.invariant.0
