use Rattle.std.proofs.Common.{◌≡◌, ◌+◌, ◌*◌, ◌≤◌, ℕ, pos, to_z, arith, sym, ap, ◌∙◌}
use Rattle.std.specs.Int.{w128}
use Rattle.std.proofs.lemmas.Int.{ints}
use Rattle.rel_algebra.specs.Aggregates.{truncated}
use Rattle.agg_results.specs.Wide.{wide_number}
use Rattle.agg_results.proofs.Averages.{quotient_most, positive-truncated}
use Rattle.agg_results.proofs.results.whole_average.Goals as goal

pub returns-else-is_below : goal.returns-else-is_below
returns-else-is_below c = λ sum e.
    let m : ℕ = wide_number c.minus-magnitude-else-is_below.result in
    let parts : m + wide_number c.args.totals.below ≡ wide_number c.args.totals.above = c.minus-magnitude-else-is_below.ensures in
    let same : sum ≡ pos m = omega (arith, ints, parts, e) in
    let most : m ≤ 170141183460469231731687303715884105727 * c.args.totals.known = omega (arith, parts, c.requires.above_most) in
    let bound : c.quotient-else-is_below.result ≤ 170141183460469231731687303715884105727 = omega (arith, c.quotient-else-is_below.ensures, quotient_most m c.args.totals.known 170141183460469231731687303715884105727 most) in
    let kept : to_z w128 c.quotient-else-is_below.result ≡ pos c.quotient-else-is_below.result = omega (arith, ints, bound) in
    kept ∙ ap pos c.quotient-else-is_below.ensures ∙ sym (positive-truncated m c.args.totals.known) ∙ ap (λ s. truncated s c.args.totals.known) (sym same)
