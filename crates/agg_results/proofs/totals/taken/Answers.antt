use Rattle.std.proofs.Common.{◌≡◌, true, Some, rules, ap, ◌∙◌}
use Rattle.rel_algebra.specs.Aggregates.{passes}
use Rattle.agg_results.specs.Taken.{unless_null}
use Rattle.agg_results.proofs.Weights.{known_got, taken_known}
use Rattle.agg_results.proofs.totals.taken.Goals as goal

pub returns : goal.returns
returns c =
    let column : c.args.agg.now.arg ≡ Some c.in_ok-agg.field-0 = search rules in
    let counts : passes c.args.agg.now.filter c.args.row.now ≡ true = search rules in
    c.known.ensures ∙ ap unless_null c.get.ensures ∙ known_got c.args.row.now c.in_ok-agg.field-0 ∙ taken_known c.args.agg.now c.args.row.now c.in_ok-agg.field-0 column counts
