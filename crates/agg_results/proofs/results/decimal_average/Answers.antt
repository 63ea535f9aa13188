use Rattle.std.proofs.Common.{◌≡◌, ◌-◌, Some, None, cond, to_z, of_z, rules, arith, ap, ◌∙◌}
use Rattle.std.specs.Prelude.{option_map}
use Rattle.std.specs.Int.{w128}
use Rattle.std.proofs.lemmas.Int.{ints}
use Rattle.ct_value.specs.declared.value.Value.TheVariants.{Num}
use Rattle.ct_field.specs.Numbers.{has_38_digits, raised}
use Rattle.rel_algebra.specs.Aggregates.{rounded, avg_scale}
use Rattle.agg_results.proofs.Averages.{within_cond}
use Rattle.agg_results.proofs.results.decimal_average.Goals as goal

pub returns : goal.returns
returns c = λ digits sum e.
    let same : c.in_ok-sum.sum ≡ sum = omega (arith, ints, c.in_ok-sum.ensures.within, e) in
    let passed : to_z w128 (of_z w128 c.in_ok-sum.sum) ≡ c.in_ok-sum.sum = search rules in
    let back : to_z w128 (of_z w128 c.rounded.result) ≡ c.rounded.result = search rules in
    let handed : to_z w128 (of_z w128 c.in_ok-raised.raised) ≡ c.in_ok-raised.raised = search rules in
    let known = c.args.totals.known in
    ap (λ k. Some (Num k)) (back ∙ c.rounded.ensures)
    ∙ ap (λ k. Some (Num (rounded k known))) handed
    ∙ ap (option_map (λ k. Num (rounded k known))) (c.in_ok-raised.ensures.value ∙ ap (λ s. cond (has_38_digits s) (raised s (avg_scale c.args.scale - c.args.scale)) None) (passed ∙ same))
    ∙ within_cond (λ k. Num (rounded k known)) (has_38_digits sum) (raised sum (avg_scale c.args.scale - c.args.scale))
