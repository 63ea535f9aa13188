use Rattle.std.proofs.Common.{◌≡◌, false, cond, Some, rules, sym, ap, ◌∙◌}
use Rattle.std.specs.Prelude.{◌==◌}
use Rattle.ct_value.specs.declared.value.Value.TheVariants.{Null}
use Rattle.rel_algebra.specs.Aggregates.{average}
use Rattle.agg_results.proofs.results.average_value.Goals as goal

pub returns-in-Decimal : goal.returns-in-Decimal
returns-in-Decimal c = λ sum e.
    let some : (c.args.totals.known == 0) ≡ false = search rules in
    c.decimal_average.ensures c.in-Decimal.p sum e
    ∙ sym (ap (λ b. cond b (Some Null) (average c.args.ty sum c.args.totals.known)) some ∙ ap (λ t. average t sum c.args.totals.known) c.in-Decimal.is)
