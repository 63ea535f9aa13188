use Rattle.std.proofs.Common.{ap, sym, ◌∙◌}
use Rattle.ct_field.specs.Typed.{is_true}
use Rattle.rel_algebra.specs.Aggregates.{passes}
use Rattle.agg_results.specs.Taken.{or_null}
use Rattle.agg_results.proofs.Weights.{cell_got}
use Rattle.agg_results.proofs.totals.passes.Goals as goal

pub returns-in-Some : goal.returns-in-Some
returns-in-Some c =
    c.is_true.ensures ∙ ap (λ o. is_true (or_null o)) c.get.ensures ∙ ap is_true (cell_got c.args.row.now c.in-Some.column) ∙ ap (λ filter. passes filter c.args.row.now) (sym c.in-Some.is)
