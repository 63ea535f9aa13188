use Rattle.std.proofs.Common.{Some, None, sym, ap, ◌∙◌}
use Rattle.ct_value.specs.Bag.{items}
use Rattle.rel_algebra.specs.Aggregates.{known}
use Rattle.agg_fns.specs.Standing.{last_item}
use Rattle.agg_fns.proofs.Merges.{known_with, on_ok}
use Rattle.agg_fns.proofs.cells.raise_by.Goals as goal

pub returns-in-Some-clause-ok : goal.returns-in-Some-clause-ok
returns-in-Some-clause-ok c = on_ok c.raise.result (λ taken values stands. taken (known values) stands ∙ ap (λ k. last_item (items k)) (sym (known_with values c.args.partial.now (Some c.in-Some.value.now) c.in-Some.ensures))) c.raise.ensures.ok

pub returns-in-None-clause-ok : goal.returns-in-None-clause-ok
returns-in-None-clause-ok c = λ values stands. stands ∙ ap (λ k. last_item (items k)) (sym (known_with values c.args.partial.now None c.in-None.ensures))
