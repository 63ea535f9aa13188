use Rattle.std.proofs.Common.{sym, ap, ◌∙◌}
use Rattle.std.specs.Option.{unwrap_or}
use Rattle.agg_fns.proofs.Counts.{copies_in}
use Rattle.agg_fns.proofs.value_bag.ValueBag.count.Goals as goal

pub returns-in-Some : goal.returns-in-Some
returns-in-Some c = rw (← c.self.view_is) (ap (λ o. unwrap_or o 0) c.in-Some.ensures.value ∙ sym (copies_in c.self.inside.counts c.args.value.now c.self.invariant.ordered))

pub returns-in-None : goal.returns-in-None
returns-in-None c = rw (← c.self.view_is) (ap (λ o. unwrap_or o 0) c.in-None.ensures.value ∙ sym (copies_in c.self.inside.counts c.args.value.now c.self.invariant.ordered))
