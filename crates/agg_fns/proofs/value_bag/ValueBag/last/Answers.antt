use Rattle.std.proofs.Common.{◌≡◌, length, sym, ap, ◌∙◌}
use Rattle.std.specs.Prelude.{option_copied}
use Rattle.ct_value.specs.Bag.{items}
use Rattle.agg_fns.specs.Standing.{last_item}
use Rattle.agg_fns.proofs.Ends.{last_kept, last_of_none, no_more}
use Rattle.agg_fns.proofs.value_bag.ValueBag.last.Goals as goal

pub returns-in_err-value : goal.returns-in_err-value
returns-in_err-value c =
    let none : length c.self.inside.counts.entries ≡ 0 = no_more (length c.self.inside.counts.entries) c.in_err-value.ensures.variant.1 in
    ap option_copied c.from_residual.ensures ∙ sym (last_of_none c.self.inside.counts none) ∙ ap (λ b. last_item (items b)) c.self.view_is

pub returns : goal.returns
returns c =
    sym (last_kept c.self.inside.counts c.self.invariant c.in_ok-value.value.now c.in_ok-value.field-0-1.now c.in_ok-value.ensures.value c.in_ok-value.ensures.greatest)
    ∙ ap (λ b. last_item (items b)) c.self.view_is
