use Rattle.std.proofs.Common.{Some, option_copied, sym, ap, ◌∙◌}
use Rattle.std.specs.BTreeMap.{keys}
use Rattle.std.specs.Map.{keys_of}
use Rattle.ct_value.specs.Bag.{bag_of}
use Rattle.ct_value.specs.Order.{value_cmp}
use Rattle.agg_results.specs.Seen.{seen_too}
use Rattle.agg_results.proofs.Different.{keys-insert}
use Rattle.agg_results.proofs.distinct_values.see.Goals as goal

pub returns : goal.returns
returns c =
    ap (λ es. bag_of {R = value_cmp} (keys_of es)) c.in_ok-insert.ensures.entries
    ∙ keys-insert c.args.seen.now.entries c.in_ok-dup.field-0 tt c.in_ok-insert.ensures.was_ordered
    ∙ ap (λ v. seen_too (Some v) (bag_of (keys c.args.seen.now))) c.in_ok-dup.ensures
    ∙ ap (λ o. seen_too (option_copied o) (bag_of (keys c.args.seen.now))) (sym c.in-Some.is)
