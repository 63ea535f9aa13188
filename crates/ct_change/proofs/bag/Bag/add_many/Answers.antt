use Rattle.std.proofs.Common.{◌≡◌, ◌+◌, ap, ◌∙◌, arith, Some}
use Rattle.std.specs.Option.{unwrap_or}
use Rattle.ct_value.specs.Bag as bag
use Rattle.ct_change.proofs.Counts.{copies_in, many_added, count_at}
use Rattle.ct_change.proofs.bag.Bag.add_many.Goals as goal

pub overflow_add-standing : goal.overflow_add-standing
overflow_add-standing c =
    let there : c.unwrap_or-standing.result ≡ count_at c.self.inside.counts c.args.row = c.unwrap_or-standing.ensures ∙ ap (λ o. unwrap_or o 0) (c.copied.ensures ∙ c.get.ensures.value) in
    let same = ap (λ b. bag.copies b c.args.row) c.self.view_is in
    omega (arith, c.requires, copies_in c.self.inside.counts c.args.row c.self.invariant.ordered)

pub returns-clause-ok : goal.returns-clause-ok
returns-clause-ok c =
    let there : c.unwrap_or-standing.result ≡ count_at c.self.inside.counts c.args.row = c.unwrap_or-standing.ensures ∙ ap (λ o. unwrap_or o 0) (c.copied.ensures ∙ c.get.ensures.value) in
    many_added c.self.inside.counts c.insert.new.self c.args.row (Some (c.unwrap_or-standing.result + c.args.count)) c.in_ok-insert.ensures.was_ordered c.in_ok-insert.ensures.ordered c.in_ok-insert.ensures.updates.0 c.args.count
    (omega (arith, there))
    ∙ ap (λ b. bag.add_many b c.args.row c.args.count) c.self.view_is
