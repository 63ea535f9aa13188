use Rattle.std.proofs.Common.{◌+◌, refl, ap, ◌∙◌, arith, Some}
use Rattle.ct_value.specs.Bag as bag
use Rattle.ct_change.proofs.Counts.{copies_in, one_added, count_at}
use Rattle.ct_change.proofs.bag.Bag.add_known.Goals as goal

pub one_again-requires : goal.one_again-requires
one_again-requires c =
    let same = ap (λ b. bag.copies b c.args.row.now) c.self.view_is in
    omega (arith, c.requires, copies_in c.self.inside.counts c.args.row.now c.self.invariant.ordered)

pub returns-then-one_again-clause-ok : goal.returns-then-one_again-clause-ok
returns-then-one_again-clause-ok c =
    one_added c.self.inside.counts c.one_again.new.counts c.args.row.now (Some (count_at c.self.inside.counts c.args.row.now + 1)) c.self.invariant.ordered c.one_again.ensures.ordered (c.one_again.ensures.more c.if-one_again.true) refl
    ∙ ap (λ b. bag.add b c.args.row.now) c.self.view_is
