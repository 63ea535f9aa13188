use Rattle.std.proofs.Common.{◌≡◌, ◌+◌, ℕ, Option, refl, ap, subst, ◌∙◌, arith, Some}
use Rattle.std.specs.Option.{unwrap_or, IsSome}
use Rattle.ct_value.specs.Bag as bag
use Rattle.ct_change.proofs.Counts.{copies_in, one_added, count_at}
use Rattle.ct_change.proofs.bag.Bag.add_again.Goals as goal

pub overflow_add-count : goal.overflow_add-count
overflow_add-count c =
    let there : c.in-Some.count.now ≡ count_at c.self.inside.counts c.args.row.now = ap (λ o. unwrap_or o 0) c.in-Some.ensures.value in
    let same = ap (λ b. bag.copies b c.args.row.now) c.self.view_is in
    omega (arith, c.requires.room, copies_in c.self.inside.counts c.args.row.now c.self.invariant.ordered)

pub returns-in_default : goal.returns-in_default
returns-in_default c = absurd (
    let none : 0 ≡ count_at c.self.inside.counts c.args.row.now = ap (λ o. unwrap_or o 0) c.in_default.ensures.value in
    let same = ap (λ b. bag.copies b c.args.row.now) c.self.view_is in
    omega (arith, c.requires.stands, copies_in c.self.inside.counts c.args.row.now c.self.invariant.ordered))

pub returns : goal.returns
returns c =
    let there : c.in-Some.count.now ≡ count_at c.self.inside.counts c.args.row.now = ap (λ o. unwrap_or o 0) c.in-Some.ensures.value in
    let P : Option ℕ → Type 0 = λ o. IsSome o in
    let writes = c.get_mut.follows.holds (c.in-Some.count.now + 1) in
    one_added c.self.inside.counts (c.get_mut.follows.lender (c.in-Some.count.now + 1)) c.args.row.now (Some (c.in-Some.count.now + 1)) c.self.invariant.ordered writes.4
    (writes.3 (subst P c.in-Some.ensures.value refl)).0 (omega arith)
    ∙ ap (λ b. bag.add b c.args.row.now) c.self.view_is
