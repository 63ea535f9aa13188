use Rattle.std.proofs.Common.{◌≡◌, ◌+◌, ℕ, Option, refl, ap, subst, ◌∙◌, arith, Some}
use Rattle.std.specs.Option.{unwrap_or, IsSome}
use Rattle.ct_value.specs.Bag as bag
use Rattle.agg_fns.proofs.Counts.{copies_in, one_added, count_at, bag_in}
use Rattle.agg_fns.proofs.value_bag.ValueBag.add.Goals as goal

pub overflow_add-count : goal.overflow_add-count
overflow_add-count c =
    let there : c.in-Some.count.now ≡ count_at c.self.inside.counts c.args.value = ap (λ o. unwrap_or o 0) c.in-Some.ensures.value in
    let same = ap (λ b. bag.copies b c.args.value) c.self.view_is in
    omega (arith, c.requires, copies_in c.self.inside.counts c.args.value c.self.invariant.ordered)

pub returns-in-Some-clause-ok : goal.returns-in-Some-clause-ok
returns-in-Some-clause-ok c =
    let there : c.in-Some.count.now ≡ count_at c.self.inside.counts c.args.value = ap (λ o. unwrap_or o 0) c.in-Some.ensures.value in
    let P : Option ℕ → Type 0 = λ o. IsSome o in
    let writes = c.get_mut.follows.holds (c.in-Some.count.now + 1) in
    one_added c.self.inside.counts (c.get_mut.follows.lender (c.in-Some.count.now + 1)) c.args.value (Some (c.in-Some.count.now + 1)) c.self.invariant.ordered writes.4
    (writes.3 (subst P c.in-Some.ensures.value refl)).0 (omega arith)
    ∙ ap (λ b. bag.add b c.args.value) c.self.view_is

pub returns-clause-ok : goal.returns-clause-ok
returns-clause-ok c =
    let same = c.get_mut.follows.holds-at-none in
    one_added c.get_mut.follows.lender-at-none c.insert.new.self c.args.value (Some 1) c.in_ok-insert.ensures.was_ordered c.in_ok-insert.ensures.ordered c.in_ok-insert.ensures.updates.0
    (let none : 0 ≡ count_at c.self.inside.counts c.args.value = ap (λ o. unwrap_or o 0) c.in_default.ensures.value in let e = ap (λ m. count_at m c.args.value) same in omega (arith, none, e))
    ∙ ap (λ m. bag.add (bag_in m) c.args.value) same ∙ ap (λ b. bag.add b c.args.value) c.self.view_is
